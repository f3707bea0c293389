use Rattle.std.proofs.Common.{◌≤◌, ◌+◌, take, All, vec_len, vec_capacity}
use Rattle.brick_columns.specs.Lists.{IsGrown}
use Rattle.brick_columns.proofs.InPlace.{ChangesEach}
use Rattle.brick_columns.proofs.lists.reserve_each.Given as goal

abbrev pub invariant-loop-list : goal.invariant-loop-list
invariant-loop-list g l = record {
  grown : ChangesEach IsGrown l.initial.lists l.initial.lists l.lists l.list-index;
  room : All (λ list. vec_len list + l.more ≤ vec_capacity list) (take l.list-index l.lists);
}
