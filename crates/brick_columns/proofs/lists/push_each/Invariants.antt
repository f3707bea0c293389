use Rattle.std.specs.List.{zip}
use Rattle.brick_columns.specs.Lists.{IsPushed}
use Rattle.brick_columns.proofs.InPlace.{ChangesEach}
use Rattle.brick_columns.proofs.lists.push_each.Given as goal

abbrev pub invariant-loop-i : goal.invariant-loop-i
invariant-loop-i g l =
    ChangesEach (λ p column. IsPushed p.0 p.1 column) (zip l.initial.lists l.row) l.initial.lists l.lists l.i
