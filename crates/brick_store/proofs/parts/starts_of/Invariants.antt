use Rattle.std.proofs.Common.{◌≡◌, take, length, vec_len, vec_capacity}
use Rattle.brick_store.specs.Whole.{starts_of}
use Rattle.brick_store.proofs.parts.starts_of.Given as goal

abbrev pub invariant-loop-dim : goal.invariant-loop-dim
invariant-loop-dim l = record {
  starts : l.starts.items ≡ take l.dim (starts_of l.shape.sizes l.number);
  count : vec_len l.starts ≡ l.dim;
  room : vec_capacity l.starts ≡ length l.shape.sizes;
}
