use Rattle.std.proofs.Common.{◌≡◌, ◌++◌, take}
use Rattle.std.specs.List.{flat_map, zip}
use Rattle.cube_rounds.specs.Bytes.{names_bytes}
use Rattle.round_text.proofs.round_writing.put_dims.Given as goal

abbrev pub invariant-dims : goal.invariant-dims
invariant-dims l = l.out.items ≡ l.fn.out.items ++ flat_map (λ d. names_bytes d.0 d.1) (take l.i (zip l.dims l.lists))
