use Rattle.std.proofs.Common.{◌≡◌, ◌++◌, take}
use Rattle.std.specs.List.{flat_map, zip}
use Rattle.cube_rounds.specs.Bytes.{cube_bytes}
use Rattle.round_text.proofs.round_writing.put_cubes.Given as goal

abbrev pub invariant-cubes : goal.invariant-cubes
invariant-cubes l = l.out.items ≡ l.fn.out.items ++ flat_map (λ c. cube_bytes c.0 c.1) (take l.i (zip (l.before ++ l.made) l.parts))
