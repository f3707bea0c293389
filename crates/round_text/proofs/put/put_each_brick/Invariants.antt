use Rattle.std.proofs.Common.{◌≡◌, ◌++◌, take}
use Rattle.std.specs.List.{flat_map}
use Rattle.cube_rounds.specs.Bytes.{brick_bytes}
use Rattle.round_text.proofs.put.put_each_brick.Given as goal

abbrev pub invariant-bricks : goal.invariant-bricks
invariant-bricks l = l.out.items ≡ l.fn.out.items ++ flat_map brick_bytes (take l.brick-index l.bricks)
