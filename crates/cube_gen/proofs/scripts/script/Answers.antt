use Rattle.std.proofs.Common.{append_assoc}
use Rattle.cube_gen.proofs.scripts.script.Goals as goal

pub returns : goal.returns
returns c =
    rw (c.in_ok-extend_from_slice.ensures.items, c.in_ok-put_u64.ensures, c.from.ensures, c.in_ok-out.ensures.items) (simp append_assoc)
