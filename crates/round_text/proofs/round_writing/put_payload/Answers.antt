use Rattle.std.proofs.Common.{append_assoc}
use Rattle.round_text.proofs.round_writing.put_payload.Goals as goal

pub returns : goal.returns
returns c =
    rw (c.in_ok-put_cubes.ensures, c.in_ok-put_made.ensures, c.in_ok-put_eight.ensures, c.as_slice-made.ensures, c.as_slice.ensures) (simp append_assoc)
