use Rattle.std.proofs.Common.{append_assoc}
use Rattle.round_text.proofs.HeaderLaws.{head-is_second}
use Rattle.round_text.proofs.header_writing.head_of.Goals as goal

pub returns : goal.returns
returns c =
    rw (c.in_ok-extend_from_slice-2.ensures.items, c.in_ok-put_eight.ensures, c.in_ok-put_four-2.ensures, c.in_ok-put_four.ensures, c.in_ok-extend_from_slice.ensures.items, c.in_ok-head.ensures.items) (simp append_assoc
    (head-is_second c.args.generation c.args.cubes.now c.requires.first))
