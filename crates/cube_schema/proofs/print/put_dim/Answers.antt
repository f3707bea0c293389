use Rattle.std.proofs.Common.{append_assoc}
use Rattle.cube_schema.proofs.print.put_dim.Goals as goal

pub returns : goal.returns
returns c =
    rw (c.in_ok-extend_from_slice-7.ensures.items, c.in_ok-put_u64-2.ensures, c.from-2.ensures, c.in_ok-extend_from_slice-6.ensures.items, c.in_ok-put_u64.ensures, c.from.ensures, c.in_ok-extend_from_slice-5.ensures.items, c.in_ok-extend_from_slice-4.ensures.items, c.in_ok-extend_from_slice-3.ensures.items, c.in_ok-extend_from_slice-2.ensures.items, c.in_ok-extend_from_slice.ensures.items, c.kind_word.ensures, c.as_bytes.ensures) (simp append_assoc)
