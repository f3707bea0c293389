use Rattle.std.proofs.Common.{◌≡◌, ◌-◌, length, take, drop, ap, arith}
use Rattle.std.proofs.lemmas.List.{length-drop}
use Rattle.std.proofs.lemmas.Slice.{between_to_end}
use Rattle.outside_disk.proofs.Bytes.{copied_piece}
use Rattle.outside_disk.proofs.disk_bytes.copy_piece.Goals as goal

pub returns-clause-piece : goal.returns-clause-piece
returns-clause-piece c =
    let bytes = c.args.bytes.now in
    let at = c.args.at in
    let most = c.min-most.result in
    let rest : take (length bytes - at) (drop at bytes) ≡ drop at bytes = between_to_end bytes at (length bytes) (omega arith) in
    let len = length-drop at bytes in
    let least = rw rest at c.min-most.ensures in
    copied_piece bytes _ c.args.into.now c.copy_bytes.new.into at most c.if-bytes-at.false (ap (take most) rest) (omega (arith, len, least))
    (omega (arith, least)) (λ none. omega (arith, len, least, none)) c.copy_bytes.auto.into c.copy_bytes.ensures
