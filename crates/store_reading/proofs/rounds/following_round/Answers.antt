use Rattle.std.proofs.Common.{arith}
use Rattle.sha2.specs.Sha256.{sha256}
use Rattle.round_fields.proofs.Told.{teller}
use Rattle.store_reading.proofs.Following.{place_within}
use Rattle.store_reading.proofs.rounds.following_round.Goals as goal

pub round_fault-requires : goal.round_fault-requires
round_fault-requires c =
    let law = c.a_text_declares_or_has_one_fault.ensures in
    let t = teller law.either law.one_list law.no_fault in
    let e = rw c.in-Err-Fault.field-0-is at (c.in-Err-Fault.ensures.exact t.told t.tells) in
    omega (arith, place_within sha256 t.told _ _ c.args.bytes.now c.in-Err-Fault.fault e, c.requires.place)
