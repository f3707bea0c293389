use Rattle.std.proofs.Common.{arith}
use Rattle.sha2.specs.Sha256.{sha256}
use Rattle.round_fields.proofs.Told.{teller, length-sha256}
use Rattle.store_reading.proofs.Following.{next_found}
use Rattle.store_reading.proofs.rounds.found_round.Goals as goal

pub returns-clause-found : goal.returns-clause-found
returns-clause-found c =
    let law = c.a_text_declares_or_has_one_fault.ensures in
    let t = teller law.either law.one_list law.no_fault in
    next_found sha256 length-sha256 t.told t.tells c.args.size c.args.kept.now c.requires.readable c.args.left.now (λ i. omega (arith, c.type_inv.left i)) c.next_round.result (c.next_round.ensures.exact t.told t.tells)
