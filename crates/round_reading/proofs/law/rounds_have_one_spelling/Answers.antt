use Rattle.sha2.specs.Sha256.{sha256}
use Rattle.round_fields.proofs.Told.{teller, length-sha256}
use Rattle.round_reading.proofs.RoundLaws.{rounds_apart}
use Rattle.round_reading.proofs.law.rounds_have_one_spelling.Goals as goal

pub returns : goal.returns
returns c =
    let law = c.a_text_declares_or_has_one_fault.ensures in
    let t = teller law.either law.one_list law.no_fault in
    rounds_apart sha256 length-sha256 t.told t.tells law.one_list
