use Rattle.std.proofs.Common.{subst, arith}
use Rattle.sha2.specs.Sha256.{sha256}
use Rattle.round_fields.specs.Reading.{GivesRead}
use Rattle.round_text.proofs.HeaderLaws.{found_by, begins_by, size_by, only_by, header_again}
use Rattle.round_fields.proofs.Told.{teller, length-sha256}
use Rattle.round_text.proofs.header_reading.read_header.Goals as goal

pub returns-clause-found : goal.returns-clause-found
returns-clause-found c =
    let law = c.a_text_declares_or_has_one_fault.ensures in
    let t = teller law.either law.one_list law.no_fault in
    begins_by sha256 c.args.bytes.now c.header_in.result
    (found_by t.told t.tells sha256 c.args.bytes.now (λ i. omega (arith, c.type_inv.bytes i)) c.header_in.result (c.header_in.ensures t.told t.tells))

pub returns-clause-size : goal.returns-clause-size
returns-clause-size c =
    let law = c.a_text_declares_or_has_one_fault.ensures in
    let t = teller law.either law.one_list law.no_fault in
    size_by sha256 length-sha256 c.args.bytes.now c.header_in.result
    (found_by t.told t.tells sha256 c.args.bytes.now (λ i. omega (arith, c.type_inv.bytes i)) c.header_in.result (c.header_in.ensures t.told t.tells))

pub returns-clause-only : goal.returns-clause-only
returns-clause-only c = λ generation text begins.
    let law = c.a_text_declares_or_has_one_fault.ensures in
    let t = teller law.either law.one_list law.no_fault in
    only_by c.header_in.result _ generation text
    (subst (λ r. GivesRead (λ h. h) c.header_in.result r) (header_again sha256 t.told t.tells length-sha256 c.args.bytes.now generation text begins) (c.header_in.ensures t.told t.tells))
