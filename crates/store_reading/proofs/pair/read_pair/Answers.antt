use Rattle.std.proofs.Common.{arith}
use Rattle.sha2.specs.Sha256.{sha256}
use Rattle.round_fields.proofs.Told.{teller, length-sha256}
use Rattle.store_reading.proofs.PairsRead.{found_of, only_by}
use Rattle.store_reading.proofs.pair.read_pair.Goals as goal

pub returns-clause-found : goal.returns-clause-found
returns-clause-found c =
    let law = c.a_text_declares_or_has_one_fault.ensures in
    let t = teller law.either law.one_list law.no_fault in
    found_of sha256 length-sha256 t.told t.tells law.one_list c.args.first.now c.args.second.now (λ i. omega (arith, c.type_inv.first i)) (λ i. omega (arith, c.type_inv.second i))
    c.content_of_pair.result (c.content_of_pair.ensures t.told t.tells)

pub returns-clause-only : goal.returns-clause-only
returns-clause-only c = λ kept stands.
    let law = c.a_text_declares_or_has_one_fault.ensures in
    let t = teller law.either law.one_list law.no_fault in
    only_by sha256 length-sha256 t.told t.tells law.one_list kept c.args.first.now c.args.second.now (λ i. omega (arith, c.type_inv.first i)) (λ i. omega (arith, c.type_inv.second i))
    (omega arith) (omega arith) stands c.content_of_pair.result (c.content_of_pair.ensures t.told t.tells)
