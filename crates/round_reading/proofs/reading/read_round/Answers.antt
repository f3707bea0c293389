use Rattle.std.proofs.Common.{subst, arith}
use Rattle.sha2.specs.Sha256.{sha256}
use Rattle.round_fields.specs.Reading.{GivesRead}
use Rattle.round_fields.proofs.Told.{teller, length-sha256}
use Rattle.round_reading.proofs.RoundLaws.{found_by, begins_by, size_by, only_by, round_again}
use Rattle.round_reading.proofs.reading.read_round.Goals as goal

pub returns-clause-found : goal.returns-clause-found
returns-clause-found c =
    let law = c.a_text_declares_or_has_one_fault.ensures in
    let t = teller law.either law.one_list law.no_fault in
    begins_by sha256 c.args.cubes.now c.args.names.now c.args.bytes.now c.round_in.result
    (found_by sha256 length-sha256 t.told t.tells c.args.cubes.now c.args.names.now c.are_storable.ensures c.requires c.args.bytes.now (λ i. omega (arith, c.type_inv.bytes i)) c.round_in.result (c.round_in.ensures t.told t.tells))

pub returns-clause-size : goal.returns-clause-size
returns-clause-size c =
    let law = c.a_text_declares_or_has_one_fault.ensures in
    let t = teller law.either law.one_list law.no_fault in
    size_by sha256 c.args.cubes.now c.args.names.now c.args.bytes.now c.round_in.result
    (found_by sha256 length-sha256 t.told t.tells c.args.cubes.now c.args.names.now c.are_storable.ensures c.requires c.args.bytes.now (λ i. omega (arith, c.type_inv.bytes i)) c.round_in.result (c.round_in.ensures t.told t.tells))

pub returns-clause-only : goal.returns-clause-only
returns-clause-only c = λ round begins.
    let law = c.a_text_declares_or_has_one_fault.ensures in
    let t = teller law.either law.one_list law.no_fault in
    only_by c.round_in.result round _
    (subst (λ r. GivesRead (λ x. x) c.round_in.result r)
    (round_again sha256 length-sha256 t.told t.tells law.one_list c.args.cubes.now c.args.names.now c.are_storable.ensures c.args.bytes.now round (omega arith) begins)
    (c.round_in.ensures t.told t.tells))
