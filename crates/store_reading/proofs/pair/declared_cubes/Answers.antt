use Rattle.round_fields.proofs.Told.{teller}
use Rattle.store_reading.proofs.Texts.{told_canonical, never_none}
use Rattle.store_reading.proofs.pair.declared_cubes.Goals as goal

pub unreachable-requires : goal.unreachable-requires
unreachable-requires c =
    let law = c.a_text_declares_or_has_one_fault.ensures in
    let t = teller law.either law.one_list law.no_fault in
    let e = rw c.in-None.is at (c.in_ok-cubes.ensures t.told t.tells) in
    never_none t.told t.tells c.args.text.now c.requires.0 e c.requires.1

pub returns-clause-canonical : goal.returns-clause-canonical
returns-clause-canonical c =
    let law = c.a_text_declares_or_has_one_fault.ensures in
    let t = teller law.either law.one_list law.no_fault in
    let e = rw c.in-Some.is at (c.in_ok-cubes.ensures t.told t.tells) in
    rw c.from_vec.ensures (told_canonical t.told t.tells c.args.text.now c.in-Some.cubes.items e)
