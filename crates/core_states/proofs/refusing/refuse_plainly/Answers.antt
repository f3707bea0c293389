use Rattle.std.proofs.Common.{refl}
use Rattle.cube_journal.specs.Refusals.{code}
use Rattle.cube_journal.specs.declared.note.Note.TheVariants as note
use Rattle.core_states.proofs.refusing.refuse_plainly.Goals as goal

pub refuse-requires-clause-may : goal.refuse-requires-clause-may
refuse-requires-clause-may g c =
    c.plain_notes_are_allowed.ensures (g.P.CellCaller.opening c.args.caller.now) (g.P.CellCaller.number c.args.caller.now)
    c.args.session.now.number (g.P.CellCaller.own c.args.caller.now)
    (note.Refused c.args.session.now.number c.args.session.now.statements (code c.args.refusal))
    (refl, c.requires.cubes, c.requires.store)
