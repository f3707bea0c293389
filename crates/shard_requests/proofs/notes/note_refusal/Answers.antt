use Rattle.std.proofs.Common.{ℕ, [], ◌∷◌, subst, sym}
use Rattle.std.specs.Bool.{OnTrue}
use Rattle.cube_journal.specs.declared.journal_entry.JournalEntry.TheVariants as entry
use Rattle.cube_journal.specs.declared.note.Note.TheVariants as note
use Rattle.session_requests.specs.SessionRequests.{MayNoteOfShards}
use Rattle.shard_statements.specs.OverShards.{LeavesOverShards}
use Rattle.shard_requests.proofs.notes.note_refusal.Goals as goal

pub try_note-requires-clause-may : goal.try_note-requires-clause-may
try_note-requires-clause-may g c =
    subst (λ (n : ℕ). MayNoteOfShards (g.P.CellCaller.opening c.args.caller.now) (g.P.CellCaller.number c.args.caller.now)
    c.args.session (g.P.CellCaller.own c.args.caller.now) (note.Refused c.args.session c.args.statement n)) (sym c.code.ensures)
    c.requires.may

pub returns-clause-left : goal.returns-clause-left
returns-clause-left g c =
    subst (λ (n : ℕ). OnTrue c.try_note.result (LeavesOverShards (g.P.CellCaller.opening c.args.caller.now)
    (g.P.CellCaller.number c.args.caller.now) c.args.session (g.P.CellCaller.own c.args.caller.now)
    (g.P.CellCaller.own c.try_note.new.caller) (entry.Refused c.args.session c.args.statement n ∷ []))) c.code.ensures
    c.try_note.ensures.left
