use Rattle.std.proofs.Common.{ap, [], ◌∷◌, None}
use Rattle.cube_journal.specs.declared.counters.Counters.{Counters}
use Rattle.cube_journal.specs.declared.journal_entry.JournalEntry.TheVariants as entry
use Rattle.session_desk.specs.Entries.{HasNotes}
use Rattle.session_desk.proofs.Asking.{purge_fits}
use Rattle.session_desk.proofs.Following.{if_true, keeps_through, notes_of, purge_fits_after}
use Rattle.session_desk.proofs.Moving.{moves_flushed, moves_same, moves_then}
use Rattle.session_desk.proofs.RoundEntries.{keeps}
use Rattle.session_desk.proofs.rounds.note_round.Goals as goal

pub note_purge-requires : goal.note_purge-requires
note_purge-requires c =
    purge_fits c.note.new.self.register.safe c.in-Ok.counters.lse c.note.new.self.register.journal
    (purge_fits_after c.args.statement c.in-Ok.counters.lse c.args.desk.now c.note.new.self c.in-Ok.ensures.desk
    (ap (λ (x : Counters). x.lse) c.in-Ok.ensures.counters))

pub returns-in-Ok-clause-noted : goal.returns-in-Ok-clause-noted
returns-in-Ok-clause-noted c =
    if_true c.note_purge.result _ (HasNotes c.args.statement c.args.desk.now c.note_purge.new.desk)
    c.note_purge.ensures.noted
    (notes_of c.args.statement c.in-Ok.counters.lse c.args.desk.now c.note.new.self c.note_purge.new.desk
    c.in-Ok.ensures.desk)

pub returns-in-Ok-clause-kept : goal.returns-in-Ok-clause-kept
returns-in-Ok-clause-kept c =
    keeps_through c.args.desk.now c.note.new.self c.note_purge.new.desk
    (keeps c.args.desk.now c.note.new.self (entry.Flushed 1 c.args.statement ∷ []) c.in-Ok.ensures.desk
    (λ safe mode h. h))
    c.note_purge.ensures.kept

pub returns-in-Ok-clause-moves : goal.returns-in-Ok-clause-moves
returns-in-Ok-clause-moves c =
    moves_then None c.args.desk.now c.note.new.self c.note_purge.new.desk
    (moves_flushed c.args.statement c.args.desk.now c.note.new.self c.in-Ok.ensures.desk) c.note_purge.ensures.moves

pub returns-in-Err-clause-moves : goal.returns-in-Err-clause-moves
returns-in-Err-clause-moves c = moves_same c.args.desk.now c.note.new.self c.in-Err.ensures.same
