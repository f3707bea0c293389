use Rattle.std.proofs.Common.{◌≡◌, ◌+◌, ◌≤◌, ◌++◌, [], ◌∷◌, true, false, None, Some, refl, subst, sym, ap, ◌∙◌, arith}
use Rattle.cube_journal.specs.declared.journal_entry.JournalEntry.TheVariants as entry
use Rattle.cube_journal.specs.Counters.{journal_state, held_by, lce}
use Rattle.cube_journal.specs.Entries.{note_entry}
use Rattle.cube_journal.specs.Legal.{CountersAllow}
use Rattle.aosi_desk.specs.State.{RegisterState, state_of, with_entry, held_epoch}
use Rattle.aosi_desk.specs.Fits.{Contents, contents, FitsJournal, HasRoomFor}
use Rattle.aosi_desk.proofs.Openings.{Laws, fits_cube}
use Rattle.aosi_desk.proofs.Wholes.{lce_shown, writer_shown, fits_same, few_pending, begun, begun_room, read, read_room, writes, reads_by, committed, aborted, ended_journal, ended_room, read_ended, read_ended_room, noted}
use Rattle.aosi_desk.proofs.Rounds.{fits_opening, opening_room, noted_room}
use Rattle.aosi_desk.proofs.register.Register.counters.Goals as goal

pub counters-requires-clause-few : goal.counters-requires-clause-few
counters-requires-clause-few c =
    few_pending (contents c.self.inside.fields) c.self.inside.sessions c.self.inside.safe c.self.invariant.0
