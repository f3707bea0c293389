use Rattle.std.proofs.Common.{◌≡◌, ◌+◌, ◌≤◌, ◌++◌, [], ◌∷◌, true, false, None, Some, refl, subst, sym, ap, ◌∙◌, arith}
use Rattle.cube_journal.specs.declared.journal_entry.JournalEntry.TheVariants as entry
use Rattle.cube_journal.specs.Counters.{journal_state, held_by, lce}
use Rattle.cube_journal.specs.Entries.{note_entry}
use Rattle.cube_journal.specs.Legal.{CountersAllow}
use Rattle.aosi_desk.specs.State.{RegisterState, state_of, with_entry, held_epoch}
use Rattle.aosi_desk.specs.Fits.{Contents, contents, FitsJournal, HasRoomFor}
use Rattle.aosi_desk.proofs.Openings.{Laws, fits_cube}
use Rattle.aosi_desk.proofs.Wholes.{lce_shown, writer_shown, fits_same, few_pending, begun, begun_room, read, read_room, writes, reads_by, committed, aborted, ended_journal, ended_room, read_ended, read_ended_room, noted}
use Rattle.aosi_desk.proofs.Rounds.{fits_opening, opening_room, noted_room}
use Rattle.aosi_desk.proofs.register.Register.close_read.Goals as goal

pub end_reader-requires-clause-session : goal.end_reader-requires-clause-session
end_reader-requires-clause-session c =
    (reads_by (contents c.self.inside.fields) c.self.inside.sessions c.self.inside.safe c.args.session
    c.self.invariant.0 (rw (← c.self.view_is) at c.requires)).within

pub end_reader-requires-clause-reader : goal.end_reader-requires-clause-reader
end_reader-requires-clause-reader c =
    (reads_by (contents c.self.inside.fields) c.self.inside.sessions c.self.inside.safe c.args.session
    c.self.invariant.0 (rw (← c.self.view_is) at c.requires)).reader

pub invariant_of-self : goal.invariant_of-self
invariant_of-self c =
    let laws : Laws = record { state = c.one_more_entry.ensures.state; legal = c.one_more_entry.ensures.legal } in
    let held = reads_by (contents c.self.inside.fields) c.self.inside.sessions c.self.inside.safe c.args.session
    c.self.invariant.0 (rw (← c.self.view_is) at c.requires) in
    let room = read_ended_room laws (contents c.self.inside.fields) (contents c.end_reader.new.self)
    (contents c.add.new.self)
    c.self.inside.sessions c.self.inside.safe c.args.session c.self.invariant.0 held.within c.end_reader.ensures.ends
    c.args.statement c.add.ensures.contents _ c.self.invariant.1 in (
      read_ended laws (contents c.self.inside.fields) (contents c.end_reader.new.self) (contents c.add.new.self)
          c.self.inside.sessions c.self.inside.safe c.args.session c.self.invariant.0 held.within
          c.end_reader.ensures.ends
          c.args.statement c.add.ensures.contents,
      omega (arith, room, c.add.ensures.capacity, c.end_reader.ensures.capacity),
    )
