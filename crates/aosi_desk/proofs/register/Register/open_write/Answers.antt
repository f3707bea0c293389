use Rattle.std.proofs.Common.{◌≡◌, ◌+◌, ◌≤◌, ◌++◌, [], ◌∷◌, true, false, None, Some, refl, subst, sym, ap, ◌∙◌, arith}
use Rattle.cube_journal.specs.declared.journal_entry.JournalEntry.TheVariants as entry
use Rattle.cube_journal.specs.Counters.{journal_state, held_by, lce}
use Rattle.cube_journal.specs.Entries.{note_entry}
use Rattle.cube_journal.specs.Legal.{CountersAllow}
use Rattle.aosi_desk.specs.State.{RegisterState, state_of, with_entry, held_epoch}
use Rattle.aosi_desk.specs.Fits.{Contents, contents, FitsJournal, HasRoomFor}
use Rattle.aosi_desk.proofs.Openings.{Laws, fits_cube}
use Rattle.aosi_desk.proofs.Wholes.{lce_shown, writer_shown, fits_same, few_pending, begun, begun_room, read, read_room, writes, reads_by, committed, aborted, ended_journal, ended_room, read_ended, read_ended_room, noted}
use Rattle.aosi_desk.proofs.Rounds.{fits_opening, opening_room, noted_room}
use Rattle.aosi_desk.proofs.register.Register.open_write.Goals as goal

pub next_writer-snapshot-requires : goal.next_writer-snapshot-requires
next_writer-snapshot-requires c =
    let fits = fits_same (contents c.self.inside.fields) (contents c.reserve.new.self) c.self.inside.sessions
    c.self.inside.safe
    c.reserve.ensures.same c.self.invariant.0 in
    few_pending (contents c.reserve.new.self) c.self.inside.sessions c.self.inside.safe fits

pub invariant_of-self-2 : goal.invariant_of-self-2
invariant_of-self-2 c =
    let fits = fits_same (contents c.self.inside.fields) (contents c.reserve.new.self) c.self.inside.sessions
    c.self.inside.safe
    c.reserve.ensures.same c.self.invariant.0 in
    let laws : Laws = record { state = c.one_more_entry.ensures.state; legal = c.one_more_entry.ensures.legal } in
    let first = rw (← c.self.view_is) at c.requires.free in
    let free = subst (λ (x : Contents). held_by (journal_state c.self.inside.safe x.journal).snapshots
    c.args.session ≡ None)
    (sym c.reserve.ensures.same) first in
    let s = journal_state c.self.inside.safe (contents c.reserve.new.self).journal in
    let high = rw (← c.self.view_is) at c.requires.high in
    let bound = c.lce-bound.ensures ∙ lce_shown (contents c.reserve.new.self) s fits.state in
    let is = c.next_writer-snapshot.ensures ∙ writer_shown (contents c.reserve.new.self) s fits.state in
    let copied = c.copy.ensures ∙ is in
    let deps = c.copy-2.ensures ∙ (λ i. (is i).deps) in
    let room = begun_room (contents c.reserve.new.self) (contents c.begin.new.self) (contents c.add.new.self) _ _ _
    c.begin.ensures.begins c.add.ensures.contents c.in_ok-reserve.ensures.room in (
      begun laws (contents c.reserve.new.self) (contents c.begin.new.self) (contents c.add.new.self)
          c.self.inside.sessions c.self.inside.safe c.args.session c.args.statement _ _ fits free c.requires.low high
          (λ i. record { session = c.args.session; bound = bound i; snapshot = copied i })
          (λ i. entry.Begin c.args.session c.args.statement ((is i).epoch) (deps i)) c.begin.ensures.begins
          c.add.ensures.contents,
      omega (arith, room, c.add.ensures.capacity, c.begin.ensures.capacity),
    )
