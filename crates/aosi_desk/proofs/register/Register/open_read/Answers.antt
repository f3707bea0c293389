use Rattle.std.proofs.Common.{◌≡◌, ◌+◌, ◌≤◌, ◌++◌, [], ◌∷◌, true, false, None, Some, refl, subst, sym, ap, ◌∙◌, arith}
use Rattle.cube_journal.specs.declared.journal_entry.JournalEntry.TheVariants as entry
use Rattle.cube_journal.specs.Counters.{journal_state, held_by, lce}
use Rattle.cube_journal.specs.Entries.{note_entry}
use Rattle.cube_journal.specs.Legal.{CountersAllow}
use Rattle.aosi_desk.specs.State.{RegisterState, state_of, with_entry, held_epoch}
use Rattle.aosi_desk.specs.Fits.{Contents, contents, FitsJournal, HasRoomFor}
use Rattle.aosi_desk.proofs.Openings.{Laws, fits_cube}
use Rattle.aosi_desk.proofs.Wholes.{lce_shown, writer_shown, fits_same, few_pending, begun, begun_room, read, read_room, writes, reads_by, committed, aborted, ended_journal, ended_room, read_ended, read_ended_room, noted}
use Rattle.aosi_desk.proofs.Rounds.{fits_opening, opening_room, noted_room}
use Rattle.aosi_desk.proofs.register.Register.open_read.Goals as goal

pub invariant_of-self-2 : goal.invariant_of-self-2
invariant_of-self-2 c =
    let fits = fits_same (contents c.self.inside.fields) (contents c.reserve.new.self) c.self.inside.sessions
    c.self.inside.safe
    c.reserve.ensures.same c.self.invariant.0 in
    let laws : Laws = record { state = c.one_more_entry.ensures.state; legal = c.one_more_entry.ensures.legal } in
    let first = rw (← c.self.view_is) at c.requires.free in
    let free = subst (λ (x : Contents). held_by (journal_state c.self.inside.safe x.journal).snapshots
    c.args.session ≡ None)
    (sym c.reserve.ensures.same) first in
    let s = journal_state c.self.inside.safe (contents c.reserve.new.self).journal in
    let epoch = c.lce-epoch.ensures ∙ lce_shown (contents c.reserve.new.self) s fits.state in
    let copied = c.copy.ensures ∙ (λ i. record { epoch = epoch i; deps = c.new.ensures i; own = false }) in
    let e_is = ap (λ x. entry.Read c.args.session c.args.statement x) epoch in
    let room = read_room (contents c.reserve.new.self) (contents c.read.new.self) (contents c.add.new.self) _ _ _
    c.read.ensures.reads c.add.ensures.contents c.in_ok-reserve.ensures.room in (
      read laws (contents c.reserve.new.self) (contents c.read.new.self) (contents c.add.new.self)
          c.self.inside.sessions c.self.inside.safe c.args.session c.args.statement _ _ fits free
          (omega (arith, c.requires.high))
          (λ i. record { session = c.args.session; bound = epoch i; snapshot = copied i }) e_is c.read.ensures.reads
          c.add.ensures.contents,
      omega (arith, room, c.add.ensures.capacity, c.read.ensures.capacity),
    )
