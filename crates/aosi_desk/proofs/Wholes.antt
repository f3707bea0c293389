-- From what the calls on the fields say to the invariant of the register.
use Rattle.std.proofs.Common.{◌≡◌, ℕ, ◌+◌, ◌-◌, ◌<◌, ◌≤◌, Bool, true, false, List, [], ◌∷◌, ◌++◌, length, set, Option, Some, None, fold, min, refl, subst, sym, ◌∙◌, ap, arith, length-append}
use Rattle.std.specs.Option.{IsSomeAnd, option_map_or}
use Rattle.std.proofs.lemmas.List.{length-map}
use Rattle.cube_values.specs.declared.snapshot.Snapshot.{Snapshot}
use Rattle.cube_journal.specs.declared.counters.Counters.{Counters}
use Rattle.cube_journal.specs.declared.counters.OpenSnapshot.{OpenSnapshot}
use Rattle.cube_journal.specs.declared.journal_entry.AbortCause.{AbortCause}
use Rattle.cube_journal.specs.declared.journal_entry.JournalEntry.{JournalEntry}
use Rattle.cube_journal.specs.declared.journal_entry.JournalEntry.TheVariants as entry
use Rattle.cube_journal.specs.Counters.{JournalState, journal_state, held_by, lce, target, oldest_bound, counters_in}
use Rattle.cube_journal.specs.declared.note.Note.{Note}
use Rattle.cube_journal.specs.Entries.{note_entry}
use Rattle.cube_journal.specs.Legal.{CountersAllow}
use Rattle.linked_roll.specs.Members.{Member, member, item_by_ticket, items, members_without}
use Rattle.linked_roll.proofs.Tickets.{length-taken}
use Rattle.aosi_desk.specs.State.{writer_snapshot, reader_snapshot, IsWriting, held_epoch}
use Rattle.aosi_desk.specs.Holds.{hold_of, is_writer, is_reader, HoldFits}
use Rattle.aosi_desk.specs.Fits.{Contents, ShowsState, FitsJournal, entries_owed, counters_of, BeginsSnapshot, Reads, EndsWriter, EndsReader}
use Rattle.aosi_desk.proofs.Pending.{WritersCount-most}
use Rattle.aosi_desk.proofs.Sessions.{writer_within, reader_within, holds_writer, holds_reader, WriterOf, writer_of, ReaderOf, reader_of}
use Rattle.aosi_desk.proofs.Openings.{Laws, length-added, fits_noted, fits_read, fits_begun}
use Rattle.aosi_desk.proofs.Ends.{fits_read_end, fits_committed, fits_aborted}

-- Fields that show a state have its counters.
pub lce_shown : (k : Contents) (s : JournalState) → ShowsState k s → fold min k.ec (items k.pending) - 1 ≡ lce s
lce_shown k s shows = λ i. fold min (shows.ec i) (shows.pending i) - 1

pub writer_shown : (k : Contents) (s : JournalState) → ShowsState k s
    → record { epoch = k.ec; deps = items k.pending; own = true } ≡ writer_snapshot s
writer_shown k s shows = λ i. record { epoch = shows.ec i; deps = shows.pending i; own = true }

pub counters_shown : (k : Contents) (s : JournalState) → ShowsState k s → counters_of k ≡ counters_in s
counters_shown k s shows = λ i. record {
  ec = shows.ec i;
  lce = fold min (shows.ec i) (shows.pending i) - 1;
  lse = shows.lse i;
  pending = shows.pending i;
}

pub target_shown : (k : Contents) (s : JournalState) → ShowsState k s
    → oldest_bound (items k.snapshots) (fold min k.ec (items k.pending) - 1) ≡ target s
target_shown k s shows = λ i. oldest_bound (shows.snapshots i) (fold min (shows.ec i) (shows.pending i) - 1)

-- The same contents fit as well.
pub fits_same : (k same : Contents) (sessions safe : ℕ) → same ≡ k → FitsJournal k sessions safe
    → FitsJournal same sessions safe
fits_same k same sessions safe is fits = subst (λ x. FitsJournal x sessions safe) (sym is) fits

-- There are few pending epochs.
pub few_pending : (k : Contents) (sessions safe : ℕ) → FitsJournal k sessions safe → length (items k.pending) ≤ 16
few_pending k sessions safe fits =
    omega (
      arith,
      length-map k.pending (λ m. m.item),
      WritersCount-most k.holds sessions (length k.pending)
          fits.writers,
      fits.sizes.few,
    )

-- A snapshot that was opened, and the entry added.
pub begun : (laws : Laws) (k mid new : Contents) (sessions safe n statement : ℕ) (o : OpenSnapshot) (e : JournalEntry)
    (fits : FitsJournal k sessions safe) → held_by (journal_state safe k.journal).snapshots n ≡ None → 1 ≤ n
    → n ≤ sessions
    → o ≡ record {
      session = n;
      bound = lce (journal_state safe k.journal);
      snapshot = writer_snapshot (journal_state safe k.journal);
    }
    → e ≡ entry.Begin n statement (journal_state safe k.journal).ec (journal_state safe k.journal).pending
    → BeginsSnapshot k mid o → new ≡ record mid { journal = mid.journal ++ e ∷ [] } → FitsJournal new sessions safe
begun laws k mid new sessions safe n statement o e fits free low high o_is e_is begins new_is =
    let b = subst (BeginsSnapshot k mid) o_is begins in
    let added : new ≡ record mid {
      journal = mid.journal ++ entry.Begin n statement
          (journal_state safe k.journal).ec (journal_state safe k.journal).pending ∷ [];
    } =
    new_is ∙ ap (λ x. record mid { journal = mid.journal ++ x ∷ [] }) e_is in
    subst (λ x. FitsJournal x sessions safe)
    (sym (added ∙ ap (λ (m : Contents). record m {
      journal = m.journal ++ entry.Begin n statement (journal_state safe k.journal).ec
          (journal_state safe k.journal).pending ∷ [];
    }) b.is))
    (fits_begun laws k sessions safe fits n statement free b.ticket b.fresh low high b.other b.other_fresh)

pub begun_room : (k mid new : Contents) (o : OpenSnapshot) (e : JournalEntry) (room : ℕ) → BeginsSnapshot k mid o
    → new ≡ record mid { journal = mid.journal ++ e ∷ [] } → length k.journal + (entries_owed k + 2) ≤ room
    → length new.journal + (entries_owed new + 0) ≤ room
begun_room k mid new o e room begins new_is enough =
    subst (λ (x : Contents). length x.journal + (entries_owed x + 0) ≤ room)
    (sym (new_is ∙ ap (λ (m : Contents). record m { journal = m.journal ++ e ∷ [] }) begins.is))
    (omega (arith, enough, length-added k.journal e, length-added k.snapshots (member begins.ticket o)))

pub read : (laws : Laws) (k mid new : Contents) (sessions safe n statement : ℕ) (o : OpenSnapshot) (e : JournalEntry)
    (fits : FitsJournal k sessions safe) → held_by (journal_state safe k.journal).snapshots n ≡ None → n < 49
    → o ≡ record {
      session = n;
      bound = lce (journal_state safe k.journal);
      snapshot = reader_snapshot (journal_state safe k.journal);
    }
    → e ≡ entry.Read n statement (lce (journal_state safe k.journal))
    → Reads k mid o → new ≡ record mid { journal = mid.journal ++ e ∷ [] } → FitsJournal new sessions safe
read laws k mid new sessions safe n statement o e fits free high o_is e_is reads new_is =
    let b = subst (Reads k mid) o_is reads in
    let added : new ≡ record mid {
      journal = mid.journal ++ entry.Read n statement
          (lce (journal_state safe k.journal)) ∷ [];
    } =
    new_is ∙ ap (λ x. record mid { journal = mid.journal ++ x ∷ [] }) e_is in
    subst (λ x. FitsJournal x sessions safe)
    (sym (added ∙ ap (λ (m : Contents). record m
    { journal = m.journal ++ entry.Read n statement (lce (journal_state safe k.journal)) ∷ [] }) b.is))
    (fits_read laws k sessions safe fits n statement free b.ticket b.fresh high)

pub read_room : (k mid new : Contents) (o : OpenSnapshot) (e : JournalEntry) (room : ℕ) → Reads k mid o
    → new ≡ record mid { journal = mid.journal ++ e ∷ [] } → length k.journal + (entries_owed k + 2) ≤ room
    → length new.journal + (entries_owed new + 0) ≤ room
read_room k mid new o e room reads new_is enough =
    subst (λ (x : Contents). length x.journal + (entries_owed x + 0) ≤ room)
    (sym (new_is ∙ ap (λ (m : Contents). record m { journal = m.journal ++ e ∷ [] }) reads.is))
    (omega (arith, enough, length-added k.journal e, length-added k.snapshots (member reads.ticket o)))

-- What a register knows of the writer that a session holds.
pub record Writes (k : Contents) (n : ℕ) (s : JournalState) : Type 0 where
  pub writer : is_writer (hold_of k.holds n) ≡ true
  pub within : n < length k.holds
  pub fits : HoldFits k.snapshots k.pending n (hold_of k.holds n)

pub writes : (k : Contents) (sessions safe n : ℕ) → FitsJournal k sessions safe
    → IsWriting (journal_state safe k.journal) n
    → Writes k n (journal_state safe k.journal)
writes k sessions safe n fits writing =
    let held = subst (λ xs. IsSomeAnd (held_by xs n) (λ h. h.own ≡ true)) (sym fits.state.snapshots) writing in
    let writer = holds_writer k.holds k.snapshots k.pending fits.holds n held in
    record { writer = writer; within = writer_within k.holds n writer; fits = fits.holds.fit n }

pub record ReadsBy (k : Contents) (n : ℕ) : Type 0 where
  pub reader : is_reader (hold_of k.holds n) ≡ true
  pub within : n < length k.holds
  pub fits : HoldFits k.snapshots k.pending n (hold_of k.holds n)

pub reads_by : (k : Contents) (sessions safe n : ℕ) → FitsJournal k sessions safe
    → IsSomeAnd (held_by (journal_state safe k.journal).snapshots n) (λ h. h.own ≡ false) → ReadsBy k n
reads_by k sessions safe n fits reading =
    let held = subst (λ xs. IsSomeAnd (held_by xs n) (λ h. h.own ≡ false)) (sym fits.state.snapshots) reading in
    let reader = holds_reader k.holds k.snapshots k.pending fits.holds n held in
    record { reader = reader; within = reader_within k.holds n reader; fits = fits.holds.fit n }

-- A writer that ended.
module _ (laws : Laws) (k mid new : Contents) (sessions safe n : ℕ) (fits : FitsJournal k sessions safe) (epoch : ℕ)
    (within : n < length k.holds) (ends : EndsWriter k mid n epoch) where
  ended : WriterOf k.holds k.snapshots k.pending fits.holds n ends.ticket ends.other
  ended = writer_of k.holds k.snapshots k.pending fits.holds n ends.ticket ends.other ends.was

  pub committed : (statement : ℕ) → new ≡ record mid { journal = mid.journal ++ entry.Committed n statement epoch ∷ [] }
      → FitsJournal new sessions safe
  committed statement new_is =
      subst (λ x. FitsJournal x sessions safe)
      (sym (new_is ∙ ap (λ (m : Contents). record m
      { journal = m.journal ++ entry.Committed n statement epoch ∷ [] }) ends.is))
      (fits_committed laws k sessions safe fits n ends.ticket ends.other epoch within ends.was ends.found statement)

  pub aborted : (statement : ℕ) (cause : AbortCause)
      → new ≡ record mid { journal = mid.journal ++ entry.Aborted n statement epoch cause ∷ [] }
      → FitsJournal new sessions safe
  aborted statement cause new_is =
      subst (λ x. FitsJournal x sessions safe)
      (sym (new_is ∙ ap (λ (m : Contents). record m
      { journal = m.journal ++ entry.Aborted n statement epoch cause ∷ [] }) ends.is))
      (fits_aborted laws k sessions safe fits n ends.ticket ends.other epoch within ends.was ends.found statement cause)

  -- The epoch is that of the snapshot that the session held.
  pub ended_epoch : epoch ≡ held_epoch (journal_state safe k.journal) n
  ended_epoch =
      let same : epoch ≡ ended.o.snapshot.epoch = some_same (sym ends.found ∙ ended.epoch) in
      let held = ap (λ xs. held_by xs n) (sym fits.state.snapshots) ∙ ended.held in
      same ∙ sym (ap (λ (x : Option Snapshot). option_map_or (λ h. h.epoch) x 0) held)
    where
      some_same : {a b : ℕ} → Some a ≡ Some b → a ≡ b
      some_same same = cc

  pub ended_journal : (make : ℕ → JournalEntry) → new ≡ record mid { journal = mid.journal ++ make epoch ∷ [] }
      → new.journal ≡ k.journal ++ make (held_epoch (journal_state safe k.journal) n) ∷ []
  ended_journal make new_is =
      ap (λ (x : Contents). x.journal) new_is
      ∙ ap (λ (m : Contents). m.journal ++ make epoch ∷ []) ends.is
      ∙ ap (λ x. k.journal ++ make x ∷ []) ended_epoch

  pub ended_room : (e : JournalEntry) (room : ℕ) → new ≡ record mid { journal = mid.journal ++ e ∷ [] }
      → length k.journal + (entries_owed k + 0) ≤ room → length new.journal + (entries_owed new + 0) ≤ room
  ended_room e room new_is enough =
      subst (λ (x : Contents). length x.journal + (entries_owed x + 0) ≤ room)
      (sym (new_is ∙ ap (λ (m : Contents). record m { journal = m.journal ++ e ∷ [] }) ends.is))
      (omega (arith, enough, length-added k.journal e, length-taken k.snapshots ends.ticket ended.o ended.found))

-- A reader that ended.
module _ (laws : Laws) (k mid new : Contents) (sessions safe n : ℕ) (fits : FitsJournal k sessions safe)
    (within : n < length k.holds) (ends : EndsReader k mid n) (statement : ℕ)
    (new_is : new ≡ record mid { journal = mid.journal ++ entry.ReadEnd n statement ∷ [] }) where
  pub read_ended : FitsJournal new sessions safe
  read_ended =
      subst (λ x. FitsJournal x sessions safe)
      (sym (new_is ∙ ap (λ (m : Contents). record m { journal = m.journal ++ entry.ReadEnd n statement ∷ [] }) ends.is))
      (fits_read_end laws k sessions safe fits n statement ends.ticket within ends.was)

  pub read_ended_room : (room : ℕ) → length k.journal + (entries_owed k + 0) ≤ room
      → length new.journal + (entries_owed new + 0) ≤ room
  read_ended_room room enough =
      let r = reader_of k.holds k.snapshots k.pending fits.holds n ends.ticket ends.was in
      subst (λ (x : Contents). length x.journal + (entries_owed x + 0) ≤ room)
      (sym (new_is ∙ ap (λ (m : Contents). record m { journal = m.journal ++ entry.ReadEnd n statement ∷ [] }) ends.is))
      (omega (
        arith,
        enough,
        length-added k.journal (entry.ReadEnd n statement),
        length-taken k.snapshots
            ends.ticket r.o r.found,
      ))

-- A note that was added.
pub noted : (laws : Laws) (k new : Contents) (sessions safe : ℕ) (fits : FitsJournal k sessions safe) (q : Note)
    (e : JournalEntry)
    → CountersAllow safe k.journal (note_entry q) → e ≡ note_entry q → new ≡ record k { journal = k.journal ++ e ∷ [] }
    → FitsJournal new sessions safe
noted laws k new sessions safe fits q e allowed e_is new_is =
    subst (λ x. FitsJournal x sessions safe)
    (sym (new_is ∙ ap (λ (x : JournalEntry). record k { journal = k.journal ++ x ∷ [] }) e_is))
    (fits_noted laws k sessions safe fits q allowed)
