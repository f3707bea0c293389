-- The fields agree with the journal after a snapshot is opened, an epoch is taken, or a note is added.
use Rattle.std.proofs.Common.{◌≡◌, ◌≢◌, ℕ, ◌+◌, ◌-◌, ◌<◌, ◌≤◌, ◌^◌, Bool, true, false, List, [], ◌∷◌, ◌++◌, length, set, Option, Some, None, fold, min, refl, subst, sym, ◌∙◌, ap, arith, length-append}
use Rattle.std.proofs.lemmas.List.{map-append, length-map, length-set}
use Rattle.cube_journal.specs.declared.counters.OpenSnapshot.{OpenSnapshot}
use Rattle.cube_journal.specs.declared.note.Note.{Note}
use Rattle.cube_journal.specs.declared.note.Note.TheVariants as note
use Rattle.cube_journal.specs.declared.journal_entry.JournalEntry.{JournalEntry}
use Rattle.cube_journal.specs.declared.journal_entry.JournalEntry.TheVariants as entry
use Rattle.cube_journal.specs.Counters.{JournalState, journal_state, state_after, held_by, lce}
use Rattle.cube_journal.specs.Entries.{note_entry}
use Rattle.cube_journal.specs.Legal.{CountersAllow, CountersAllowAll}
use Rattle.linked_roll.specs.declared.ticket.Ticket.{Ticket}
use Rattle.linked_roll.specs.Members.{Member, member, item_by_ticket, items, TicketsDiffer}
use Rattle.linked_roll.proofs.Tickets.{TicketsDiffer-added}
use Rattle.aosi_desk.specs.State.{writer_snapshot, reader_snapshot}
use Rattle.aosi_desk.specs.Holds.{hold_of, is_writer, HoldsFit, WritersCount, Rise}
use Rattle.aosi_desk.specs.Fits.{Contents, ShowsState, FitsSizes, FitsJournal, BeginsSnapshot, Reads}
use Rattle.aosi_desk.specs.declared.hold.Hold.{Hold}
use Rattle.aosi_desk.specs.declared.hold.Hold.TheVariants.{Free, Reader, Writer}
use Rattle.aosi_desk.proofs.Pending.{Rise-added, Rise-higher, WritersCount-more, WritersCount-same}
use Rattle.aosi_desk.proofs.HoldsFits.{HoldsFit-read, HoldsFit-begun}
use Rattle.aosi_desk.proofs.Sessions.{free_hold}

-- What the journal's crate says of one more entry.
pub record Laws : Type 0 where
  pub state : (safe : ℕ) (journal : List JournalEntry) (e : JournalEntry)
      → journal_state safe (journal ++ e ∷ []) ≡ state_after (journal_state safe journal) e
  pub legal : (safe : ℕ) (journal : List JournalEntry) (e : JournalEntry) → CountersAllowAll safe [] journal
      → CountersAllow safe journal e → CountersAllowAll safe [] (journal ++ e ∷ [])

pub items-added : {A : Type 0} (ms : List (Member A)) (m : Member A) → items (ms ++ m ∷ []) ≡ items ms ++ m.item ∷ []
items-added ms m = map-append (λ x. x.item) ms (m ∷ [])

pub length-added : {A : Type 0} (xs : List A) (x : A) → length (xs ++ x ∷ []) ≡ length xs + 1
length-added xs x = omega (arith, length-append xs (x ∷ []))

-- The same contents with another journal.
abbrev pub with_journal : Contents → List JournalEntry → Contents
with_journal k journal = record k { journal = journal }

module _ (laws : Laws) (k : Contents) (sessions safe : ℕ) (fits : FitsJournal k sessions safe) where
  abbrev s : JournalState
  s = journal_state safe k.journal

  ec_room : (more : ℕ) → more ≤ 1 → (e : JournalEntry) → k.ec + more ≤ safe + 1 + length (k.journal ++ e ∷ [])
  ec_room more few e = omega (arith, fits.sizes.ec, length-added k.journal e)

  -- An entry that changes nothing but the journal.
  pub fits_noted : (q : Note) → CountersAllow safe k.journal (note_entry q)
      → FitsJournal (with_journal k (k.journal ++ note_entry q ∷ [])) sessions safe
  fits_noted q allowed =
      let e = note_entry q in
      record {
        legal = laws.legal safe k.journal e fits.legal allowed;
        state = subst (ShowsState (with_journal k (k.journal ++ e ∷ []))) (sym (laws.state safe k.journal e)) (shows q);
        sizes = record {
          holds = fits.sizes.holds;
          few = fits.sizes.few;
          low = fits.sizes.low;
          ec = omega (arith, fits.sizes.ec, length-added k.journal e);
        };
        holds = fits.holds;
        writers = fits.writers;
        rise = fits.rise;
        snapshot_tickets = fits.snapshot_tickets;
        pending_tickets = fits.pending_tickets;
      }
    where
      same : (t : JournalState) → t.ec ≡ s.ec → t.lse ≡ s.lse → t.round ≡ s.round → t.store_failed ≡ s.store_failed
          → t.snapshots ≡ s.snapshots → t.pending ≡ s.pending → (j : List JournalEntry)
          → ShowsState (with_journal k j) t
      same t ec lse round store_failed snapshots pending j = record {
        ec = fits.state.ec ∙ sym ec;
        lse = fits.state.lse ∙ sym lse;
        round = fits.state.round ∙ sym round;
        store_failed = fits.state.store_failed ∙ sym store_failed;
        snapshots = fits.state.snapshots ∙ sym snapshots;
        pending = fits.state.pending ∙ sym pending;
      }

      shows : (n : Note) → ShowsState (with_journal k (k.journal ++ note_entry n ∷ [])) (state_after s (note_entry n))
      shows (note.Refused a b c) = same (state_after s (entry.Refused a b c)) refl refl refl refl refl refl _
      shows (note.Cleared a b) = same (state_after s (entry.Cleared a b)) refl refl refl refl refl refl _
      shows (note.Show a b) = same (state_after s (entry.Show a b)) refl refl refl refl refl refl _
      shows (note.Flushed a b) = same (state_after s (entry.Flushed a b)) refl refl refl refl refl refl _
      shows (note.Purged a b c) = same (state_after s (entry.Purged a b c)) refl refl refl refl refl refl _

  -- An epoch is taken for a cube.
  pub fits_cube : (n statement : ℕ) → held_by s.snapshots n ≡ None
      → FitsJournal (record k { ec = k.ec + 1; journal = k.journal ++ entry.Cube n statement k.ec ∷ [] }) sessions safe
  fits_cube n statement free =
      let e = entry.Cube n statement k.ec in
      record {
        legal = laws.legal safe k.journal e fits.legal (record { next = fits.state.ec; free = free });
        state = subst (ShowsState (record k { ec = k.ec + 1; journal = k.journal ++ e ∷ [] }))
            (sym (laws.state safe k.journal e)) (record {
              ec = ap (λ x. x + 1) fits.state.ec;
              lse = fits.state.lse;
              round = fits.state.round;
              store_failed = fits.state.store_failed;
              snapshots = fits.state.snapshots;
              pending = fits.state.pending;
            });
        sizes = record {
          holds = fits.sizes.holds;
          few = fits.sizes.few;
          low = fits.sizes.low;
          ec = ec_room 1 (omega arith) e;
        };
        holds = fits.holds;
        writers = fits.writers;
        rise = Rise-higher 0 k.ec (k.ec + 1) (items k.pending) (omega arith) fits.rise;
        snapshot_tickets = fits.snapshot_tickets;
        pending_tickets = fits.pending_tickets;
      }

  module _ (n statement : ℕ) (free : held_by s.snapshots n ≡ None) (t : Ticket)
      (fresh : item_by_ticket k.snapshots t ≡ None) where
    free_place : hold_of k.holds n ≡ Free
    free_place =
        free_hold k.holds k.snapshots k.pending fits.holds n (ap (λ xs. held_by xs n) fits.state.snapshots ∙ free)

    was_free : is_writer (hold_of k.holds n) ≡ false
    was_free = ap is_writer free_place

    abbrev opened_reader : OpenSnapshot
    opened_reader = record { session = n; bound = lce s; snapshot = reader_snapshot s }

    -- A reader is opened.
    pub fits_read : n < 49
        → FitsJournal (record k {
          snapshots = k.snapshots ++ member t
              (record { session = n; bound = lce s; snapshot = reader_snapshot s }) ∷ [];
          holds = set k.holds n (Reader t);
          journal = k.journal ++ entry.Read n statement (lce s) ∷ [];
        }) sessions safe
    fits_read within =
        let e = entry.Read n statement (lce s) in
        let place : n < length k.holds = omega (arith, fits.sizes.holds) in
        record {
          legal = laws.legal safe k.journal e fits.legal (record { latest = refl; free = free });
          state = subst (ShowsState _) (sym (laws.state safe k.journal e)) (record {
            ec = fits.state.ec;
            lse = fits.state.lse;
            round = fits.state.round;
            store_failed = fits.state.store_failed;
            snapshots =
                items-added k.snapshots (member t opened_reader)
                ∙ ap (λ xs. xs ++ opened_reader ∷ []) fits.state.snapshots;
            pending = fits.state.pending;
          });
          sizes = record {
            holds = length-set k.holds n (Reader t) ∙ fits.sizes.holds;
            few = fits.sizes.few;
            low = fits.sizes.low;
            ec = omega (arith, fits.sizes.ec, length-added k.journal e);
          };
          holds = HoldsFit-read k.holds k.snapshots k.pending fits.holds opened_reader t fresh free_place place refl;
          writers = WritersCount-same k.holds sessions (length k.pending) n (Reader t) place was_free refl fits.writers;
          rise = fits.rise;
          snapshot_tickets = TicketsDiffer-added k.snapshots (member t opened_reader) fits.snapshot_tickets fresh;
          pending_tickets = fits.pending_tickets;
        }

    abbrev opened_writer : OpenSnapshot
    opened_writer = record { session = n; bound = lce s; snapshot = writer_snapshot s }

    -- A writer is opened.
    pub fits_begun : 1 ≤ n → n ≤ sessions → (p : Ticket) → item_by_ticket k.pending p ≡ None
        → FitsJournal (record k {
          ec = k.ec + 1;
          snapshots = k.snapshots ++ member t
              (record { session = n; bound = lce s; snapshot = writer_snapshot s }) ∷ [];
          pending = k.pending ++ member p k.ec ∷ [];
          holds = set k.holds n (Writer t p);
          journal = k.journal ++ entry.Begin n statement s.ec s.pending ∷ [];
        }) sessions safe
    fits_begun low high p fresh_pending =
        let e = entry.Begin n statement s.ec s.pending in
        let place : n < length k.holds = omega (arith, fits.sizes.holds, fits.sizes.few) in
        record {
          legal = laws.legal safe k.journal e fits.legal (record { next = refl; pending = refl; free = free });
          state = subst (ShowsState _) (sym (laws.state safe k.journal e)) (record {
            ec = ap (λ x. x + 1) fits.state.ec;
            lse = fits.state.lse;
            round = fits.state.round;
            store_failed = fits.state.store_failed;
            snapshots =
                items-added k.snapshots (member t opened_writer)
                ∙ ap (λ xs. xs ++ opened_writer ∷ []) fits.state.snapshots;
            pending =
                items-added k.pending (member p k.ec) ∙ ap (λ xs. xs ++ k.ec ∷ []) fits.state.pending
                ∙ ap (λ x. s.pending ++ x ∷ []) fits.state.ec;
          });
          sizes = record {
            holds = length-set k.holds n (Writer t p) ∙ fits.sizes.holds;
            few = fits.sizes.few;
            low = fits.sizes.low;
            ec = ec_room 1 (omega arith) e;
          };
          holds =
              subst (λ x. HoldsFit (set k.holds n (Writer t p)) (k.snapshots ++ member t opened_writer ∷ [])
              (k.pending ++ member p x ∷ []))
              (sym fits.state.ec)
              (HoldsFit-begun k.holds k.snapshots k.pending fits.holds opened_writer t fresh free_place place p
              fresh_pending refl);
          writers =
              subst (λ x. WritersCount (set k.holds n (Writer t p)) sessions x)
              (sym (length-added k.pending (member p k.ec)))
              (WritersCount-more k.holds sessions (length k.pending) n t p place low high was_free fits.writers);
          rise =
              subst (λ xs. Rise 0 xs (k.ec + 1)) (sym (items-added k.pending (member p k.ec)))
              (Rise-added 0 k.ec (items k.pending) fits.rise);
          snapshot_tickets = TicketsDiffer-added k.snapshots (member t opened_writer) fits.snapshot_tickets fresh;
          pending_tickets = TicketsDiffer-added k.pending (member p k.ec) fits.pending_tickets fresh_pending;
        }
