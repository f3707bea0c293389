-- What the desk asks of who leaves a note holds of each note that fits, and a transaction ends with the epoch that is held.
use Rattle.std.proofs.Common.{◌≡◌, ◌∙◌, ℕ, false, true, List, ◌∷◌, Option, Some, None, IsSomeAnd, refl, sym}
use Rattle.std.specs.Option.{option_map_or}
use Rattle.cube_values.specs.declared.snapshot.Snapshot.{Snapshot}
use Rattle.cube_journal.specs.declared.counters.Counters.{Counters}
use Rattle.cube_journal.specs.declared.journal_entry.AbortCause.{AbortCause}
use Rattle.cube_journal.specs.declared.note.Note.{Note}
use Rattle.cube_journal.specs.declared.note.Note.TheVariants as note
use Rattle.cube_journal.specs.Counters.{held_by}
use Rattle.cube_journal.specs.Entries.{note_entry}
use Rattle.cube_journal.specs.Legal.{CountersAllow}
use Rattle.aosi_desk.specs.State.{held_epoch}
use Rattle.aosi_desk.specs.Desks.{speaks_of_cubes}
use Rattle.core_events.specs.Events.{Opening, TakeNote, Commit, AbortEnd, OnDesk, CoreEvent, By}
use Rattle.core_events.specs.Cells.{counters_of_run, desk_of}
use Rattle.core_events.specs.Runs.{IsCoreRun}
use Rattle.core_events.proofs.MayCalls.{may-commit, may-abort}
use Rattle.core_serial.specs.Journals.{journal_of}
use Rattle.core_serial.proofs.Entries.{run-safe}
use Rattle.core_serial.proofs.LegalJournals.{next-allowed}

pub note-allowed : (o : Opening) (a : ℕ) (n : Note) (counters : Counters) (es : List CoreEvent)
    → IsCoreRun o (By a (OnDesk (TakeNote n counters)) ∷ es)
    → CountersAllow (desk_of o es).register.safe (desk_of o es).register.journal (note_entry n)
note-allowed o a n counters es run =
    coe 1 0 (i. CountersAllow (run-safe o es i) (journal_of o es) (note_entry n)) (next-allowed o es a (OnDesk (TakeNote n counters)) run)

pub note-silent : (o : Opening) (a : ℕ) (n : Note) (counters : Counters) (es : List CoreEvent)
    → IsCoreRun o (By a (OnDesk (TakeNote n counters)) ∷ es) → speaks_of_cubes (note_entry n) ≡ false
note-silent o a (note.Refused session statement code) counters es run = run.1.fits.allowed.1.other
note-silent o a (note.Cleared session statement) counters es run = refl
note-silent o a (note.Show session statement) counters es run = refl
note-silent o a (note.Flushed session statement) counters es run = refl
note-silent o a (note.Purged session statement epoch) counters es run = refl

abbrev epoch_in : Option Snapshot → ℕ
epoch_in held = option_map_or (λ h. h.epoch) held 0

epoch-held : (held : Option Snapshot) (epoch : ℕ) → IsSomeAnd held (λ h. (h.own ≡ true) × (h.epoch ≡ epoch)) → epoch ≡ epoch_in held
epoch-held None epoch h = absurd h
epoch-held (Some s) epoch h = sym h.1

pub commit-held : (o : Opening) (a statement epoch : ℕ) (es : List CoreEvent) → IsCoreRun o (By a (OnDesk (Commit statement epoch)) ∷ es)
    → epoch ≡ held_epoch (counters_of_run o es) a
commit-held o a statement epoch es run =
    epoch-held (held_by (counters_of_run o es).snapshots a) epoch (may-commit o a statement epoch es run)

pub abort-held : (o : Opening) (a statement epoch : ℕ) (cause : AbortCause) (es : List CoreEvent)
    → IsCoreRun o (By a (OnDesk (AbortEnd statement epoch cause)) ∷ es) → epoch ≡ held_epoch (counters_of_run o es) a
abort-held o a statement epoch cause es run =
    epoch-held (held_by (counters_of_run o es).snapshots a) epoch (may-abort o a statement epoch cause es run)
