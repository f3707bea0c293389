-- A round of a run over a store is lost to a disk only where one of its two has failed since the run was begun.
use Rattle.std.proofs.Common.{◌≡◌, ◌∙◌, ◌⊎◌, inl, inr, ◌||◌, ℕ, Bool, true, true≢false, List, [], ◌∷◌, MatchBool, Option, Some, None, refl, sym, ap, subst, false}
use Rattle.core_events.specs.Clients.{calls_of, state_from_calls}
use Rattle.core_events.specs.Events.{Opening, flusher, ClientCall, CoreEvent}
use Rattle.core_events.specs.Runs.{IsCoreRun}
use Rattle.core_serial.specs.Journals.{journal_of}
use Rattle.cube_journal.specs.Counters.{store_failed_after}
use Rattle.cube_journal.specs.declared.journal_entry.JournalEntry.{JournalEntry}
use Rattle.cube_journal.specs.declared.journal_entry.JournalEntry.TheVariants.{RoundLost}
use Rattle.cube_journal.specs.declared.journal_entry.LostCause.TheVariants.{Disk}
use Rattle.cube_rounds.specs.Stands.{Kept}
use Rattle.cube_run.specs.RunRecords.{RunRecord, Sentence}
use Rattle.flush_loop.specs.MadeRounds.{KeptClaim}
use Rattle.flush_loop.specs.PlainRounds.{HasLostNone}
use Rattle.flush_loop.specs.declared.no_store.NoStore.{NoStore}
use Rattle.opened_store.specs.declared.fault.StoreFault.TheVariants as store
use Rattle.outside_disk.specs.Views.{View}
use Rattle.played_runs.specs.RunsOnRecord.{LeavesLegal}
use Rattle.recorded_images.proofs.FailedStores.{lost-by-journal}
use Rattle.recorded_images.specs.RecordedImages.{has_lost_store}
use Rattle.stored_rounds.specs.RoundsInStore.{CountsGoOn, HasFailedDisk, KeepsOfRun}
use Rattle.stored_rounds.specs.declared.stored.StoredRounds.{StoredRounds}
use Rattle.cubrick_top.proofs.KeptEnds.{has_kept}
use Rattle.cubrick_top.specs.KeptRuns.{HasKeptOfRecord, HasKeptOfRun}
use Rattle.cubrick_top.specs.PlayedEnds.{HasText, LeavesNothing, PlayedEnds, UsesNoShelf, is_lost, is_lost_to_disk}
use Rattle.cubrick_top.specs.declared.fault.Fault.{Fault}
use Rattle.cubrick_top.specs.declared.fault.Fault.TheVariants as fault
use Rattle.cubrick_top.specs.declared.fault.Finish.{Finish}

-- What follows from a lost round, both by the record of a run and by a run that left a journal alone.
module _ {H : Type 0} (told : H → Option (List (List ℕ × List ℕ))) (fault_count absence_count : H → ℕ)
    (Known : RunRecord → Type 0) (KnownOfRun : List JournalEntry → Type 0) (Cause : Type 0)
    (by-record : (run : RunRecord) → Known run → is_lost run.journal ≡ true → Cause)
    (by-run : (journal : List JournalEntry) → KnownOfRun journal → is_lost journal ≡ true → Cause) (stored : Bool)
    (kept : Kept) (shards every : ℕ) (scripts : List (List Sentence)) (before after : List H) (finish : Finish) where
  abbrev IsLost : Type 0
  IsLost = is_lost finish.journal.items ≡ true

  with-text : (saved : Bool) (text : List ℕ)
      → HasText told fault_count absence_count Known KnownOfRun saved kept shards every scripts before after finish text
      → IsLost → Cause
  with-text saved text h lost = by-record _ h.run_kept lost

  with-nothing : LeavesNothing finish → IsLost → Cause
  with-nothing nothing lost = absurd (true≢false (sym lost ∙ ap is_lost nothing.journal))

  without-text : (LeavesNothing finish × UsesNoShelf fault_count absence_count before after)
      ⊎ (LeavesLegal kept finish.journal.items × KnownOfRun finish.journal.items) → IsLost → Cause
  without-text (inl none) lost = with-nothing none.0 lost
  without-text (inr legal) lost = by-run finish.journal.items legal.1 lost

  pub lost-by : (taken now : Option (List ℕ)) (f : Option Fault)
      → PlayedEnds told fault_count absence_count Known KnownOfRun stored kept shards every scripts before after finish
      taken now f → IsLost → Cause
  lost-by taken now None h lost = with-text true h.0 h.1 lost
  lost-by taken now (Some (fault.Store store.DiskFault)) h lost = with-text false h.1 h.2 lost
  lost-by taken now (Some (fault.Store (store.ShardFull shard rows))) h lost = with-nothing h.1 lost
  lost-by taken now (Some fault.OutputFault) h lost = with-text false h.0 h.1 lost
  lost-by taken now (Some fault.NoMemory) (inl h) lost = without-text h.1 lost
  lost-by taken now (Some fault.NoMemory) (inr h) lost = with-text false h.0 h.1 lost
  lost-by taken now f h lost = absurd h

-- By an entry that tells of a lost round the store has failed.
same-entry : (e : JournalEntry) → is_lost_to_disk e ≡ store_failed_after false e
same-entry (RoundLost epoch Disk) = refl
same-entry e = refl

store-lost : (journal : List JournalEntry) → is_lost journal ≡ has_lost_store journal
store-lost [] = refl
store-lost (e ∷ journal) = λ i. same-entry e i || store-lost journal i

module _ {D : Type 0} (view : D → View) (begun maker : StoredRounds D) where
  failed-in : (o : Opening) (run : List CoreEvent) (kept : Kept) (calls : List ClientCall) → IsCoreRun o run
      → KeepsOfRun view begun maker kept o run calls → calls ≡ calls_of (flusher o) run
      → is_lost (journal_of o run) ≡ true → HasFailedDisk view begun maker
  failed-in o run kept calls is_run keeps all lost =
      let gone : (state_from_calls o (flusher o) calls).store_lost ≡ true =
      lost-by-journal o run calls is_run all ∙ sym (store-lost (journal_of o run)) ∙ lost
      in
      subst (λ (b : Bool). MatchBool b (HasFailedDisk view begun maker) (CountsGoOn view begun maker)) gone keeps.counts

  pub failed-of-record : (run : RunRecord) → HasKeptOfRecord (has_kept view begun maker) begun maker run
      → is_lost run.journal ≡ true → HasFailedDisk view begun maker
  failed-of-record run h lost =
      failed-in h.o h.run h.keeps.saved (calls_of (flusher h.o) h.run) h.scripted.run h.keeps.holds refl
      (ap (λ (r : RunRecord). is_lost r.journal) h.same ∙ lost)

  pub failed-of-run : (kept : Kept) (shards sessions : ℕ) (journal : List JournalEntry)
      → HasKeptOfRun (has_kept view begun maker) begun maker kept shards sessions journal → is_lost journal ≡ true
      → HasFailedDisk view begun maker
  failed-of-run kept shards sessions journal h lost =
      failed-in h.o h.run h.keeps.saved (calls_of (flusher h.o) h.run) h.is_run.is_run h.keeps.holds refl
      (ap is_lost (sym h.is_run.journal_is) ∙ lost)

-- Without a store none is lost to a disk.

module _ (begun maker : NoStore) where
  abbrev pub none_lost : NoStore → NoStore → KeptClaim
  none_lost = λ begun m kept o run calls. HasLostNone o calls

  not-in : (o : Opening) (run : List CoreEvent) (calls : List ClientCall) → IsCoreRun o run → HasLostNone o calls
      → calls ≡ calls_of (flusher o) run → is_lost (journal_of o run) ≡ true → ⊥
  not-in o run calls is_run none all lost =
      let gone : (state_from_calls o (flusher o) calls).store_lost ≡ true =
      lost-by-journal o run calls is_run all ∙ sym (store-lost (journal_of o run)) ∙ lost
      in
      true≢false (sym gone ∙ none)

  pub not-of-record : (run : RunRecord) → HasKeptOfRecord none_lost begun maker run → is_lost run.journal ≡ true → ⊥
  not-of-record run h lost =
      not-in h.o h.run (calls_of (flusher h.o) h.run) h.scripted.run h.keeps.holds refl
      (ap (λ (r : RunRecord). is_lost r.journal) h.same ∙ lost)

  pub not-of-run : (kept : Kept) (shards sessions : ℕ) (journal : List JournalEntry)
      → HasKeptOfRun none_lost begun maker kept shards sessions journal → is_lost journal ≡ true → ⊥
  not-of-run kept shards sessions journal h lost =
      not-in h.o h.run (calls_of (flusher h.o) h.run) h.is_run.is_run h.keeps.holds refl
      (ap is_lost (sym h.is_run.journal_is) ∙ lost)

pub is-false : (b : Bool) → (b ≡ true → ⊥) → b ≡ false
is-false true never = absurd (never refl)
is-false false never = refl
