-- How a run ended, with what is known of how it was kept said otherwise: on the disks of a store, or not at all.
use Rattle.std.proofs.Common.{◌≡◌, ◌⊎◌, inl, inr, ℕ, Bool, List, Option, Some, None, refl, false, true}
use Rattle.core_agreements.specs.ScriptedRuns.{IsScriptedRun}
use Rattle.core_events.specs.Clients.{calls_of}
use Rattle.core_events.specs.Events.{Opening, flusher, ClientCall, CoreEvent}
use Rattle.core_events.specs.Runs.{IsCoreRun}
use Rattle.core_records.specs.CoreRecords.{RunScripts, record_of}
use Rattle.core_serial.specs.Journals.{journal_of}
use Rattle.cube_journal.specs.declared.journal_entry.JournalEntry.{JournalEntry}
use Rattle.cube_rounds.specs.Stands.{Kept}
use Rattle.cube_run.specs.RunRecords.{RunRecord, Sentence}
use Rattle.flush_loop.specs.MadeRounds.{KeptClaim}
use Rattle.opened_store.specs.declared.fault.StoreFault.TheVariants as store
use Rattle.outside_disk.specs.Views.{View}
use Rattle.played_runs.specs.RunsOnRecord.{LeavesLegal}
use Rattle.recorded_images.specs.AtEveryMoment.{KeepWhereTold, TwoDisks}
use Rattle.recorded_images.specs.RecordedImages.{StandForEvents, StandForRecord}
use Rattle.stored_rounds.specs.RoundsInStore.{KeepsOfRun}
use Rattle.stored_rounds.specs.declared.stored.StoredRounds.{StoredRounds}
use Rattle.cubrick_top.specs.KeptRuns.{HasKeptOfRecord, HasKeptOfRun, KeepRecord, KeepRun}
use Rattle.cubrick_top.specs.PlayedEnds.{HasText, LeavesNothing, PlayedEnds, UsesNoShelf}
use Rattle.cubrick_top.specs.declared.fault.Fault.{Fault}
use Rattle.cubrick_top.specs.declared.fault.Fault.TheVariants as fault
use Rattle.cubrick_top.specs.declared.fault.Finish.{Finish}

module _ {H : Type 0} (told : H → Option (List (List ℕ × List ℕ))) (fault_count absence_count : H → ℕ)
    (Known Holds : RunRecord → Type 0) (KnownOfRun HoldsOfRun : List JournalEntry → Type 0)
    (to : (run : RunRecord) → Known run → Holds run)
    (to-run : (journal : List JournalEntry) → KnownOfRun journal → HoldsOfRun journal) (stored : Bool) (kept : Kept)
    (shards every : ℕ) (scripts : List (List Sentence)) (before after : List H) (finish : Finish) where
  text-with : (saved : Bool) (text : List ℕ)
      → HasText told fault_count absence_count Known KnownOfRun saved kept shards every scripts before after finish text
      → HasText told fault_count absence_count Holds HoldsOfRun saved kept shards every scripts before after finish text
  text-with saved text h = record {
    takes = h.takes;
    all_shards = h.all_shards;
    replies = h.replies;
    run = h.run;
    run_kept = to _ h.run_kept;
    shelves = h.shelves;
    text_is = h.text_is;
  }

  without-text : (LeavesNothing finish × UsesNoShelf fault_count absence_count before after)
      ⊎ (LeavesLegal kept finish.journal.items × KnownOfRun finish.journal.items)
      → (LeavesNothing finish × UsesNoShelf fault_count absence_count before after)
      ⊎ (LeavesLegal kept finish.journal.items × HoldsOfRun finish.journal.items)
  without-text (inl none) = inl none
  without-text (inr legal) = inr (legal.0, to-run finish.journal.items legal.1)

  pub ends-with : (taken now : Option (List ℕ)) (f : Option Fault)
      → PlayedEnds told fault_count absence_count Known KnownOfRun stored kept shards every scripts before after finish
      taken now f
      → PlayedEnds told fault_count absence_count Holds HoldsOfRun stored kept shards every scripts before after finish
      taken now f
  ends-with taken now None h = (h.0, text-with true h.0 h.1, h.2, h.3)
  ends-with taken now (Some (fault.Store store.DiskFault)) h = (h.0, h.1, text-with false h.1 h.2, h.3, h.4)
  ends-with taken now (Some (fault.Store (store.ShardFull shard rows))) h = h
  ends-with taken now (Some fault.OutputFault) h = (h.0, text-with false h.0 h.1, h.2)
  ends-with taken now (Some fault.NoMemory) (inl h) = inl (h.0, without-text h.1)
  ends-with taken now (Some fault.NoMemory) (inr h) = inr (h.0, text-with false h.0 h.1, h.2, h.3)
  ends-with taken now f h = absurd h

module _ {D : Type 0} (view : D → View) (begun maker : StoredRounds D) where
  abbrev pub has_kept : StoredRounds D → StoredRounds D → KeptClaim
  has_kept = λ begun m kept o run calls. KeepsOfRun view begun m kept o run calls

  abbrev disks_begun : TwoDisks D
  disks_begun = record { first = begun.first; second = begun.second }

  abbrev disks_now : TwoDisks D
  disks_now = record { first = maker.first; second = maker.second }

  -- What a store keeps of a run on record its disks keep at every moment.
  pub record-kept : ((o : Opening) (given : RunScripts) (run : List CoreEvent) (kept : Kept) (calls : List ClientCall)
      (begun m : StoredRounds D) → IsScriptedRun o given run → KeepsOfRun view begun m kept o run calls
      → calls ≡ calls_of (flusher o) run
      → KeepWhereTold view (StandForRecord (record_of o given run)) (record_of o given run).safe
      (record { first = begun.first; second = begun.second }) (record { first = m.first; second = m.second })
      (record_of o given run).journal) → (run : RunRecord)
      → HasKeptOfRecord has_kept begun maker run
      → KeepRecord view disks_begun disks_begun disks_now run
  record-kept law run h =
      coe 0 1 (i. KeepRecord view disks_begun disks_begun disks_now (h.same i))
      (law h.o h.given h.run h.keeps.saved (calls_of (flusher h.o) h.run) begun maker h.scripted h.keeps.holds refl)

  -- So they keep every run, by its events.
  pub run-kept : ((o : Opening) (run : List CoreEvent) (kept : Kept) (calls : List ClientCall)
      (begun m : StoredRounds D) → IsCoreRun o run → KeepsOfRun view begun m kept o run calls
      → calls ≡ calls_of (flusher o) run
      → KeepWhereTold view (StandForEvents o run) o.safe (record { first = begun.first; second = begun.second })
      (record { first = m.first; second = m.second }) (journal_of o run))
      → (kept : Kept) (shards sessions : ℕ) (journal : List JournalEntry)
      → HasKeptOfRun has_kept begun maker kept shards sessions journal
      → KeepRun view disks_begun disks_begun disks_now kept shards sessions journal
  run-kept law kept shards sessions journal h = record {
    o = h.o;
    run = h.run;
    is_run = h.is_run;
    at_every_moment =
        coe 1 0 (i. KeepWhereTold view (StandForEvents h.o h.run) h.o.safe disks_begun disks_now (h.is_run.journal_is i))
        (law h.o h.run h.keeps.saved (calls_of (flusher h.o) h.run) begun maker h.is_run.is_run h.keeps.holds refl);
  }
