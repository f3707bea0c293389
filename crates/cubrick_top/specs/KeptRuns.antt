-- What is kept of the run that was played: by what makes its rounds, and on the two disks of a store at every moment.
-- Source: AOSI (ICDE 2018), LSE and recovery; Cubrick (VLDB 2016), flush rounds; two files are this project's own.
use Rattle.std.specs.Prelude.{◌≡◌, ℕ, List}
use Rattle.core_agreements.specs.ScriptedRuns.{IsScriptedRun}
use Rattle.core_events.specs.Events.{CoreEvent, Opening}
use Rattle.core_events.specs.Runs.{IsCoreRun}
use Rattle.core_program.specs.CoreFits.{CoreEntry}
use Rattle.core_records.specs.CoreRecords.{RunScripts, record_of}
use Rattle.core_serial.specs.Journals.{journal_of}
use Rattle.cube_journal.specs.declared.journal_entry.JournalEntry.{JournalEntry}
use Rattle.cube_rounds.specs.Stands.{Kept}
use Rattle.cube_run.specs.RunRecords.{RunRecord}
use Rattle.flush_loop.specs.MadeRounds.{KeptClaim}
use Rattle.opened_core.specs.Openings.{opening_over}
use Rattle.outside_disk.specs.Views.{View}
use Rattle.played_runs.specs.LeftByRuns.{HasKeptOf}
use Rattle.recorded_images.specs.AtEveryMoment.{KeepAtEveryMoment, TwoDisks}
use Rattle.recorded_images.specs.RecordedImages.{StandForEvents, StandForRecord}
use Rattle.round_store.specs.States.{WhereTold}

-- A run with this journal, over what is kept.
pub record IsRunWith (kept : Kept) (shards sessions : ℕ) (journal : List JournalEntry) (o : Opening)
    (run : List CoreEvent) : Type 0 where
  pub log : List CoreEntry
  pub over : o ≡ opening_over kept shards sessions log
  pub is_run : IsCoreRun o run
  pub journal_is : journal ≡ journal_of o run

module _ {M : Type 0} (has_kept : M → M → KeptClaim) (begun maker : M) where
  -- The record is that of a run whose sessions followed their scripts. The maker of rounds has kept of it what it says.
  pub record HasKeptOfRecord (recorded : RunRecord) : Type 0 where
    pub o : Opening
    pub given : RunScripts
    pub run : List CoreEvent
    pub scripted : IsScriptedRun o given run
    pub same : record_of o given run ≡ recorded
    pub keeps : HasKeptOf has_kept begun maker o run

  -- So it has of a run with this journal, of which there may be no record.
  pub record HasKeptOfRun (kept : Kept) (shards sessions : ℕ) (journal : List JournalEntry) : Type 0 where
    pub o : Opening
    pub run : List CoreEvent
    pub is_run : IsRunWith kept shards sessions journal o run
    pub keeps : HasKeptOf has_kept begun maker o run

module _ {D : Type 0} (view : D → View) (before begun now : TwoDisks D) where
  -- Where they told their files before, the disks keep the run on record at every moment since it was begun: two images
  -- stand for what is kept of it up to LSE as the journal has it by then, in the end too, and meanwhile a round further.
  abbrev pub KeepRecord : RunRecord → Type 0
  KeepRecord run =
      WhereTold (view before.first) (view before.second) (λ f g.
      KeepAtEveryMoment view (StandForRecord run) run.safe begun now run.journal)

  -- So they keep a run with this journal, by its events.
  pub record KeepRun (kept : Kept) (shards sessions : ℕ) (journal : List JournalEntry) : Type 0 where
    pub o : Opening
    pub run : List CoreEvent
    pub is_run : IsRunWith kept shards sessions journal o run
    pub at_every_moment : WhereTold (view before.first) (view before.second) (λ f g.
        KeepAtEveryMoment view (StandForEvents o run) o.safe begun now journal)
