-- How a run ends whose sessions were to play their scripts over what is kept.
-- Source: this project's own.
use Rattle.std.specs.Prelude.{◌≡◌, ◌⊎◌, ℕ, Bool, true, false, List, [], drop, length, map, Option, Some, None}
use Rattle.std.specs.List.{list_any}
use Rattle.cube_journal.specs.WholeText.{whole_text}
use Rattle.cube_journal.specs.declared.journal_entry.JournalEntry.{JournalEntry}
use Rattle.cube_journal.specs.declared.journal_entry.JournalEntry.TheVariants.{RoundLost}
use Rattle.cube_journal.specs.declared.journal_entry.LostCause.TheVariants.{Disk}
use Rattle.cube_journal.specs.declared.reply.Reply.{Reply}
use Rattle.cube_rounds.specs.Stands.{Kept}
use Rattle.cube_run.specs.RunRecords.{RunRecord, Sentence}
use Rattle.flush_loop.specs.declared.round_result.RoundResult.{RoundResult}
use Rattle.opened_core.specs.KeptShards.{IsTooFull, TakeAllKept}
use Rattle.opened_store.specs.declared.fault.StoreFault.TheVariants.{DiskFault, ShardFull}
use Rattle.outside.specs.Counts.{Rose}
use Rattle.outside.specs.Output.{Gained, GainedPrefix}
use Rattle.played_runs.specs.RunsOnRecord.{IsRunOver, LeavesLegal, has_saved, run_over}
use Rattle.played_runs.specs.Shelves.{ShelvesGoOn}
use Rattle.cubrick_top.specs.declared.fault.Fault.{Fault}
use Rattle.cubrick_top.specs.declared.fault.Fault.TheVariants.{Store, OutputFault, NoMemory}
use Rattle.cubrick_top.specs.declared.fault.Finish.{Finish}

-- No session ran.
pub record LeavesNothing (finish : Finish) : Type 0 where
  pub journal : finish.journal.items ≡ []
  pub names : finish.names ≡ []
  pub shards : finish.shards.items ≡ []

-- No shelf was used but the first, which may have given the files of the run, and none counted anything.
pub record UsesNoShelf {H : Type 0} (fault_count absence_count : H → ℕ) (before after : List H) : Type 0 where
  pub others : drop 1 after ≡ drop 1 before
  pub faults : map fault_count after ≡ map fault_count before
  pub absences : map absence_count after ≡ map absence_count before

-- The entry tells of a round that was lost to the disk.
abbrev pub is_lost_to_disk : JournalEntry → Bool
is_lost_to_disk (RoundLost epoch Disk) = true
is_lost_to_disk _ = false

abbrev pub is_lost : List JournalEntry → Bool
is_lost journal = list_any is_lost_to_disk journal

-- The fault of a run's rounds, once its text is written: with a store, that one was lost to the disk; else, that
-- memory ran out in the last one.
abbrev pub IsRoundFault : Bool → List JournalEntry → Option RoundResult → Option Fault → Type 0
IsRoundFault stored journal last None = (stored ≡ true → is_lost journal ≡ false) × (has_saved last ≡ true)
IsRoundFault stored journal last (Some (Store DiskFault)) = (stored ≡ true) × (is_lost journal ≡ true)
IsRoundFault stored journal last (Some NoMemory) = (stored ≡ true → is_lost journal ≡ false) × (has_saved last ≡ false)
IsRoundFault stored journal last (Some fault) = ⊥

-- What was written of a text, which is written where all scripts were played whole, and how the rounds then ended.
abbrev pub IsLeft : Bool → Bool → List JournalEntry → Option RoundResult → List ℕ → Option (List ℕ)
    → Option (List ℕ) → Option Fault → Type 0
IsLeft stored whole journal last text taken now None =
    (whole ≡ true) × Gained taken text now × IsRoundFault stored journal last None
IsLeft stored whole journal last text taken now (Some (Store DiskFault)) =
    (whole ≡ true) × Gained taken text now × IsRoundFault stored journal last (Some (Store DiskFault))
IsLeft stored whole journal last text taken now (Some OutputFault) = (whole ≡ true) × GainedPrefix taken text now
IsLeft stored whole journal last text taken now (Some NoMemory) =
    Gained taken [] now
    ⊎ ((whole ≡ true) × Gained taken text now × IsRoundFault stored journal last (Some NoMemory))
IsLeft stored whole journal last text taken now (Some fault) = ⊥

-- The count of the sink rises exactly with the fault that the text could not be written.
abbrev pub OutputRises : Option Fault → ℕ → ℕ → Type 0
OutputRises (Some OutputFault) before now = Rose before now
OutputRises fault before now = now ≡ before

-- What is known of how a run was kept: of its record, and of a run that left a journal where there is no record.
module _ {H : Type 0} (told : H → Option (List (List ℕ × List ℕ))) (fault_count absence_count : H → ℕ)
    (HoldsOfRecord : RunRecord → Type 0) (HoldsOfRun : List JournalEntry → Type 0) where
  -- The scripts were played over what is kept, of which no shard has too much, each with its replies, and this is the
  -- text of the run. There are as many shards as were asked for. Where the last round saved all, the run ended with all
  -- safe. So the run was kept.
  pub record HasText (saved : Bool) (kept : Kept) (shards every : ℕ) (scripts : List (List Sentence))
      (before after : List H) (finish : Finish) (text : List ℕ) : Type 0 where
    pub takes : TakeAllKept kept shards
    pub all_shards : length finish.shards.items ≡ shards
    pub replies : List (List Reply)
    pub run : IsRunOver kept every (map told before) scripts replies finish.names finish.journal.items saved
        finish.shards.items
    pub run_kept : HoldsOfRecord (run_over kept scripts run.file every run.names finish.journal.items)
    pub shelves : ShelvesGoOn told fault_count absence_count (length scripts) true replies before after
    pub text_is : text ≡ whole_text kept.epoch replies finish.journal.items

  -- How such a run ended, and what its sink gained: the whole text, also where a round was lost to the disk or the
  -- last one lacked memory; a part of it; or nothing, where a shard is too full or memory ran out before.
  abbrev pub PlayedEnds : Bool → Kept → ℕ → ℕ → List (List Sentence) → List H → List H → Finish → Option (List ℕ)
      → Option (List ℕ) → Option Fault → Type 0
  PlayedEnds stored kept shards every scripts before after finish taken now None =
      (text : List ℕ) × HasText true kept shards every scripts before after finish text × Gained taken text now
      × (stored ≡ true → is_lost finish.journal.items ≡ false)
  PlayedEnds stored kept shards every scripts before after finish taken now (Some (Store DiskFault)) =
      (stored ≡ true) × (text : List ℕ) × HasText false kept shards every scripts before after finish text
      × Gained taken text now × (is_lost finish.journal.items ≡ true)
  PlayedEnds stored kept shards every scripts before after finish taken now (Some (Store (ShardFull shard rows))) =
      IsTooFull kept shards (record { shard = shard; rows = rows }) × LeavesNothing finish
      × UsesNoShelf fault_count absence_count before after × Gained taken [] now
  PlayedEnds stored kept shards every scripts before after finish taken now (Some OutputFault) =
      (text : List ℕ) × HasText false kept shards every scripts before after finish text × GainedPrefix taken text now
  PlayedEnds stored kept shards every scripts before after finish taken now (Some NoMemory) =
      (Gained taken [] now × ((LeavesNothing finish × UsesNoShelf fault_count absence_count before after)
      ⊎ (LeavesLegal kept finish.journal.items × HoldsOfRun finish.journal.items)))
      ⊎ ((text : List ℕ) × HasText false kept shards every scripts before after finish text × Gained taken text now
      × (stored ≡ true → is_lost finish.journal.items ≡ false))
  PlayedEnds stored kept shards every scripts before after finish taken now (Some fault) = ⊥
