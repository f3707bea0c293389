-- A run whose files and store are in order ends without a fault or for want of memory, where no count of faults rose.
use Rattle.std.proofs.Common.{◌≡◌, ◌⊎◌, inl, inr, ℕ, Bool, List, length, map, Option, Some, None, Err, is_some, true, true≢false, refl, sym, unwrap_or}
use Rattle.cube_journal.specs.declared.journal_entry.JournalEntry.{JournalEntry}
use Rattle.cube_language.specs.CubesText.{Declares}
use Rattle.cube_language.specs.declared.decl.Decl.{Decl}
use Rattle.cube_rounds.specs.Stands.{Kept}
use Rattle.cube_run.specs.RunRecords.{RunRecord, Sentence}
use Rattle.cube_schema.specs.Texts.{TextsDeclareOneList}
use Rattle.cube_values.specs.declared.call_error.CallError.TheVariants as call
use Rattle.opened_core.specs.KeptShards.{TakeAllKept}
use Rattle.opened_store.specs.declared.fault.StoreFault.{StoreFault}
use Rattle.opened_store.specs.declared.fault.StoreFault.TheVariants.{DiskFault, ShardFull}
use Rattle.outside.specs.Counts.{Rose}
use Rattle.outside.specs.Files.{content_of}
use Rattle.outside.specs.Given.{given_by, whole}
use Rattle.outside.specs.ShelfCalls.{ShelfCall}
use Rattle.outside_disk.specs.Views.{View}
use Rattle.played_runs.specs.ReadySessions.{sentences_of}
use Rattle.run_files.specs.Readings.{IsToldAs}
use Rattle.run_files.specs.RunFiles.{CubesFile, Gives, RunFile, file_limit}
use Rattle.run_files.specs.declared.bad_file.BadFile.{BadFile}
use Rattle.run_inputs.proofs.ServedFiles.{FilesHaveOneEnd, served}
use Rattle.run_inputs.specs.ReadInputs.{GiveRunInput, files_of_run}
use Rattle.run_inputs.specs.declared.inputs.RunInput.{RunInput}
use Rattle.run_words.specs.declared.command.RunCommand.{RunCommand}
use Rattle.run_words.specs.declared.command.StoreName.{StoreName}
use Rattle.cubrick_top.specs.OpenedEnds.{HasNoStore, KeepsRecord, KeepsRun, LosesRoundsByFault, OpenedEnds, no_memory as no_memory_opened, no_store, played}
use Rattle.cubrick_top.specs.PlayedEnds.{OutputRises, PlayedEnds, is_lost}
use Rattle.cubrick_top.specs.RunEnds.{HasBadFile, ReadsInput, RunEnds, bad_file, first_or, no_memory, was_read}
use Rattle.cubrick_top.specs.ServedRuns.{FailsOnlyForMemory, InputsAreInOrder, NoFaultCountRose, StoreIsInOrder}
use Rattle.cubrick_top.specs.declared.fault.Fault.{Fault}
use Rattle.cubrick_top.specs.declared.fault.Fault.TheVariants as fault
use Rattle.cubrick_top.specs.declared.fault.Finish.{Finish}
use Rattle.cubrick_top.specs.declared.surroundings.Outside.{Outside}
use Rattle.cubrick_top.proofs.ServedStores.{begins-taken, never-too-full, only-disk}

-- The sessions have left no other fault, where the text could be written and no round was lost to a disk.
module _ {H : Type 0} (told : H → Option (List (List ℕ × List ℕ))) (fault_count absence_count : H → ℕ)
    (HoldsOfRecord : RunRecord → Type 0) (HoldsOfRun : List JournalEntry → Type 0) (stored : Bool) (kept : Kept)
    (shards every : ℕ) (scripts : List (List Sentence)) (before after : List H) (finish : Finish)
    (taken now : Option (List ℕ)) (sink sink_now : ℕ) (takes : TakeAllKept kept shards)
    (quiet : Rose sink sink_now → ⊥) (none_lost : stored ≡ true → is_lost finish.journal.items ≡ true → ⊥) where
  played-served : (f : Option Fault) → OutputRises f sink sink_now
      → PlayedEnds told fault_count absence_count HoldsOfRecord HoldsOfRun stored kept shards every scripts before
      after finish taken now f
      → FailsOnlyForMemory f
  played-served None rises ends = inl refl
  played-served (Some fault.NoMemory) rises ends = inr refl
  played-served (Some fault.OutputFault) rises ends = absurd (quiet rises)
  played-served (Some (fault.Store DiskFault)) rises ends = absurd (none_lost ends.0 ends.4)
  played-served (Some (fault.Store (ShardFull shard rows))) rises ends =
      absurd (never-too-full kept shards (record { shard = shard; rows = rows }) takes ends.0)
  played-served f rises ends = absurd ends

module _ {H D : Type 0} (told : H → Option (List (List ℕ × List ℕ))) (call_list : H → Option (List ShelfCall))
    (fault_count absence_count : H → ℕ) (view : D → View) (command : RunCommand) (before after : Outside H D)
    (sink sink_now : ℕ) (finish : Finish) (quiet : NoFaultCountRose fault_count view before after sink sink_now)
    (rises : OutputRises finish.fault sink sink_now) (taken now : Option (List ℕ)) where
  no-disk : (Rose (view before.disk).faults (view after.disk).faults
      ⊎ Rose (view before.other).faults (view after.other).faults) → ⊥
  no-disk (inl rose) = quiet.disk rose
  no-disk (inr rose) = quiet.other rose

  none-lost : (asked : Option StoreName) → is_some asked ≡ true
      → LosesRoundsByFault view asked before after finish.journal.items → is_lost finish.journal.items ≡ true → ⊥
  none-lost None stored loses lost = true≢false (sym stored)
  none-lost (Some store) stored loses lost = no-disk (loses lost)

  module _ (asked : Option StoreName) (cubes : List Decl) (shards every : ℕ) (scripts : List (List Sentence))
      (ready : StoreIsInOrder asked cubes shards (view before.disk) (view before.other)) where
    none-refused : (cause : StoreFault) → HasNoStore view asked cubes before after cause → ⊥
    none-refused cause none =
        no-disk
        (none.failed
        (only-disk cubes shards (view before.disk) (view before.other) none.store.is_new cause
        (coe 0 1 (i. StoreIsInOrder (none.is_asked i) cubes shards (view before.disk) (view before.other)) ready)
        none.takes))

    opened-served : OpenedEnds view told fault_count absence_count asked cubes shards every scripts before after taken
        now finish → FailsOnlyForMemory finish.fault
    opened-served (no_store cause is none nothing unused gained) = absurd (none-refused cause none)
    opened-served (no_memory_opened is untouched nothing unused gained) = inr is
    opened-served (played kept begins ends lost) =
        played-served told fault_count absence_count (KeepsRecord view asked cubes kept before after begins)
        (KeepsRun view asked cubes kept before after begins shards (length scripts)) (is_some asked) kept shards every
        scripts before.shelves.items after.shelves.items finish taken now sink sink_now
        (begins-taken view asked cubes shards kept before after ready begins) quiet.sink
        (λ stored is. none-lost asked stored lost is) finish.fault rises ends

  module _ (one_end : FilesHaveOneEnd) (one_list : TextsDeclareOneList)
      (ready : InputsAreInOrder told view command before) where
    abbrev tells : Option (List (List ℕ × List ℕ))
    tells = first_or None (map told before.shelves.items)

    abbrev cubes_file : RunFile
    cubes_file = CubesFile command.cubes

    none-bad : (bad : BadFile) → HasBadFile told call_list fault_count absence_count view command before after bad → ⊥
    none-bad bad has =
        served one_end tells (first_or None (map call_list before.shelves.items))
        (first_or None (map call_list after.shelves.items)) (files_of_run command.cubes command.scripts)
        (first_or 0 (map fault_count before.shelves.items)) (first_or 0 (map fault_count after.shelves.items))
        ready.files.in_order quiet.shelf (GiveRunInput command.cubes command.scripts)
        (Err (call.Fault bad)) has.stops has.faults

    -- The cubes that were read are those that the cubes file declares by what the shelf tells.
    same-cubes : (input : RunInput) → ReadsInput told call_list fault_count absence_count view command before input
        → input.cubes.items ≡ ready.cubes
    same-cubes input read =
        let gives = read.given.cubes in
        let declares = ready.files.declares in
        let contents = ready.files.in_order.contents in
        let gave = given_by (file_limit cubes_file) (content_of contents command.cubes) in
        let as_told = coe 0 1 (i. IsToldAs tells cubes_file (gives.is i)) read.as_told.0 in
        let by_files : whole gives.text ≡ gave = as_told.1 contents ready.files.in_order.tells in
        let by_told : Gives gave ≡ Gives (whole declares.text) = declares.is in
        let same : gives.text ≡ declares.text = cc (by_files, by_told) in
        one_list gives.text input.cubes.items ready.cubes gives.declares
        (coe 1 0 (i. Declares (same i) ready.cubes) declares.declares)

    -- So the run ends.
    pub run-served : RunEnds told call_list fault_count absence_count view command before after taken now finish
        → FailsOnlyForMemory finish.fault
    run-served (bad_file bad is has nothing gained) = absurd (none-bad bad has)
    run-served (no_memory is disk other nothing unused gained) = inr is
    run-served (was_read input read ends) =
        opened-served command.store input.cubes.items command.settings.shards
        (unwrap_or command.settings.round_every 0) (map sentences_of input.scripts.items)
        (coe 1 0 (i. StoreIsInOrder command.store (same-cubes input read i) command.settings.shards (view before.disk)
        (view before.other)) ready.store)
        ends
