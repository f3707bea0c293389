-- How a run of scripts ends: with a file that is bad, or as the run of the scripts does that were read.
-- Source: this project's own.
use Rattle.std.specs.Prelude.{◌≡◌, ℕ, List, [], drop, map, Option, Some, None, slice_index_or, unwrap_or}
use Rattle.std.specs.List.{AllByRecursion}
use Rattle.outside.specs.Output.{Gained}
use Rattle.outside.specs.ShelfCalls.{ShelfCall}
use Rattle.outside_disk.specs.Views.{View}
use Rattle.played_runs.specs.ReadySessions.{sentences_of}
use Rattle.run_files.specs.Readings.{AbsenceRises, FaultRises, IsToldAs}
use Rattle.run_files.specs.RunFiles.{FileReading, RunFile}
use Rattle.run_files.specs.declared.bad_file.BadFile.{BadFile}
use Rattle.run_inputs.specs.ReadInputs.{GiveRunInput, StopsAtBad, files_of_run}
use Rattle.run_inputs.specs.declared.inputs.RunInput.{RunInput}
use Rattle.run_words.specs.declared.command.RunCommand.{RunCommand}
use Rattle.cubrick_top.specs.OpenedEnds.{OpenedEnds}
use Rattle.cubrick_top.specs.PlayedEnds.{LeavesNothing, UsesNoShelf}
use Rattle.cubrick_top.specs.declared.fault.Fault.TheVariants.{File, NoMemory}
use Rattle.cubrick_top.specs.declared.fault.Finish.{Finish}
use Rattle.cubrick_top.specs.declared.surroundings.Outside.{Outside}

-- The first of a list, or this where there is none.
abbrev pub first_or : {X : Type 0} → X → List X → X
first_or none xs = slice_index_or xs 0 none

module _ {H D : Type 0} (told : H → Option (List (List ℕ × List ℕ))) (call_list : H → Option (List ShelfCall))
    (fault_count absence_count : H → ℕ) (view : D → View) where
  -- The cubes file and the scripts were read, as the first shelf tells them, and give this.
  pub record ReadsInput (command : RunCommand) (before : Outside H D) (input : RunInput) : Type 0 where
    pub reading : RunFile → FileReading
    pub as_told : AllByRecursion (λ file. IsToldAs (first_or None (map told before.shelves.items)) file (reading file))
        (files_of_run command.cubes command.scripts)
    pub given : GiveRunInput command.cubes command.scripts reading input

  -- They were read up to the first that is bad, by these calls of the first shelf and no others, and it counted so. The
  -- other shelves and the disks stay as they are.
  pub record HasBadFile (command : RunCommand) (before after : Outside H D) (bad : BadFile) : Type 0 where
    pub stops : StopsAtBad (first_or None (map told before.shelves.items))
        (first_or None (map call_list before.shelves.items)) (first_or None (map call_list after.shelves.items))
        (files_of_run command.cubes command.scripts) bad
    pub faults : FaultRises (Some bad) (first_or 0 (map fault_count before.shelves.items))
        (first_or 0 (map fault_count after.shelves.items))
    pub absences : AbsenceRises (Some bad) (first_or 0 (map absence_count before.shelves.items))
        (first_or 0 (map absence_count after.shelves.items))
    pub others : drop 1 after.shelves.items ≡ drop 1 before.shelves.items
    pub disk : after.disk ≡ before.disk
    pub other : after.other ≡ before.other

  -- The run ended so, its sink having taken this before and now. Faults of the files come before those of the store,
  -- and these before what the sessions did. Memory may run out at any time.
  pub data RunEnds (command : RunCommand) (before after : Outside H D) (taken now : Option (List ℕ))
      (finish : Finish) : Type 0 where
    bad_file : (bad : BadFile) → finish.fault ≡ Some (File bad) → HasBadFile command before after bad
        → LeavesNothing finish → Gained taken [] now → RunEnds command before after taken now finish
    no_memory : finish.fault ≡ Some NoMemory → after.disk ≡ before.disk → after.other ≡ before.other
        → LeavesNothing finish
        → UsesNoShelf fault_count absence_count before.shelves.items after.shelves.items → Gained taken [] now
        → RunEnds command before after taken now finish
    was_read : (input : RunInput) → ReadsInput command before input
        → OpenedEnds view told fault_count absence_count command.store input.cubes.items command.settings.shards
        (unwrap_or command.settings.round_every 0) (map sentences_of input.scripts.items) before after taken now finish
        → RunEnds command before after taken now finish
