-- How a run ended whose files were not all read.
use Rattle.std.proofs.Common.{◌≡◌, ◌∙◌, ℕ, List, [], ◌∷◌, drop, map, Option, Some, None, Err, ap, sym, append-nil}
use Rattle.cube_values.specs.declared.call_error.CallError.{CallError}
use Rattle.cube_values.specs.declared.call_error.CallError.TheVariants as call
use Rattle.outside.specs.Output.{Gained}
use Rattle.outside.specs.ShelfCalls.{ShelfCall}
use Rattle.outside_disk.specs.Views.{View}
use Rattle.run_files.specs.Readings.{AbsenceRises, FaultRises, bad_in}
use Rattle.run_files.specs.RunFiles.{FileReading, RunFile}
use Rattle.run_files.specs.declared.bad_file.BadFile.{BadFile}
use Rattle.run_inputs.specs.ReadInputs.{ReadingEnds, StopsAtBad, files_of_run}
use Rattle.run_inputs.specs.declared.inputs.RunInput.{RunInput}
use Rattle.run_words.specs.declared.command.RunCommand.{RunCommand}
use Rattle.cubrick_top.specs.PlayedEnds.{LeavesNothing}
use Rattle.cubrick_top.specs.RunEnds.{RunEnds, bad_file, first_or, no_memory}
use Rattle.cubrick_top.specs.Unplayed.{fault_of_file}
use Rattle.cubrick_top.specs.declared.fault.Finish.{Finish}
use Rattle.cubrick_top.specs.declared.surroundings.Outside.{Outside}

-- A sink that stays as it is gains nothing.
pub gains-nothing : (taken : Option (List ℕ)) → Gained taken [] taken
gains-nothing taken bytes is = is ∙ ap (λ (all : List ℕ). Some all) (sym (append-nil bytes))

module _ {H D : Type 0} (told : H → Option (List (List ℕ × List ℕ))) (call_list : H → Option (List ShelfCall))
    (fault_count absence_count : H → ℕ) (view : D → View) (command : RunCommand) (before after : Outside H D) (x y : H)
    (ys : List H) (were : before.shelves.items ≡ y ∷ ys) (are : after.shelves.items ≡ x ∷ ys)
    (first : after.disk ≡ before.disk) (second : after.other ≡ before.other) (taken now : Option (List ℕ))
    (finish : Finish) (nothing : LeavesNothing finish) (silent : Gained taken [] now) where
  others : drop 1 after.shelves.items ≡ drop 1 before.shelves.items
  others = ap (λ (shelves : List H). drop 1 shelves) are ∙ sym (ap (λ (shelves : List H). drop 1 shelves) were)

  counts-same : (count : H → ℕ) → count x ≡ count y → map count after.shelves.items ≡ map count before.shelves.items
  counts-same count same =
      ap (λ (shelves : List H). map count shelves) are ∙ ap (λ (n : ℕ). n ∷ map count ys) same
      ∙ sym (ap (λ (shelves : List H). map count shelves) were)

  pub unread : (gives : (RunFile → FileReading) → RunInput → Type 0) {cubes : List ℕ} {scripts : List (List ℕ)}
      (error : CallError BadFile)
      → ReadingEnds gives (told y) (call_list y) (call_list x) (files_of_run cubes scripts) (Err error)
      → finish.fault ≡ Some (fault_of_file error) → cubes ≡ command.cubes → scripts ≡ command.scripts
      → FaultRises (bad_in {T = RunInput} (Err error)) (fault_count y) (fault_count x)
      → AbsenceRises (bad_in {T = RunInput} (Err error)) (absence_count y) (absence_count x)
      → RunEnds told call_list fault_count absence_count view command before after taken now finish
  unread gives (call.Fault bad) ends is cubes_are scripts_are faults absences =
      bad_file bad is (record {
        stops =
            coe 0 1 (i. StopsAtBad (first_or None (map told (sym were i))) (first_or None (map call_list (sym were i)))
            (first_or None (map call_list (sym are i))) (files_of_run (cubes_are i) (scripts_are i)) bad) ends;
        faults =
            coe 1 0 (i. FaultRises (Some bad) (first_or 0 (map fault_count (were i)))
            (first_or 0 (map fault_count (are i)))) faults;
        absences =
            coe 1 0 (i. AbsenceRises (Some bad) (first_or 0 (map absence_count (were i)))
            (first_or 0 (map absence_count (are i)))) absences;
        others = others;
        disk = first;
        other = second;
      }) nothing silent
  unread gives call.NoMemory ends is cubes_are scripts_are faults absences =
      no_memory is first second nothing
      (record {
        others = others;
        faults = counts-same fault_count faults;
        absences = counts-same absence_count absences;
      }) silent
