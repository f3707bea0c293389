-- Files that are told and in order are read, unless the shelf counted a fault or memory ran out.
use Rattle.std.proofs.Common.{◌≡◌, ℕ, List, [], ◌∷◌, refl, Option, Some, None, Result, Ok, Err}
use Rattle.std.proofs.lemmas.Option.{none-some}
use Rattle.cube_values.specs.Faults.{IfFault}
use Rattle.cube_values.specs.declared.call_error.CallError.{CallError}
use Rattle.cube_values.specs.declared.call_error.CallError.TheVariants.{Fault, NoMemory}
use Rattle.outside.specs.Counts.{Rose}
use Rattle.outside.specs.Files.{content_of}
use Rattle.outside.specs.Given.{given_by}
use Rattle.outside.specs.ShelfCalls.{ShelfCall}
use Rattle.run_files.specs.Readings.{FaultRises, IsToldAs, bad_in}
use Rattle.run_files.specs.RunFiles.{AreInOrder, Fails, FileReading, FilesEnd, Gives, IsBad, IsUnread, ReadsInOrder, RunFile, file_limit, file_name}
use Rattle.run_files.specs.declared.bad_file.BadFile.{BadFile}
use Rattle.run_files.specs.declared.bad_file.BadFile.TheVariants.{Absent, Cubes, CubesTooLong, ReadFailed, Script, ScriptTooLong}
use Rattle.run_inputs.specs.ReadInputs.{AreToldInOrder, ReadingEnds, StopsAtBad, told_reading}
use Rattle.run_inputs.proofs.AgreeingReadings.{all-here}

-- Files have one end.
abbrev pub FilesHaveOneEnd : Type 0
FilesHaveOneEnd =
    (reading : RunFile → FileReading) (files : List RunFile) (a b : Option BadFile)
    → FilesEnd reading files a → FilesEnd reading files b → a ≡ b

unread-rises : (file : RunFile) (bad : BadFile) (before now : ℕ) → IsUnread file bad → FaultRises (Some bad) before now
    → Rose before now
unread-rises file (ReadFailed name) before now is rises = rises
unread-rises file (Absent name) before now is rises = absurd is
unread-rises file (CubesTooLong size) before now is rises = absurd is
unread-rises file (Cubes fault) before now is rises = absurd is
unread-rises file (ScriptTooLong script size) before now is rises = absurd is
unread-rises file (Script script fault) before now is rises = absurd is

module _ (one_end : FilesHaveOneEnd) (told : Option (List (List ℕ × List ℕ)))
    (calls new_calls : Option (List ShelfCall)) (files : List RunFile) (faults new_faults : ℕ) (ready : AreToldInOrder told files)
    (quiet : Rose faults new_faults → ⊥) where
  never-both : (file : RunFile) (reading : FileReading) (bad : BadFile) → ReadsInOrder file reading
      → IsBad file reading bad → ⊥
  never-both file reading bad good is =
      none-some bad
      (one_end (λ other. reading) (file ∷ []) None (Some bad) (good, tt)
      (record { before = []; file = file; after = []; are = refl; good = tt; is = is }))

  no-bad : (bad : BadFile) → StopsAtBad told calls new_calls files bad → FaultRises (Some bad) faults new_faults → ⊥
  no-bad bad s rises = at (s.reading s.first.file) refl
    where
      at : (reading : FileReading) → s.reading s.first.file ≡ reading → ⊥
      at Fails is =
          quiet
          (unread-rises s.first.file bad faults new_faults
          (coe 0 1 (i. IsBad s.first.file (is i) bad) s.first.is) rises)
      at (Gives given) is =
          let file : RunFile = s.first.file in
          let as_told = coe 0 1 (i. IsToldAs told file (is i))
          (all-here (λ other. IsToldAs told other (s.reading other)) s.first.before file [] s.read.as_told)
          in
          let same : given ≡ given_by (file_limit file) (content_of ready.contents (file_name file)) =
          as_told.1 ready.contents ready.tells
          in
          let good : ReadsInOrder file (told_reading ready.contents file) =
          all-here (λ other. ReadsInOrder other (told_reading ready.contents other)) s.first.before file s.first.after
          (coe 0 1 (i. AreInOrder (told_reading ready.contents) (s.first.are i)) ready.in_order)
          in
          never-both file (Gives given) bad (coe 1 0 (i. ReadsInOrder file (Gives (same i))) good)
          (coe 0 1 (i. IsBad file (is i) bad) s.first.is)

  pub served : {T : Type 0} (gives : (RunFile → FileReading) → T → Type 0) (answer : Result T (CallError BadFile))
      → ReadingEnds gives told calls new_calls files answer → FaultRises (bad_in answer) faults new_faults
      → IfFault answer (λ bad. ⊥)
  served gives (Ok value) ends rises = tt
  served gives (Err (Fault bad)) ends rises = no-bad bad ends rises
  served gives (Err NoMemory) ends rises = tt
