-- A file that was read, by what the shelf answered and what its text shows.
use Rattle.std.proofs.Common.{◌≡◌, ℕ, List, [], ◌∷◌, Option, Some, None, Result, Ok, Err, refl, sym, ap, ◌∙◌, subst}
use Rattle.std.specs.Global.{Vec}
use Rattle.cube_language.specs.declared.decl.Decl.{Decl}
use Rattle.cube_language.specs.CubesText.{HasCubesFault}
use Rattle.cube_values.specs.declared.call_error.CallError.{CallError}
use Rattle.cube_values.specs.declared.call_error.CallError.TheVariants.{Fault, NoMemory}
use Rattle.outside.specs.declared.reading.FileFault.{FileFault}
use Rattle.outside.specs.declared.reading.FileFault.TheVariants.{Absent as NoFile, TooLong, Failed}
use Rattle.outside.specs.Given.{Given, missing, too_long, whole, ReadsWhole}
use Rattle.outside.specs.ShelfCalls.{ShelfCall, AnswersBy, WhereKnown}
use Rattle.run_files.specs.declared.bad_file.BadFile.{BadFile}
use Rattle.run_files.specs.declared.bad_file.BadFile.TheVariants.{Absent, ReadFailed, CubesTooLong, Cubes, ScriptTooLong, Script as BadScript}
use Rattle.run_files.specs.declared.script.Script.{Script}
use Rattle.run_files.specs.RunFiles.{RunFile, CubesFile, ScriptFile, FileReading, Gives, Fails, file_name, file_limit, IsBad, IsRefusedSize}
use Rattle.run_files.specs.Readings.{IsBadAnswer, IsBadFor, IsRead, ReadsBy, ReadsUnlessNoMemory, ShowsFile}
use Rattle.run_files.specs.Texts.{DeclaresGiven, HoldsScript, ShowsCubesText, ShowsScriptText}

-- calls that are those of the reading are so where memory did not run out
by_calls : {T : Type 0} (file : RunFile) (reading : FileReading) (answer : Result T (CallError BadFile)) (past now : List ShelfCall) → ReadsBy file reading past now → ReadsUnlessNoMemory file reading answer past now
by_calls file reading (Ok value) past now h = h
by_calls file reading (Err (Fault bad)) past now h = h
by_calls file reading (Err NoMemory) past now h = tt

module _ {T : Type 0} (holds : T → Given → Type 0) (told : Option (List (List ℕ × List ℕ))) (before after : Option (List ShelfCall)) (file : RunFile) where
  -- the file was read whole, and its bytes show in the answer
  pub read_whole_shows : (bytes : Vec ℕ) (answer : Result T (CallError BadFile)) → ReadsWhole told (file_name file) (file_limit file) (Ok bytes)
      → WhereKnown (λ past now. AnswersBy (file_name file) (file_limit file) past now (Ok bytes)) before after → ShowsFile holds file (Gives (whole bytes.items)) answer → IsRead holds told before after file answer
  read_whole_shows bytes answer r calls h = record {
    reading = Gives r.given;
    as_told = (r.within, r.by_files);
    calls = λ past known.
        let now = calls past known in
        (now.0, now.1, by_calls file (Gives r.given) answer past now.0 (subst (λ given. ReadsBy file (Gives given) past now.0) (sym r.shown) now.2));
    shown = subst (λ given. ShowsFile holds file (Gives given) answer) (sym r.shown) h;
  }

  -- the file is not there, is too large, or could not be read
  bad_as : (fault : FileFault) (bad : BadFile) → ReadsWhole told (file_name file) (file_limit file) (Err (Fault fault))
      → WhereKnown (λ past now. AnswersBy (file_name file) (file_limit file) past now (Err (Fault fault))) before after → IsBadFor file fault bad → IsRead holds told before after file (Err (Fault bad))
  bad_as NoFile bad r calls h = record {
    reading = Gives r.given;
    as_told = (r.within, r.by_files);
    calls = λ past known.
        let now = calls past known in
        (now.0, now.1, subst (λ given. ReadsBy file (Gives given) past now.0) (sym r.shown) now.2);
    shown = subst (λ given. IsBad file (Gives given) bad) (sym r.shown) h;
  }
  bad_as (TooLong size) bad r calls h = record {
    reading = Gives r.given;
    as_told = (r.within, r.by_files);
    calls = λ past known.
        let now = calls past known in
        (now.0, now.1, subst (λ given. ReadsBy file (Gives given) past now.0) (sym r.shown) now.2);
    shown = subst (λ given. IsBad file (Gives given) bad) (sym r.shown) h;
  }
  bad_as Failed bad r calls h = record { reading = Fails; as_told = tt; calls = calls; shown = h }

  pub read_bad : (error : CallError FileFault) (answer : CallError BadFile) → ReadsWhole told (file_name file) (file_limit file) (Err error)
      → WhereKnown (λ past now. AnswersBy (file_name file) (file_limit file) past now (Err error)) before after → IsBadAnswer file error answer → IsRead holds told before after file (Err answer)
  read_bad (Fault fault) (Fault bad) r calls h = bad_as fault bad r calls h
  read_bad (Fault fault) NoMemory r calls h = absurd h
  read_bad NoMemory (Fault bad) r calls h = absurd h
  read_bad NoMemory NoMemory r calls h = record {
    reading = Fails;
    as_told = tt;
    calls = λ past known. let now = calls past known in (now.0, now.1, tt);
    shown = tt;
  }

-- the counts rise with their faults alone
no_absent_size : (file : RunFile) (size : ℕ) (name : List ℕ) → IsRefusedSize file size (Absent name) → ⊥
no_absent_size (CubesFile own) size name h = h
no_absent_size (ScriptFile session own) size name h = h

no_failed_size : (file : RunFile) (size : ℕ) (name : List ℕ) → IsRefusedSize file size (ReadFailed name) → ⊥
no_failed_size (CubesFile own) size name h = h
no_failed_size (ScriptFile session own) size name h = h

absent_only : (file : RunFile) (fault : FileFault) (name : List ℕ) → IsBadFor file fault (Absent name) → fault ≡ NoFile
absent_only file NoFile name h = refl
absent_only file (TooLong size) name h = absurd (no_absent_size file size name h)
absent_only file Failed name h = absurd h

failed_only : (file : RunFile) (fault : FileFault) (name : List ℕ) → IsBadFor file fault (ReadFailed name) → fault ≡ Failed
failed_only file NoFile name h = absurd h
failed_only file (TooLong size) name h = absurd (no_failed_size file size name h)
failed_only file Failed name h = refl

-- the cubes that the bytes of a file declare, or what is wrong with them
pub cubes_shown : (name bytes text : List ℕ) (answer : Result (Vec Decl) (CallError BadFile)) → text ≡ bytes → ShowsCubesText text answer → ShowsFile DeclaresGiven (CubesFile name) (Gives (whole bytes)) answer
cubes_shown name bytes text (Ok cubes) is h = (text, ap whole (sym is), h)
cubes_shown name bytes text (Err (Fault (Absent other))) is h = absurd h
cubes_shown name bytes text (Err (Fault (ReadFailed other))) is h = absurd h
cubes_shown name bytes text (Err (Fault (CubesTooLong size))) is h = absurd h
cubes_shown name bytes text (Err (Fault (Cubes fault))) is h = subst (λ t. HasCubesFault t fault) is h
cubes_shown name bytes text (Err (Fault (ScriptTooLong number size))) is h = absurd h
cubes_shown name bytes text (Err (Fault (BadScript number fault))) is h = absurd h
cubes_shown name bytes text (Err NoMemory) is h = tt

-- the statements that the bytes of a file have, or what is wrong with them
pub script_shown : (number : ℕ) (name bytes : List ℕ) (answer : Result Script (CallError BadFile)) → ShowsScriptText number bytes answer → ShowsFile HoldsScript (ScriptFile number name) (Gives (whole bytes)) answer
script_shown number name bytes (Ok script) h = (bytes, refl, h)
script_shown number name bytes (Err (Fault (Absent other))) h = absurd h
script_shown number name bytes (Err (Fault (ReadFailed other))) h = absurd h
script_shown number name bytes (Err (Fault (CubesTooLong size))) h = absurd h
script_shown number name bytes (Err (Fault (Cubes fault))) h = absurd h
script_shown number name bytes (Err (Fault (ScriptTooLong other size))) h = absurd h
script_shown number name bytes (Err (Fault (BadScript other fault))) h = h
script_shown number name bytes (Err NoMemory) h = tt
