-- The scripts with the cubes file before them, and what they give a run.
use Rattle.std.proofs.Common.{◌≡◌, ◌∙◌, ℕ, ◌≤◌, List, [], ◌∷◌, ◌++◌, length, refl, sym, ap, arith, All, Option, Result, Ok, Err, IfOk}
use Rattle.std.proofs.lemmas.List.{length-map}
use Rattle.std.proofs.lemmas.List.Elements.{All-cons, All-nil}
use Rattle.std.proofs.lemmas.Slice.Zip.{AllZip-long}
use Rattle.std.specs.Global.{Vec}
use Rattle.aosi_desk.specs.Desks.{AreCubes, decl_names}
use Rattle.cube_language.specs.Cubes.{first_repeated}
use Rattle.cube_language.specs.CubesText.{Cube, Declares, Dim, Line, Metric, Skipped, cube_names, cubes_in}
use Rattle.cube_language.specs.declared.decl.Decl.{Decl}
use Rattle.cube_language.specs.declared.piece.TheConstants.{MOST_STATEMENTS}
use Rattle.cube_values.specs.declared.call_error.CallError.{CallError}
use Rattle.cube_values.specs.declared.call_error.CallError.TheVariants.{Fault, NoMemory}
use Rattle.outside.specs.ShelfCalls.{ShelfCall}
use Rattle.run_files.specs.Readings.{IsRead, ShowsFile}
use Rattle.run_files.specs.RunFiles.{CubesFile, Fails, FileReading, Gives, IsBad, ReadsInOrder, RunFile}
use Rattle.run_files.specs.Texts.{DeclaresGiven}
use Rattle.run_files.specs.declared.bad_file.BadFile.{BadFile}
use Rattle.run_inputs.specs.ReadInputs.{AreReadInTurn, GiveOverCubes, GiveRunInput, GivesCubes, GivesSentences, ReadingEnds, files_of_run, script_files}
use Rattle.run_inputs.specs.declared.inputs.RunInput.{RunInput}
use Rattle.run_inputs.proofs.AgreeingReadings.{Agree, FilesGive, all-before, all-front, all-here, as-many-files, given-alike, order-alike, scripts-agree, told-alike, turn-alike, with_cubes}
use Rattle.run_inputs.proofs.SaidTexts.{few-said, is-bad}
use Rattle.script_sentences.specs.declared.said.Said.{Said}

-- ---- the cubes file first

-- Where files are not read to the end it is the same what they would give.
pub ends-unread : {T U : Type 0} (gives : (RunFile → FileReading) → T → Type 0)
    (other : (RunFile → FileReading) → U → Type 0) (told : Option (List (List ℕ × List ℕ)))
    (calls new : Option (List ShelfCall)) (files : List RunFile) (error : CallError BadFile)
    → ReadingEnds gives told calls new files (Err error) → ReadingEnds other told calls new files (Err error)
ends-unread gives other told calls new files (Fault bad) h = h
ends-unread gives other told calls new files NoMemory h = h

module _ (told : Option (List (List ℕ × List ℕ))) (calls mid new : Option (List ShelfCall)) (cubes_name : List ℕ)
    (names : List (List ℕ)) where
  abbrev Ends : Result RunInput (CallError BadFile) → Type 0
  Ends answer = ReadingEnds (GiveRunInput cubes_name names) told calls new (files_of_run cubes_name names) answer

  gives-cubes : (declared : Vec Decl) (reading : FileReading)
      → ShowsFile DeclaresGiven (CubesFile cubes_name) reading (Ok declared) → GivesCubes reading declared.items
  gives-cubes declared Fails s = absurd s
  gives-cubes declared (Gives given) s = record { text = s.0; is = ap Gives s.1; declares = s.2 }

  cubes-in-order : (cubes : List Decl) (reading : FileReading) → GivesCubes reading cubes
      → ReadsInOrder (CubesFile cubes_name) reading
  cubes-in-order cubes reading g = coe 1 0 (i. ReadsInOrder (CubesFile cubes_name) (g.is i)) (cubes, g.declares)

  -- Files that were read behind the cubes file.
  behind-cubes : (declared : Vec Decl) (reading : RunFile → FileReading) (files : List RunFile)
      (r : IsRead DeclaresGiven told calls mid (CubesFile cubes_name) (Ok declared))
      → Agree reading (with_cubes r.reading reading) files → AreReadInTurn told mid new reading files
      → AreReadInTurn told calls new (with_cubes r.reading reading) (CubesFile cubes_name ∷ files)
  behind-cubes declared reading files r agree read = record {
    as_told = (r.as_told, told-alike reading (with_cubes r.reading reading) told files agree read.as_told);
    by = λ past known.
        let a = r.calls past known in
        let b = read.by a.0 a.1 in
        (b.0, b.1, (a.0, a.2, turn-alike reading (with_cubes r.reading reading) files a.0 b.0 agree b.2));
  }

  pub with-scripts : (declared : Vec Decl) (answer : Result RunInput (CallError BadFile))
      → IsRead DeclaresGiven told calls mid (CubesFile cubes_name) (Ok declared)
      → ReadingEnds (GiveOverCubes declared.items names) told mid new (script_files 1 names) answer → Ends answer
  with-scripts declared (Ok input) r s =
      let agree = scripts-agree r.reading s.reading 1 names in
      record {
        reading = with_cubes r.reading s.reading;
        read = behind-cubes declared s.reading (script_files 1 names) r agree s.read;
        given = record {
          cubes = coe 1 0 (i. GivesCubes r.reading (s.given.0 i)) (gives-cubes declared r.reading r.shown);
          scripts =
              given-alike s.reading (with_cubes r.reading s.reading) (script_files 1 names) input.scripts.items agree
              s.given.1;
        };
      }
  with-scripts declared (Err NoMemory) r s = λ past known.
      let a = r.calls past known in
      let b = s a.0 a.1 in (b.0, b.1, tt)
  with-scripts declared (Err (Fault bad)) r s =
      let first = s.first in
      let reading : RunFile → FileReading = with_cubes r.reading s.reading in
      let agree : Agree s.reading reading (first.before ++ first.file ∷ first.after) =
      coe 0 1 (i. Agree s.reading reading (first.are i)) (scripts-agree r.reading s.reading 1 names)
      in
      let same : RunFile → Type 0 = λ file. reading file ≡ s.reading file in
      record {
        reading = reading;
        first = record {
          before = CubesFile cubes_name ∷ first.before;
          file = first.file;
          after = first.after;
          are = ap (λ (files : List RunFile). CubesFile cubes_name ∷ files) first.are;
          good = (
            cubes-in-order declared.items r.reading (gives-cubes declared r.reading r.shown),
            order-alike s.reading reading first.before
                (all-before same first.before (first.file ∷ first.after) agree) first.good,
          );
          is =
              coe 1 0 (i. IsBad first.file (all-here same first.before first.file first.after agree i) bad)
              first.is;
        };
        read =
            behind-cubes declared s.reading (first.before ++ first.file ∷ []) r
            (all-front same first.before first.file first.after agree) s.read;
      }

  pub without-scripts : (error : CallError BadFile)
      → IsRead DeclaresGiven told calls new (CubesFile cubes_name) (Err error) → Ends (Err error)
  without-scripts NoMemory r = λ past known. let a = r.calls past known in (a.0, a.1, tt)
  without-scripts (Fault bad) r = record {
    reading = λ file. r.reading;
    first = record {
      before = [];
      file = CubesFile cubes_name;
      after = script_files 1 names;
      are = refl;
      good = tt;
      is = is-bad DeclaresGiven (CubesFile cubes_name) r.reading bad r.shown;
    };
    read = record {
      as_told = (r.as_told, tt);
      by = λ past known. let a = r.calls past known in (a.0, a.1, (a.0, a.2, refl));
    };
  }

-- ---- what they give

names-are : (lines : List Line) → decl_names (cubes_in lines) ≡ cube_names lines
names-are [] = refl
names-are (Skipped ∷ lines) = names-are lines
names-are (Cube name ∷ lines) = ap (λ (names : List (List ℕ)). name ∷ names) (names-are lines)
names-are (Dim d ∷ lines) = names-are lines
names-are (Metric name ∷ lines) = names-are lines

-- Cubes that a text declares are few and named apart.
declared-are-cubes : (text : List ℕ) (cubes : List Decl) → Declares text cubes → AreCubes cubes
declared-are-cubes text cubes h =
    let names : decl_names cubes ≡ cube_names h.lines = ap decl_names h.are ∙ names-are h.lines in
    record {
      few =
          let counted = sym (length-map cubes (λ d. d.name)) ∙ ap (λ (n : List (List ℕ)). length n) names in
          let few = h.few in
          omega (arith, counted, few);
      differ = ap first_repeated names ∙ h.names;
      storable = h.storable;
    }

few-scripts : (reading : RunFile → FileReading) (files : List RunFile) (scripts : List (Vec Said))
    → FilesGive reading files scripts → All (λ said. length said.items ≤ MOST_STATEMENTS) scripts
few-scripts reading [] [] give = All-nil (λ (said : Vec Said). length said.items ≤ MOST_STATEMENTS)
few-scripts reading [] (said ∷ scripts) give = absurd give
few-scripts reading (file ∷ files) [] give = absurd give
few-scripts reading (file ∷ files) (said ∷ scripts) give =
    All-cons (λ (one : Vec Said). length one.items ≤ MOST_STATEMENTS) said scripts
    (few-said (reading file) said.items give.0) (few-scripts reading files scripts give.1)

module _ (told : Option (List (List ℕ × List ℕ))) (calls new : Option (List ShelfCall)) (cubes_name : List ℕ)
    (names : List (List ℕ)) where
  abbrev HasEnded : Result RunInput (CallError BadFile) → Type 0
  HasEnded answer = ReadingEnds (GiveRunInput cubes_name names) told calls new (files_of_run cubes_name names) answer

  pub are-cubes : (answer : Result RunInput (CallError BadFile)) → HasEnded answer
      → IfOk answer (λ input. AreCubes input.cubes.items)
  are-cubes (Ok input) h =
      let cubes = h.given.cubes in declared-are-cubes cubes.text input.cubes.items cubes.declares
  are-cubes (Err error) h = tt

  pub as-many : (answer : Result RunInput (CallError BadFile)) → HasEnded answer
      → IfOk answer (λ input. length input.scripts.items ≡ length names)
  as-many (Ok input) h =
      AllZip-long (λ file said. GivesSentences (h.reading file) said.items) (script_files 1 names) input.scripts.items
      h.given.scripts ∙ as-many-files 1 names
  as-many (Err error) h = tt

  pub few-statements : (answer : Result RunInput (CallError BadFile)) → HasEnded answer
      → IfOk answer (λ input. All (λ said. length said.items ≤ MOST_STATEMENTS) input.scripts.items)
  few-statements (Ok input) h = few-scripts h.reading (script_files 1 names) input.scripts.items h.given.scripts
  few-statements (Err error) h = tt
