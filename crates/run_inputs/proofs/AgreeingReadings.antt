-- Readings that agree on files: what holds of these files by the one holds by the other.
use Rattle.std.proofs.Common.{◌≡◌, ◌≢◌, ◌∙◌, ℕ, ◌+◌, ◌≤◌, ◌==◌, suc, Bool, List, [], ◌∷◌, ◌++◌, length, refl, ap, arith, Option, eq-eqb, ne_eqb, if◌then◌else◌}
use Rattle.std.specs.Global.{Vec}
use Rattle.std.specs.List.{AllByRecursion, AllZip}
use Rattle.outside.specs.ShelfCalls.{ShelfCall}
use Rattle.run_files.specs.Readings.{IsToldAs, ReadInTurn, ReadsBy}
use Rattle.run_files.specs.RunFiles.{AreInOrder, CubesFile, FileReading, ReadsInOrder, RunFile, ScriptFile}
use Rattle.run_inputs.specs.ReadInputs.{GivesSentences, script_files}
use Rattle.script_sentences.specs.declared.said.Said.{Said}

-- ---- what is said of the files

abbrev pub AreToldAs : Option (List (List ℕ × List ℕ)) → (RunFile → FileReading) → List RunFile → Type 0
AreToldAs told reading files = AllByRecursion (λ file. IsToldAs told file (reading file)) files

abbrev pub FilesGive : (RunFile → FileReading) → List RunFile → List (Vec Said) → Type 0
FilesGive reading files scripts = AllZip (λ file said. GivesSentences (reading file) said.items) files scripts

abbrev pub Agree : (RunFile → FileReading) → (RunFile → FileReading) → List RunFile → Type 0
Agree old new files = AllByRecursion (λ file. new file ≡ old file) files

module _ (old new : RunFile → FileReading) where
  pub told-alike : (told : Option (List (List ℕ × List ℕ))) (files : List RunFile) → Agree old new files
      → AreToldAs told old files → AreToldAs told new files
  told-alike told [] agree are = tt
  told-alike told (file ∷ files) agree are =
      (coe 1 0 (i. IsToldAs told file (agree.0 i)) are.0, told-alike told files agree.1 are.1)

  pub turn-alike : (files : List RunFile) (past now : List ShelfCall) → Agree old new files
      → ReadInTurn old files past now → ReadInTurn new files past now
  turn-alike [] past now agree read = read
  turn-alike (file ∷ files) past now agree read =
      (read.0, coe 1 0 (i. ReadsBy file (agree.0 i) past read.0) read.1, turn-alike files read.0 now agree.1 read.2)

  pub order-alike : (files : List RunFile) → Agree old new files → AreInOrder old files → AreInOrder new files
  order-alike [] agree good = tt
  order-alike (file ∷ files) agree good =
      (coe 1 0 (i. ReadsInOrder file (agree.0 i)) good.0, order-alike files agree.1 good.1)

  pub given-alike : (files : List RunFile) (scripts : List (Vec Said)) → Agree old new files
      → FilesGive old files scripts → FilesGive new files scripts
  given-alike [] [] agree give = tt
  given-alike [] (said ∷ scripts) agree give = absurd give
  given-alike (file ∷ files) [] agree give = absurd give
  given-alike (file ∷ files) (said ∷ scripts) agree give =
      (coe 1 0 (i. GivesSentences (agree.0 i) said.items) give.0, given-alike files scripts agree.1 give.1)

-- ---- one file more

module _ {X : Type 0} (P : X → Type 0) where
  pub all-more : (xs : List X) (x : X) → AllByRecursion P xs → P x → AllByRecursion P (xs ++ x ∷ [])
  all-more [] x all one = (one, tt)
  all-more (y ∷ xs) x all one = (all.0, all-more xs x all.1 one)

  pub all-front : (front : List X) (x : X) (back : List X) → AllByRecursion P (front ++ x ∷ back)
      → AllByRecursion P (front ++ x ∷ [])
  all-front [] x back all = (all.0, tt)
  all-front (y ∷ front) x back all = (all.0, all-front front x back all.1)

  pub all-before : (front back : List X) → AllByRecursion P (front ++ back) → AllByRecursion P front
  all-before [] back all = tt
  all-before (y ∷ front) back all = (all.0, all-before front back all.1)

  pub all-here : (front : List X) (x : X) (back : List X) → AllByRecursion P (front ++ x ∷ back) → P x
  all-here [] x back all = all.0
  all-here (y ∷ front) x back all = all-here front x back all.1

pub zip-more : {X Y : Type 0} (R : X → Y → Type 0) (xs : List X) (ys : List Y) (x : X) (y : Y) → AllZip R xs ys → R x y
    → AllZip R (xs ++ x ∷ []) (ys ++ y ∷ [])
zip-more R [] [] x y all one = (one, tt)
zip-more R [] (b ∷ ys) x y all one = absurd all
zip-more R (a ∷ xs) [] x y all one = absurd all
zip-more R (a ∷ xs) (b ∷ ys) x y all one = (all.0, zip-more R xs ys x y all.1 one)

pub turn-more : (reading : RunFile → FileReading) (files : List RunFile) (file : RunFile)
    (past mid now : List ShelfCall)
    → ReadInTurn reading files past mid → ReadsBy file (reading file) mid now
    → ReadInTurn reading (files ++ file ∷ []) past now
turn-more reading [] file past mid now read one =
    (now, coe 0 1 (i. ReadsBy file (reading file) (read i) now) one, refl)
turn-more reading (first ∷ files) file past mid now read one =
    (read.0, read.1, turn-more reading files file read.0 mid now read.2 one)

-- ---- the readings of a run

-- With the reading of the cubes file.
abbrev pub with_cubes : FileReading → (RunFile → FileReading) → RunFile → FileReading
with_cubes cubes reading (CubesFile name) = cubes
with_cubes cubes reading (ScriptFile number name) = reading (ScriptFile number name)

pub scripts-agree : (cubes : FileReading) (reading : RunFile → FileReading) (number : ℕ) (names : List (List ℕ))
    → Agree reading (with_cubes cubes reading) (script_files number names)
scripts-agree cubes reading number [] = tt
scripts-agree cubes reading number (name ∷ names) = (refl, scripts-agree cubes reading (number + 1) names)

-- With the reading of the script of a number.
abbrev pub with_script : ℕ → FileReading → (RunFile → FileReading) → RunFile → FileReading
with_script last script reading (CubesFile name) = reading (CubesFile name)
with_script last script reading (ScriptFile number name) =
    if number == last then script else reading (ScriptFile number name)

pub this-agrees : (last : ℕ) (script : FileReading) (reading : RunFile → FileReading) (name : List ℕ)
    → with_script last script reading (ScriptFile last name) ≡ script
this-agrees last script reading name =
    ap (λ (same : Bool). if same then script else reading (ScriptFile last name)) (eq-eqb last last refl)

pub others-agree : (last : ℕ) (script : FileReading) (reading : RunFile → FileReading) (number : ℕ)
    (names : List (List ℕ)) → number + length names ≤ last
    → Agree reading (with_script last script reading) (script_files number names)
others-agree last script reading number [] low = tt
others-agree last script reading number (name ∷ names) low =
    let differ : number ≢ last = λ same. omega (arith, low, same) in (
      ap (λ (same : Bool). if same then script else reading (ScriptFile number name)) (ne_eqb number last differ),
      others-agree last script reading (number + 1) names (omega (arith, low)),
    )

-- ---- the scripts by their names

pub files-more : (number : ℕ) (names : List (List ℕ)) (name : List ℕ)
    → script_files number (names ++ name ∷ [])
    ≡ script_files number names ++ ScriptFile (number + length names) name ∷ []
files-more number [] name =
    let here : number ≡ number + 0 = omega arith in ap (λ (n : ℕ). ScriptFile n name ∷ []) here
files-more number (first ∷ names) name =
    let on : number + 1 + length names ≡ number + length (first ∷ names) = omega arith in
    ap (λ (files : List RunFile). ScriptFile number first ∷ files) (files-more (number + 1) names name
    ∙ ap (λ (n : ℕ). script_files (number + 1) names ++ ScriptFile n name ∷ []) on)

pub files-split : (number : ℕ) (front back : List (List ℕ))
    → script_files number (front ++ back) ≡ script_files number front ++ script_files (number + length front) back
files-split number [] back = let here : number ≡ number + 0 = omega arith in ap (λ (n : ℕ). script_files n back) here
files-split number (name ∷ front) back =
    let on : number + 1 + length front ≡ number + length (name ∷ front) = omega arith in
    ap (λ (files : List RunFile). ScriptFile number name ∷ files) (files-split (number + 1) front back
    ∙ ap (λ (n : ℕ). script_files (number + 1) front ++ script_files n back) on)

pub as-many-files : (number : ℕ) (names : List (List ℕ)) → length (script_files number names) ≡ length names
as-many-files number [] = refl
as-many-files number (name ∷ names) = ap (λ (n : ℕ). suc n) (as-many-files (number + 1) names)
