-- Scripts that are read one after the other.
use Rattle.std.proofs.Common.{◌≡◌, ◌∙◌, ℕ, ◌+◌, ◌≤◌, ◌<◌, List, [], ◌∷◌, ◌++◌, length, take, drop, get_or, refl, sym, ap, append_assoc, arith, length-take-le, take-append-drop, take_all, Option, Result, Ok, Err}
use Rattle.std.proofs.lemmas.List.{take_more}
use Rattle.std.specs.Global.{Vec}
use Rattle.cube_values.specs.declared.call_error.CallError.{CallError}
use Rattle.cube_values.specs.declared.call_error.CallError.TheVariants.{Fault, NoMemory}
use Rattle.outside.specs.ShelfCalls.{ShelfCall, WhereKnown}
use Rattle.run_files.specs.Readings.{IsRead, IsToldAs, ReadsBy}
use Rattle.run_files.specs.RunFiles.{AreInOrder, Fails, FileReading, IsBad, ReadsInOrder, RunFile, ScriptFile}
use Rattle.run_files.specs.declared.bad_file.BadFile.{BadFile}
use Rattle.run_inputs.specs.ReadInputs.{AreReadInTurn, GiveScripts, GivesSentences, ReadingEnds, SaysGiven, StopsAtBad, script_files}
use Rattle.run_inputs.proofs.AgreeingReadings.{Agree, FilesGive, all-more, files-more, files-split, given-alike, others-agree, this-agrees, told-alike, turn-alike, turn-more, with_script, zip-more}
use Rattle.run_inputs.proofs.SaidTexts.{gives-said, is-bad}
use Rattle.script_sentences.specs.declared.said.Said.{Said}

-- The scripts of these names were read, and say this.
pub record AreRead (told : Option (List (List ℕ × List ℕ))) (calls mid : Option (List ShelfCall))
    (names : List (List ℕ)) (scripts : List (Vec Said)) : Type 0 where
  pub reading : RunFile → FileReading
  pub read : AreReadInTurn told calls mid reading (script_files 1 names)
  pub give : FilesGive reading (script_files 1 names) scripts

pub none-read : (told : Option (List (List ℕ × List ℕ))) (calls : Option (List ShelfCall)) (scripts : List (Vec Said))
    → scripts ≡ [] → AreRead told calls calls [] scripts
none-read told calls scripts none = record {
  reading = λ file. Fails;
  read = record { as_told = tt; by = λ past known. (past, known, refl) };
  give = coe 1 0 (i. FilesGive (λ file. Fails) [] (none i)) tt;
}

-- A script that is in order by what was read of it.
order-given : (number : ℕ) (name : List ℕ) (reading : FileReading) (said : List Said) → GivesSentences reading said
    → ReadsInOrder (ScriptFile number name) reading
order-given number name reading said g =
    coe 1 0 (i. ReadsInOrder (ScriptFile number name) (g.is i)) (g.pieces, g.in_order)

orders-given : (reading : RunFile → FileReading) (number : ℕ) (names : List (List ℕ)) (scripts : List (Vec Said))
    → FilesGive reading (script_files number names) scripts → AreInOrder reading (script_files number names)
orders-given reading number [] scripts give = tt
orders-given reading number (name ∷ names) [] give = absurd give
orders-given reading number (name ∷ names) (said ∷ scripts) give = (
  order-given number name (reading (ScriptFile number name)) said.items give.0,
  orders-given reading (number + 1) names scripts give.1,
)

-- One script more: the readings are those before, and its own.
module _ (told : Option (List (List ℕ × List ℕ))) (calls mid new : Option (List ShelfCall)) (names : List (List ℕ))
    (scripts : List (Vec Said)) (h : AreRead told calls mid names scripts) (name : List ℕ) (script : FileReading) where
  abbrev last : ℕ
  last = 1 + length names

  abbrev next : RunFile
  next = ScriptFile last name

  abbrev files : List RunFile
  files = script_files 1 names

  abbrev reading : RunFile → FileReading
  reading = with_script last script h.reading

  agree : Agree h.reading reading files
  agree = let all : 1 + length names ≤ 1 + length names = omega arith in others-agree last script h.reading 1 names all

  this : reading next ≡ script
  this = this-agrees last script h.reading name

  -- It was read behind them.
  pub read-behind : IsToldAs told next script → WhereKnown (ReadsBy next script) mid new
      → AreReadInTurn told calls new reading (files ++ next ∷ [])
  read-behind as_told by = record {
    as_told =
        all-more (λ file. IsToldAs told file (reading file)) files next
        (told-alike h.reading reading told files agree h.read.as_told)
        (coe 1 0 (i. IsToldAs told next (this i)) as_told);
    by = λ past known.
        let a = h.read.by past known in
        let b = by a.0 a.1 in (
          b.0,
          b.1,
          turn-more reading files next past a.0 b.0 (turn-alike h.reading reading files past a.0 agree a.2)
              (coe 1 0 (i. ReadsBy next (this i) a.0 b.0) b.2),
        );
  }

  pub read-more : (said : Vec Said) → IsToldAs told next script → WhereKnown (ReadsBy next script) mid new
      → GivesSentences script said.items → AreRead told calls new (names ++ name ∷ []) (scripts ++ said ∷ [])
  read-more said as_told by gives =
      let more = files-more 1 names name in
      record {
        reading = reading;
        read = coe 1 0 (i. AreReadInTurn told calls new reading (more i)) (read-behind as_told by);
        give =
            coe 1 0 (i. FilesGive reading (more i) (scripts ++ said ∷ []))
            (zip-more (λ file one. GivesSentences (reading file) one.items) files scripts next said
            (given-alike h.reading reading files scripts agree h.give)
            (coe 1 0 (i. GivesSentences (this i) said.items) gives));
      }

  pub stops : (later : List (List ℕ)) (bad : BadFile) → IsToldAs told next script
      → WhereKnown (ReadsBy next script) mid new → IsBad next script bad
      → StopsAtBad told calls new (script_files 1 (names ++ name ∷ later)) bad
  stops later bad as_told by is_bad = record {
    reading = reading;
    first = record {
      before = files;
      file = next;
      after = script_files (last + 1) later;
      are = files-split 1 names (name ∷ later);
      good = orders-given reading 1 names scripts (given-alike h.reading reading files scripts agree h.give);
      is = coe 1 0 (i. IsBad next (this i) bad) is_bad;
    };
    read = read-behind as_told by;
  }

module _ (told : Option (List (List ℕ × List ℕ))) (calls mid new : Option (List ShelfCall)) (names : List (List ℕ))
    (scripts : List (Vec Said)) (h : AreRead told calls mid names scripts) (name : List ℕ) where
  abbrev following : RunFile
  following = ScriptFile (1 + length names) name

  pub one-more-read : (said : Vec Said) → IsRead SaysGiven told mid new following (Ok said)
      → AreRead told calls new (names ++ name ∷ []) (scripts ++ said ∷ [])
  one-more-read said r =
      read-more told calls mid new names scripts h name r.reading said r.as_told r.calls
      (gives-said (1 + length names) name r.reading said r.shown)

  pub one-bad : (later : List (List ℕ)) (error : CallError BadFile)
      → IsRead SaysGiven told mid new following (Err error)
      → ReadingEnds (GiveScripts (names ++ name ∷ later)) told calls new (script_files 1 (names ++ name ∷ later))
      (Err error)
  one-bad later (Fault bad) r =
      stops told calls mid new names scripts h name r.reading later bad r.as_told r.calls
      (is-bad SaysGiven following r.reading bad r.shown)
  one-bad later NoMemory r = λ past known.
      let a = h.read.by past known in
      let b = r.calls a.0 a.1 in (b.0, b.1, tt)

-- ---- in the loop over the names

-- The name of a script stands between those that were read and those that are left.
name-between : (names : List (List ℕ)) (i : ℕ) (d name : List ℕ) → i < length names → name ≡ get_or names i d
    → names ≡ take i names ++ name ∷ drop (i + 1) names
name-between names i d name lt is =
    sym (take-append-drop (i + 1) names)
    ∙ ap (λ (front : List (List ℕ)). front ++ drop (i + 1) names)
    (take_more names i d lt ∙ ap (λ (one : List ℕ). take i names ++ one ∷ []) (sym is))
    ∙ append_assoc (take i names) (name ∷ []) (drop (i + 1) names)

module _ (told now_told : Option (List (List ℕ × List ℕ))) (calls mid new : Option (List ShelfCall))
    (names : List (List ℕ)) (scripts : List (Vec Said)) (i : ℕ) (d name : List ℕ) (lt : i < length names)
    (is : name ≡ get_or names i d) (same : now_told ≡ told) (h : AreRead told calls mid (take i names) scripts) where
  number : i + 1 ≡ 1 + length (take i names)
  number =
      let low : i ≤ length names = omega (arith, lt) in
      let long : length (take i names) ≡ i = length-take-le i names low in omega (arith, long)

  own-read : (answer : Result (Vec Said) (CallError BadFile))
      → IsRead SaysGiven now_told mid new (ScriptFile (i + 1) name) answer
      → IsRead SaysGiven told mid new (ScriptFile (1 + length (take i names)) name) answer
  own-read answer r = coe 0 1 (k. IsRead SaysGiven (same k) mid new (ScriptFile (number k) name) answer) r

  pub turn-read : (said : Vec Said) (more : List (Vec Said)) → more ≡ scripts ++ said ∷ []
      → IsRead SaysGiven now_told mid new (ScriptFile (i + 1) name) (Ok said)
      → AreRead told calls new (take (i + 1) names) more
  turn-read said more e r =
      let front : take i names ++ name ∷ [] ≡ take (i + 1) names =
      ap (λ (one : List ℕ). take i names ++ one ∷ []) is ∙ sym (take_more names i d lt)
      in
      coe 0 1 (k. AreRead told calls new (front k) (sym e k))
      (one-more-read told calls mid new (take i names) scripts h name said (own-read (Ok said) r))

  -- Memory ran out behind it.
  pub turn-unkept : (answer : Result (Vec (Vec Said)) (CallError BadFile)) (error : CallError BadFile) (said : Vec Said)
      → answer ≡ Err error → error ≡ NoMemory → IsRead SaysGiven now_told mid new (ScriptFile (i + 1) name) (Ok said)
      → ReadingEnds (GiveScripts names) told calls new (script_files 1 names) answer
  turn-unkept answer error said is_error no_memory r =
      let path = is_error ∙ ap (λ (e : CallError BadFile). Err e) no_memory in
      coe 1 0 (k. ReadingEnds (GiveScripts names) told calls new (script_files 1 names) (path k)) (λ past known.
      let a = h.read.by past known in
      let b = r.calls a.0 a.1 in (b.0, b.1, tt))

  pub turn-bad : (error : CallError BadFile)
      → IsRead SaysGiven now_told mid new (ScriptFile (i + 1) name) (Err error)
      → ReadingEnds (GiveScripts names) told calls new (script_files 1 names) (Err error)
  turn-bad error r =
      let all = name-between names i d name lt is in
      coe 1 0 (k. ReadingEnds (GiveScripts (all k)) told calls new (script_files 1 (all k)) (Err error))
      (one-bad told calls mid new (take i names) scripts h name (drop (i + 1) names) error (own-read (Err error) r))

pub all-names-read : (told : Option (List (List ℕ × List ℕ))) (calls mid : Option (List ShelfCall))
    (names : List (List ℕ)) (i : ℕ) (scripts : Vec (Vec Said)) → length names ≤ i
    → AreRead told calls mid (take i names) scripts.items
    → ReadingEnds (GiveScripts names) told calls mid (script_files 1 names) (Ok scripts)
all-names-read told calls mid names i scripts done h =
    let all : take i names ≡ names = take_all i names done in
    let read = coe 0 1 (k. AreRead told calls mid (all k) scripts.items) h in
    record { reading = read.reading; read = read.read; given = read.give }
