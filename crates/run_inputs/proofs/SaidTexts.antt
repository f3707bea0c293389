-- A script that was read, and what its texts say.
use Rattle.std.proofs.Common.{◌≡◌, ◌∙◌, ℕ, ◌+◌, ◌≤◌, ◌<◌, List, [], ◌∷◌, ◌++◌, length, take, get_or, refl, sym, ap, subst, map, Option, Some, None, Result, Ok, Err, IfOk}
use Rattle.std.proofs.lemmas.List.{take_more}
use Rattle.std.proofs.lemmas.Slice.Zip.{AllZip-long}
use Rattle.std.specs.Global.{Vec}
use Rattle.std.specs.List.{AllZip}
use Rattle.std.specs.declared.alloc.AllocError.{AllocError}
use Rattle.cube_language.specs.declared.piece.Piece.{Piece}
use Rattle.cube_language.specs.declared.piece.TheConstants.{MOST_STATEMENTS}
use Rattle.cube_run.specs.RunRecords.{IsSaidBy}
use Rattle.cube_values.specs.declared.call_error.CallError.{CallError}
use Rattle.cube_values.specs.declared.call_error.CallError.TheVariants.{Fault, NoMemory}
use Rattle.outside.specs.Given.{Given}
use Rattle.outside.specs.ShelfCalls.{ShelfCall}
use Rattle.run_files.specs.Readings.{AbsenceRises, FaultRises, IsRead, ShowsFile, bad_in}
use Rattle.run_files.specs.RunFiles.{Fails, FileReading, Gives, IsBad, RunFile, ScriptFile}
use Rattle.run_files.specs.Texts.{HoldsScript}
use Rattle.run_files.specs.declared.bad_file.BadFile.{BadFile}
use Rattle.run_files.specs.declared.script.Script.{Script}
use Rattle.run_inputs.specs.ReadInputs.{GivesSentences, SaysGiven, ShowsScriptSaid}
use Rattle.run_inputs.proofs.AgreeingReadings.{zip-more}
use Rattle.script_sentences.specs.Sentences.{SaysInPlace, SaysInTurn, sentence_of}
use Rattle.script_sentences.specs.declared.said.Said.{Said}
use Rattle.sql_words.specs.Texts.{AreTextsAt, piece_bytes}

-- The texts say what the answers give, which are all there.
pub says-by-answers : (script : List ℕ) (pieces : List Piece) (said : List Said)
    → AllZip (λ piece (answer : Result Said AllocError). IfOk answer (SaysInPlace script piece)) pieces (map Ok said)
    → SaysInTurn script pieces said
says-by-answers script [] [] h = h
says-by-answers script [] (one ∷ said) h = absurd h
says-by-answers script (piece ∷ pieces) [] h = absurd h
says-by-answers script (piece ∷ pieces) (one ∷ said) h = (h.0, says-by-answers script pieces said h.1)

-- As many as there are texts.
pub count-if-ok : {E : Type 0} (bytes : List ℕ) (items pieces : List Piece) (answer : Result (Vec Said) E)
    → items ≡ pieces → IfOk answer (λ said. SaysInTurn bytes items said.items)
    → IfOk answer (λ said. length said.items ≡ length pieces)
count-if-ok bytes items pieces (Ok said) same h =
    AllZip-long (SaysInPlace bytes) items said.items h ∙ ap (λ (ps : List Piece). length ps) same
count-if-ok bytes items pieces (Err error) same h = tt

module _ (told : Option (List (List ℕ × List ℕ))) (before now : Option (List ShelfCall)) (number : ℕ)
    (name : List ℕ) where
  abbrev file : RunFile
  file = ScriptFile number name

  said-given : (script : Script) (given : Given) (said : Vec Said) → HoldsScript script given
      → SaysInTurn script.bytes.items script.pieces said.items → SaysGiven said given
  said-given script given said holds h = record {
    text = holds.0;
    is = ap Gives holds.1;
    pieces = script.pieces;
    in_order = holds.2.statements;
    says = subst (λ (bytes : List ℕ). SaysInTurn bytes script.pieces said.items) holds.2.bytes_are h;
  }

  -- What was read of it is said by its texts.
  pub one-said : (script : Script) (answer : Result (Vec Said) (CallError BadFile))
      → IsRead HoldsScript told before now file (Ok script)
      → ShowsScriptSaid script.bytes.items script.pieces answer → IsRead SaysGiven told before now file answer
  one-said script (Err NoMemory) r h = record {
    reading = r.reading;
    as_told = r.as_told;
    calls = λ past known. let c = r.calls past known in (c.0, c.1, tt);
    shown = tt;
  }
  one-said script (Err (Fault bad)) r h = absurd h
  one-said script (Ok said) r h = at r.reading refl
    where
      at : (reading : FileReading) → r.reading ≡ reading → IsRead SaysGiven told before now file (Ok said)
      at Fails is = absurd (coe 0 1 (i. ShowsFile HoldsScript file (is i) (Ok script)) r.shown)
      at (Gives given) is = record {
        reading = r.reading;
        as_told = r.as_told;
        calls = r.calls;
        shown =
            coe 1 0 (i. ShowsFile SaysGiven file (is i) (Ok said))
            (said-given script given said (coe 0 1 (i. ShowsFile HoldsScript file (is i) (Ok script)) r.shown) h);
      }

  bad-shown : (bad : BadFile) (reading : FileReading) → ShowsFile HoldsScript file reading (Err (Fault bad))
      → ShowsFile SaysGiven file reading (Err (Fault bad))
  bad-shown bad (Gives given) s = s
  bad-shown bad Fails s = s

  pub one-unread : (error : CallError BadFile) → IsRead HoldsScript told before now file (Err error)
      → IsRead SaysGiven told before now file (Err error)
  one-unread (Fault bad) r =
      record { reading = r.reading; as_told = r.as_told; calls = r.calls; shown = bad-shown bad r.reading r.shown }
  one-unread NoMemory r = record { reading = r.reading; as_told = r.as_told; calls = r.calls; shown = tt }

  -- The texts of a script that was read stand in it.
  pub texts-stand : (script : Script) → IsRead HoldsScript told before now file (Ok script)
      → AreTextsAt script.bytes.items script.pieces
  texts-stand script r = at r.reading refl
    where
      at : (reading : FileReading) → r.reading ≡ reading → AreTextsAt script.bytes.items script.pieces
      at Fails is = absurd (coe 0 1 (i. ShowsFile HoldsScript file (is i) (Ok script)) r.shown)
      at (Gives given) is =
          let holds = coe 0 1 (i. ShowsFile HoldsScript file (is i) (Ok script)) r.shown in
          subst (λ (bytes : List ℕ). AreTextsAt bytes script.pieces) (sym holds.2.bytes_are) holds.2.texts

-- Want of memory alone can come of the texts.
pub no-bad-said : (text : List ℕ) (pieces : List Piece) (answer : Result (Vec Said) (CallError BadFile))
    → ShowsScriptSaid text pieces answer → bad_in answer ≡ None
no-bad-said text pieces (Ok said) h = refl
no-bad-said text pieces (Err (Fault bad)) h = absurd h
no-bad-said text pieces (Err NoMemory) h = refl

-- A fault is handed on, and the counts were the same before it.
pub fault-handed : (T U : Type 0) (error : CallError BadFile) (before mid now : ℕ) → mid ≡ before
    → FaultRises (bad_in {T = T} (Err error)) mid now → FaultRises (bad_in {T = U} (Err error)) before now
fault-handed T U (Fault bad) before mid now same h = subst (λ (n : ℕ). FaultRises (Some bad) n now) same h
fault-handed T U NoMemory before mid now same h = subst (λ (n : ℕ). FaultRises None n now) same h

pub absence-handed : (T U : Type 0) (error : CallError BadFile) (before mid now : ℕ) → mid ≡ before
    → AbsenceRises (bad_in {T = T} (Err error)) mid now → AbsenceRises (bad_in {T = U} (Err error)) before now
absence-handed T U (Fault bad) before mid now same h = subst (λ (n : ℕ). AbsenceRises (Some bad) n now) same h
absence-handed T U NoMemory before mid now same h = subst (λ (n : ℕ). AbsenceRises None n now) same h

-- What a file shows by its reading.
pub gives-said : (number : ℕ) (name : List ℕ) (reading : FileReading) (said : Vec Said)
    → ShowsFile SaysGiven (ScriptFile number name) reading (Ok said) → GivesSentences reading said.items
gives-said number name Fails said s = absurd s
gives-said number name (Gives given) said s = s

pub is-bad : {T : Type 0} (holds : T → Given → Type 0) (which : RunFile) (reading : FileReading) (bad : BadFile)
    → ShowsFile holds which reading (Err (Fault bad)) → IsBad which reading bad
is-bad holds which (Gives given) bad s = s
is-bad holds which Fails bad s = s

-- The statements are few.
pub few-said : (reading : FileReading) (said : List Said) → GivesSentences reading said → length said ≤ MOST_STATEMENTS
few-said reading said g =
    subst (λ (n : ℕ). n ≤ MOST_STATEMENTS) (sym (AllZip-long (SaysInPlace g.text) g.pieces said g.says)) g.in_order.few
