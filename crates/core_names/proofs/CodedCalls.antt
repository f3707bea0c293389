-- Where in a run a text got its code.
use Rattle.std.proofs.Common.{◌≡◌, ◌∙◌, ℕ, ◌≤◌, ◌==◌, ◌&&◌, Bool, true, List, [], ◌∷◌, ◌++◌, length, take, Contains, refl, sym, ap, arith, append_assoc, eq-eqb, if◌then◌else◌}
use Rattle.std.specs.List.{AllByRecursion}
use Rattle.std.proofs.lemmas.List.{take-append-le, take_all}
use Rattle.std.proofs.lemmas.List.Elements.{All-contains, All-from_recursion}
use Rattle.cube_language.specs.declared.decl.DimDecl.{DimDecl}
use Rattle.cube_values.specs.declared.shape.CubeShape.{CubeShape}
use Rattle.names_dict.specs.declared.code.Code.{Code}
use Rattle.names_dict.specs.declared.code.Code.TheVariants.{Known, Added, Full}
use Rattle.names_dict.specs.Dictionaries.{Dictionary, code_of, with_code}
use Rattle.cube_core.specs.Links.{AreEventsAfter}
use Rattle.cube_core.specs.BoardCells.{IsEntryEvent, IsEventOf, client_of}
use Rattle.core_cells.specs.declared.names.NamesAnswer.TheVariants as told
use Rattle.core_cells.specs.declared.names.NamesCall.TheVariants as names
use Rattle.core_program.specs.Knowing.{IsLaterRun}
use Rattle.core_events.proofs.Names.{names-grow}
use Rattle.core_events.specs.Cells.{dictionary_of}
use Rattle.core_events.specs.Events.{Opening, Encode, OnNames, CoreEvent, By}
use Rattle.core_events.specs.Jobs.{CoreJob, JobOutcome}
use Rattle.core_events.specs.Runs.{IsCoreRun}
use Rattle.core_events.specs.ShardView.{ShardView}
use Rattle.core_program.specs.CoreFits.{CoreEntry}
use Rattle.cube_core.specs.declared.cell.CoreAnswer.{CoreAnswer}
use Rattle.cube_core.specs.declared.cell.CoreAnswer.TheVariants as answer
use Rattle.cube_core.specs.declared.cell.CoreCall.{CoreCall}
use Rattle.cube_core.specs.declared.cell.CoreCall.TheVariants as call
use Rattle.cube_core.specs.declared.cell.CoreCell.{CoreCell}
use Rattle.cube_core.specs.declared.shard.ShardAnswer.{ShardAnswer}
use Rattle.cube_core.specs.declared.shard.ShardCall.{ShardCall}
use Rattle.known_cubes.proofs.DeskCubes.{earlier-run}
use Rattle.known_cubes.proofs.OwnCalls.{all-own}
use Rattle.row_encoding.specs.FinalCodes.{IsFinalNumber, code_number}
use Rattle.row_encoding.proofs.DictSteps.{final_number, outcome}

-- The answer to a call gives the code of a text.
pub data TellsCode (place dim : ℕ) (text : List ℕ) (code : Code) : CoreCall → CoreAnswer → Type 0 where
  by_asking : (shape : CubeShape) → TellsCode place dim text code (call.Names (names.Encode place dim shape text))
      (answer.Names (told.Coded code))

-- At one moment of a run the dictionary gave the text this code.
pub record HasCoded (o : Opening) (place dim : ℕ) (text : List ℕ) (code : Code) (es : List CoreEvent) : Type 0 where
  pub client : ℕ
  pub earlier : List CoreEvent
  pub newer : List CoreEvent
  pub whole : es ≡ newer ++ By client (OnNames (Encode place dim text code)) ∷ earlier
  pub run : IsCoreRun o earlier
  pub is : code ≡ code_of (dictionary_of o place dim earlier) text

module _ {S : Type 0} (fits : Opening → ℕ → ShardCall → Type 0) (stands : Opening → ℕ → ℕ → S → ShardView → Type 0)
    (says : CoreJob → ShardAnswer → JobOutcome → Type 0) (o : Opening) (place dim : ℕ) (text : List ℕ) (code : Code) where
  abbrev event : List CoreEvent → CoreEntry → CoreEvent → Type 0
  event es e x = IsEntryEvent fits stands says o es e x

  coded-now : (newer earlier es : List CoreEvent) (b k : ℕ) {c : CoreCall} {a : CoreAnswer} (x : CoreEvent)
      → TellsCode place dim text code c a → IsEventOf fits stands says o earlier b k c a x → IsCoreRun o (x ∷ earlier)
      → es ≡ newer ++ x ∷ earlier → HasCoded o place dim text code es
  coded-now newer earlier es b k x (by_asking shape) is run whole =
      let client = client_of o b in
      let next : IsCoreRun o (By client (OnNames (Encode place dim text code)) ∷ earlier) = coe 0 1 (i. IsCoreRun o (is.1 i ∷ earlier)) run in
      record {
        client = client;
        earlier = earlier;
        newer = newer;
        whole = whole ∙ ap (λ (y : CoreEvent). newer ++ y ∷ earlier) is.1;
        run = next.0;
        is = next.1.says;
      }

  behind : (log : List CoreEntry) (earlier es : List CoreEvent) → AreEventsAfter event earlier log es
      → (newer : List CoreEvent) × (es ≡ newer ++ earlier)
  behind [] earlier es are = ([], sym are)
  behind (e ∷ log) earlier es are =
      let rest = behind log (are.0 ∷ earlier) es are.2 in
      (rest.0 ++ are.0 ∷ [], rest.1 ∙ sym (append_assoc rest.0 (are.0 ∷ []) earlier))

  all-coded : (log : List CoreEntry) (earlier es : List CoreEvent) → AreEventsAfter event earlier log es → IsCoreRun o es
      → AllByRecursion (λ (e : CoreEntry). TellsCode place dim text code e.call e.answer → HasCoded o place dim text code es) log
  all-coded [] earlier es are run = tt
  all-coded (e ∷ log) earlier es are run =
      let rest = behind log (are.0 ∷ earlier) es are.2 in (
        λ tells. coded-now rest.0 earlier es e.caller e.cell are.0 tells are.1 (earlier-run fits stands says o log (are.0 ∷ earlier) es are.2 run) rest.1,
        all-coded log (are.0 ∷ earlier) es are.2 run,
      )

  -- So it was at a moment of each later run.
  pub coded-in-run : (cells : List (CoreCell S)) (caller : ℕ) (own log : List CoreEntry) (run : List CoreEvent) (e : CoreEntry)
      → IsLaterRun fits stands says cells o caller own log run → Contains own e → TellsCode place dim text code e.call e.answer
      → HasCoded o place dim text code run
  coded-in-run cells caller own log run e later among tells =
      let P : CoreEntry → Type 0 = λ e. TellsCode place dim text code e.call e.answer → HasCoded o place dim text code run in
      let all = all-coded log [] run later.events later.is_run in
      All-contains P own e (All-from_recursion P own (all-own P caller own log later.begins all)) among tells

-- ---- what it says of the names in the end

same-room : (d : Dictionary) (text : List ℕ) (code : Code) → (with_code d text code).cardinality ≡ d.cardinality
same-room d text (Known n) = refl
same-room d text (Added n) = refl
same-room d text Full = refl

take-front : {X : Type 0} (xs ys : List X) → take (length xs) (xs ++ ys) ≡ xs
take-front xs ys = take-append-le (length xs) xs ys (omega arith) ∙ take_all (length xs) xs (omega arith)

module _ (o : Opening) (place dim : ℕ) (text : List ℕ) (code : Code) (es : List CoreEvent) (h : HasCoded o place dim text code es) where
  abbrev pub before : Dictionary
  before = dictionary_of o place dim h.earlier

  abbrev pub coded : List CoreEvent
  coded = By h.client (OnNames (Encode place dim text code)) ∷ h.earlier

  after-is : dictionary_of o place dim coded ≡ with_code before text code
  after-is =
      let here : (place == place && dim == dim) ≡ true = λ i. eq-eqb place place refl i && eq-eqb dim dim refl i in
      ap (λ (b : Bool). if b then with_code before text code else before) here

  first : take (length (with_code before text code).names) (dictionary_of o place dim es).names ≡ (with_code before text code).names
  first =
      let more = names-grow o place dim h.newer coded in
      ap (λ (l : List CoreEvent). take (length (with_code before text code).names) (dictionary_of o place dim l).names) h.whole
      ∙ ap (take (length (with_code before text code).names)) (more.1 ∙ ap (λ (d : Dictionary). d.names ++ more.0) after-is)
      ∙ take-front (with_code before text code).names more.0

  pub coded-final : (dimension : DimDecl) → dimension.cardinality ≡ before.cardinality → length (dictionary_of o place dim es).names ≤ dimension.cardinality
      → IsFinalNumber dimension (dictionary_of o place dim es).names text (code_number code)
  coded-final dimension room few =
      final_number dimension before text (dictionary_of o place dim es).names code room (outcome before text code h.is)
      (record { first = first; few = let same = same-room before text code in omega (arith, few, room, same) })
