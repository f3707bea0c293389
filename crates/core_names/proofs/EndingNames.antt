-- The names of a cube that a session was told of, in each run that goes on from its own calls.
use Rattle.std.proofs.Common.{◌≡◌, ◌∙◌, ℕ, ◌<◌, ◌≤◌, Bool, true, cond, List, [], length, slice_get, unwrap_or, Option, Some, Contains, sym, ap, subst, arith}
use Rattle.std.proofs.lemmas.Option.{slice_get-get_or, slice_get_within}
use Rattle.cube_language.specs.declared.decl.Decl.{Decl}
use Rattle.cube_language.specs.declared.decl.DimDecl.{DimDecl}
use Rattle.condition_spans.specs.Codes.{lists_at, texts_at}
use Rattle.names_dict.specs.declared.code.Code.{Code}
use Rattle.core_program.specs.Knowing.{IsLaterRun}
use Rattle.core_events.specs.Cells.{desk_of, dictionary_of}
use Rattle.core_events.specs.Events.{Opening, CoreEvent}
use Rattle.core_events.specs.Jobs.{CoreJob, JobOutcome}
use Rattle.core_events.specs.ShardView.{ShardView}
use Rattle.core_program.specs.CoreFits.{CoreEntry}
use Rattle.core_records.specs.CoreRecords.{names_in, names_left}
use Rattle.core_records.specs.OpeningNames.{SuitsDimension}
use Rattle.core_records.proofs.NamesOnRecord.{cube-names, dim-names, suits-run}
use Rattle.cube_core.specs.declared.cell.CoreCell.{CoreCell}
use Rattle.cube_core.specs.declared.shard.ShardAnswer.{ShardAnswer}
use Rattle.cube_core.specs.declared.shard.ShardCall.{ShardCall}
use Rattle.known_cubes.specs.KnownCubes.{IsToldOfCube}
use Rattle.known_cubes.specs.KnownNames.{IsToldOfName}
use Rattle.known_cubes.proofs.ToldCubes.{desk-has}
use Rattle.known_cubes.proofs.ToldNames.{number-stands}
use Rattle.row_encoding.specs.FinalCodes.{IsFinalNumber, code_number, dim_at}
use Rattle.row_encoding.proofs.CubeSteps.{text_inside}
use Rattle.core_names.specs.NamesInTheEnd.{OpenWithNames}
use Rattle.core_names.proofs.CodedCalls.{TellsCode, coded-final, coded-in-run}

pub dim-there : (dims : List DimDecl) (dim : ℕ) → (dim_at dims dim).text ≡ true → slice_get dims dim ≡ Some (dim_at dims dim)
dim-there dims dim text = slice_get-get_or dims dim (dim_at [] 0) (text_inside dims dim text)

module _ {S : Type 0} (fits : Opening → ℕ → ShardCall → Type 0) (stands : Opening → ℕ → ℕ → S → ShardView → Type 0)
    (says : CoreJob → ShardAnswer → JobOutcome → Type 0) (cells : List (CoreCell S)) (caller : ℕ) (own : List CoreEntry)
    (name : List ℕ) (place : ℕ) (d : Decl) (told : IsToldOfCube own name place d) (dim : ℕ) (text : (dim_at d.dims dim).text ≡ true)
    (o : Opening) (log : List CoreEntry) (run : List CoreEvent) (later : IsLaterRun fits stands says cells o caller own log run) where
  cube-there : slice_get (desk_of o run).cubes place ≡ Some d
  cube-there = (desk-has fits stands says o cells caller own log run name place d later told).0

  names-there : texts_at (lists_at (names_left o run) place) dim ≡ (dictionary_of o place dim run).names
  names-there =
      ap (λ (l : Option (List (List (List ℕ)))). texts_at (unwrap_or l []) dim) (cube-names (names_in o run) (desk_of o run).cubes place d cube-there)
      ∙ ap (λ (l : Option (List (List ℕ))). unwrap_or l []) (dim-names (names_in o run place) d.dims dim (dim_at d.dims dim) (dim-there d.dims dim text))

  -- A text that was told a number has it.
  pub told-final : (t : List ℕ) (number : ℕ) → IsToldOfName own place dim t number
      → IsFinalNumber (dim_at d.dims dim) (texts_at (lists_at (names_left o run) place) dim) t (Some number)
  told-final t number is =
      ap (λ (ns : List (List ℕ)). slice_get ns number) names-there
      ∙ number-stands fits stands says o cells caller place dim t number own log run later is

  module _ (named : OpenWithNames fits stands says cells) where
    suits-opening : SuitsDimension (dim_at d.dims dim) (o.names place dim)
    suits-opening =
        (named o log run later.opens later.events later.is_run).suit place dim d (dim_at d.dims dim) cube-there (dim-there d.dims dim text)

    room-of : (es : List CoreEvent) → SuitsDimension (dim_at d.dims dim) (dictionary_of o place dim es)
        → (dim_at d.dims dim).cardinality ≡ (dictionary_of o place dim es).cardinality
    room-of es s = sym (s.room ∙ ap (λ (b : Bool). cond b (dim_at d.dims dim).cardinality 0) text)

    few : length (dictionary_of o place dim run).names ≤ (dim_at d.dims dim).cardinality
    few =
        let s = suits-run o run place dim (dim_at d.dims dim) later.is_run suits-opening in
        let f = s.fits in
        let r = room-of run s in
        omega (arith, f, r)

    -- Its number is a coordinate.
    pub told-below : (t : List ℕ) (number : ℕ) → IsToldOfName own place dim t number → number < (dim_at d.dims dim).cardinality
    told-below t number is =
        let within =
        slice_get_within (dictionary_of o place dim run).names number t (number-stands fits stands says o cells caller place dim t number own log run later is)
        in
        let f = few in
        omega (arith, within, f)

    -- What a code says of its text is so.
    pub code-final : (t : List ℕ) (code : Code) (e : CoreEntry) → Contains own e → TellsCode place dim t code e.call e.answer
        → IsFinalNumber (dim_at d.dims dim) (texts_at (lists_at (names_left o run) place) dim) t (code_number code)
    code-final t code e among tells =
        let h = coded-in-run fits stands says o place dim t code cells caller own log run e later among tells in
        let room = room-of h.earlier (suits-run o h.earlier place dim (dim_at d.dims dim) h.run suits-opening) in
        subst (λ (ns : List (List ℕ)). IsFinalNumber (dim_at d.dims dim) ns t (code_number code)) (sym names-there)
        (coded-final o place dim t code run h (dim_at d.dims dim) room few)
