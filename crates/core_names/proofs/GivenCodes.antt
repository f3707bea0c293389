-- The codes that a session's caller gives, known ones and those that it asks for.
use Rattle.std.proofs.Common.{◌≡◌, ◌⊎◌, ◌∙◌, ℕ, zero, suc, ◌<◌, true, List, [], ◌∷◌, ◌++◌, get_or, replicate, Option, Some, None, Contains, IfSome, Result, refl, sym, ap, subst, inl, inr}
use Rattle.std.proofs.lemmas.List.{length-set}
use Rattle.std.proofs.lemmas.List.Elements.{Contains-push, Contains-push_cases}
use Rattle.std.proofs.lemmas.Option.{none-some}
use Rattle.cube_language.specs.declared.decl.Decl.{Decl}
use Rattle.cube_language.specs.declared.decl.DimDecl.{DimDecl}
use Rattle.cube_values.specs.declared.shape.CubeShape.{CubeShape}
use Rattle.condition_spans.specs.Codes.{lists_at, texts_at}
use Rattle.names_dict.specs.declared.code.Code.{Code}
use Rattle.names_dict.specs.declared.code.Code.TheVariants.{Known, Added, Full}
use Rattle.known_names.specs.KnownTexts.{code_of_known, with_text}
use Rattle.core_program.specs.ClientCalls.{names_entry}
use Rattle.core_cells.specs.declared.names.NamesAnswer.TheVariants as told
use Rattle.core_cells.specs.declared.names.NamesCall.TheVariants as names
use Rattle.core_program.specs.Knowing.{IsLaterRun}
use Rattle.core_events.specs.Clients.{number_by_code}
use Rattle.core_events.specs.Events.{Opening, CoreEvent}
use Rattle.core_events.specs.Jobs.{CoreJob, JobOutcome}
use Rattle.core_events.specs.ShardView.{ShardView}
use Rattle.core_program.specs.CoreFits.{CoreEntry}
use Rattle.cube_core.specs.declared.cell.CoreCall.TheVariants as call
use Rattle.cube_core.specs.declared.cell.CoreCell.{CoreCell}
use Rattle.cube_core.specs.declared.shard.ShardAnswer.{ShardAnswer}
use Rattle.cube_core.specs.declared.shard.ShardCall.{ShardCall}
use Rattle.known_cubes.specs.KnownNames.{IsToldOfName, by_encoding}
use Rattle.known_cubes.proofs.ToldCubes.{told-later as cube-later}
use Rattle.known_cubes.proofs.ToldNames.{told-later, told-newest}
use Rattle.row_encoding.specs.FinalCodes.{IsDimText, IsFinalNumber, code_number, dim_at}
use Rattle.row_encoding.proofs.CubeSteps.{text_inside}
use Rattle.core_names.specs.AskedNames.{HasAskedFor, encode_entry}
use Rattle.core_names.specs.CoreEncoders.{IsCodeInTheEnd, MayAskForCodes}
use Rattle.core_names.specs.KnownNumbers.{AreNumbersTold, HasToldNumber, IsNumberTold, TextsByDim, number_known, with_number}
use Rattle.core_names.proofs.CodedCalls.{by_asking}
use Rattle.core_names.proofs.EndingNames.{code-final, told-below, told-final}
use Rattle.core_names.proofs.LearnedTexts.{learned-or-known}

number-same : (code : Code) → code_number code ≡ number_by_code code
number-same (Known n) = refl
number-same (Added n) = refl
number-same Full = refl

by-some : (o : Option ℕ) (P : ℕ → Type 0) → ((n : ℕ) → o ≡ Some n → P n) → IfSome o P
by-some (Some n) P h = h n refl
by-some None P h = tt

-- What holds of the same cells and caller.
pub moved : {X : Type 0} (P : X → ℕ → Type 0) (cells new : X) (caller number : ℕ) → new ≡ cells → number ≡ caller → P cells caller → P new number
moved P cells new caller number e f h = coe 1 0 (i. P (e i) (f i)) h

-- ---- numbers that were told

abbrev no-text : List (List ℕ × ℕ) → Type 0
no-text known = known ≡ []

nothing-known : (count dim : ℕ) → no-text (get_or (replicate count []) dim [])
nothing-known zero dim = refl
nothing-known (suc count) zero = refl
nothing-known (suc count) (suc dim) = nothing-known count dim

pub none-told : (own : List CoreEntry) (place count : ℕ) (dims : List DimDecl) → AreNumbersTold own place dims (replicate count [])
none-told own place count dims dim text number is =
    absurd (none-some number (ap (λ (known : List (List ℕ × ℕ)). code_of_known known text) (sym (nothing-known count dim)) ∙ is))

pub still-told : (own more : List CoreEntry) (place : ℕ) (dims : List DimDecl) (known : TextsByDim) → AreNumbersTold own place dims known
    → AreNumbersTold (own ++ more) place dims known
still-told own more place dims known right dim text number is =
    let r = right dim text number is in
    record { told = told-later own more place dim text number r.told; below = r.below }

-- A text of which one more call asks.
pub asked-one-more : (caller : ℕ) {E : Type 0} (own now : List CoreEntry) (place dim : ℕ) (shape : CubeShape) (text : List ℕ) (came : Result Code E)
    → now ≡ own ++ encode_entry caller place dim shape text came ∷ []
    → (p k : ℕ) (t : List ℕ) → HasAskedFor now p k t → HasAskedFor own p k t ⊎ ((p ≡ place) × IsDimText dim text k t)
asked-one-more caller own now place dim shape text came whole p k t has =
    let e = encode_entry caller place dim shape text came in
    elim (Contains-push_cases own e has.entry (subst (λ (l : List CoreEntry). Contains l has.entry) whole has.among)) [
      | inl old ↦ inl (record {
        entry = has.entry;
        among = old;
        shape = has.shape;
        code = has.code;
        asks = has.asks;
        told = has.told;
      })
      | inr new ↦
          let is : call.Names (names.Encode place dim shape text) ≡ call.Names (names.Encode p k has.shape t) = ap (λ (x : CoreEntry). x.call) new ∙ has.asks in
          let same_place : p ≡ place = cc in
          let same_dim : k ≡ dim = cc in
          let same_text : t ≡ text = cc in
          inr (same_place, (same_dim, same_text))
    ]

module _ {S : Type 0} (fits : Opening → ℕ → ShardCall → Type 0) (stands : Opening → ℕ → ℕ → S → ShardView → Type 0)
    (says : CoreJob → ShardAnswer → JobOutcome → Type 0) (cells : List (CoreCell S)) (caller session place : ℕ) (d : Decl) where
  pub may-later : (own more : List CoreEntry) (known : TextsByDim) → MayAskForCodes fits stands says cells caller own session known place d
      → MayAskForCodes fits stands says cells caller (own ++ more) session known place d
  may-later own more known m = record {
    client = m.client;
    is_session = m.is_session;
    storable = m.storable;
    named = m.named;
    name = m.name;
    cube = cube-later own more m.name place d m.cube;
    long = m.long;
    right = still-told own more place d.dims known m.right;
  }

  -- With one call more it may still ask.
  pub may-now : (own now : List CoreEntry) (e : CoreEntry) (known : TextsByDim) → now ≡ own ++ e ∷ []
      → MayAskForCodes fits stands says cells caller own session known place d → MayAskForCodes fits stands says cells caller now session known place d
  may-now own now e known whole m =
      subst (λ (l : List CoreEntry). MayAskForCodes fits stands says cells caller l session known place d) (sym whole) (may-later own (e ∷ []) known m)

  -- A code that is known.
  pub known-code : (own : List CoreEntry) (known : TextsByDim) → MayAskForCodes fits stands says cells caller own session known place d
      → (dim : ℕ) (text : List ℕ) (number : ℕ) → (dim_at d.dims dim).text ≡ true → number_known known dim text ≡ Some number
      → IsCodeInTheEnd fits stands says cells caller own place d dim text (Known number)
  known-code own known m dim text number kind is =
      let r = m.right dim text number is in
      record {
        final = λ ending may.
            subst (λ (ns : List (List (List (List ℕ)))). IsFinalNumber (dim_at d.dims dim) (texts_at (lists_at ns place) dim) text (Some number)) (sym may.are)
            (told-final fits stands says cells caller own m.name place d m.cube dim kind may.opening may.log may.run may.later text number r.told);
        inside = r.below;
        given = record { name = text; told = r.told };
      }

  -- A code that was asked for. A run goes on from the calls.
  module _ (own : List CoreEntry) (known : TextsByDim) (m : MayAskForCodes fits stands says cells caller own session known place d)
      (dim : ℕ) (kind : (dim_at d.dims dim).text ≡ true) (shape : CubeShape) (text : List ℕ) (code : Code) (now : List CoreEntry)
      (whole : now ≡ own ++ names_entry caller (names.Encode place dim shape text) (told.Coded code) ∷ [])
      (o : Opening) (log : List CoreEntry) (run : List CoreEvent) (later : IsLaterRun fits stands says cells o caller now log run) where
    abbrev entry : CoreEntry
    entry = names_entry caller (names.Encode place dim shape text) (told.Coded code)

    more : MayAskForCodes fits stands says cells caller now session known place d
    more = may-now own now entry known whole m

    among : Contains now entry
    among = subst (λ (l : List CoreEntry). Contains l entry) (sym whole) (Contains-push own entry)

    told-it : (n : ℕ) → code_number code ≡ Some n → IsToldOfName now place dim text n
    told-it n is =
        subst (λ (l : List CoreEntry). IsToldOfName l place dim text n) (sym whole)
        (told-newest own entry place dim text n (by_encoding shape code (sym (number-same code) ∙ is)))

    below : (n : ℕ) → code_number code ≡ Some n → n < (dim_at d.dims dim).cardinality
    below n is = told-below fits stands says cells caller now more.name place d more.cube dim kind o log run later more.named text n (told-it n is)

    pub asked-code : IsCodeInTheEnd fits stands says cells caller now place d dim text code
    asked-code = record {
      final = λ ending may.
          subst (λ (ns : List (List (List (List ℕ)))). IsFinalNumber (dim_at d.dims dim) (texts_at (lists_at ns place) dim) text (code_number code)) (sym may.are)
          (code-final fits stands says cells caller now more.name place d more.cube dim kind may.opening may.log may.run may.later more.named text code entry among
          (by_asking shape));
      inside = by-some (code_number code) (λ n. n < (dim_at d.dims dim).cardinality) below;
      given = by-some (code_number code) (HasToldNumber now place dim) (λ n is. record { name = text; told = told-it n is });
    }

    learned : (number : Option ℕ) → code_number code ≡ number → MayAskForCodes fits stands says cells caller now session (with_number known dim text number) place d
    learned None is = more
    learned (Some n) is = record {
      client = more.client;
      is_session = more.is_session;
      storable = more.storable;
      named = more.named;
      name = more.name;
      cube = more.cube;
      long = length-set known dim (with_text (get_or known dim []) text n) ∙ more.long;
      right = λ k t number found. elim (learned-or-known known dim text n k t number (subst (λ (l : ℕ). dim < l) (sym m.long) (text_inside d.dims dim kind)) found) [
        | inl old ↦ more.right k t number old
        | inr new ↦
            subst (λ (j : ℕ). IsNumberTold now place d.dims j t number) (sym new.0)
            (subst (λ (u : List ℕ). IsNumberTold now place d.dims dim u number) (sym new.1)
            (subst (λ (v : ℕ). IsNumberTold now place d.dims dim text v) new.2 (record { told = told-it n is; below = below n is })))
      ];
    }

    pub may-learned : MayAskForCodes fits stands says cells caller now session (with_number known dim text (code_number code)) place d
    may-learned = learned (code_number code) refl
