-- Which steps are named by the dictionaries in the end, by what they have done to rows.
use Rattle.std.proofs.Common.{◌≡◌, ◌∙◌, ℕ, ◌≤◌, Bool, true, false, Contains, List, [], length, Option, Some, None, slice_get, sym, ap, subst}
use Rattle.std.proofs.lemmas.Bool.{false≢true}
use Rattle.std.proofs.lemmas.List.Elements.{All-nil}
use Rattle.std.proofs.lemmas.Option.{get_or_from_slice_get, none-some, same_Some}
use Rattle.condition_spans.specs.Codes.{lists_at}
use Rattle.cube_language.specs.Cubes.{IsStorable}
use Rattle.cube_language.specs.ResolvedNames.{resolved_region}
use Rattle.cube_language.specs.declared.bad_row.TheConstants.{TEXT_BYTES}
use Rattle.cube_language.specs.declared.decl.Decl.{Decl}
use Rattle.cube_language.specs.declared.decl.DimDecl.{DimDecl}
use Rattle.cube_language.specs.declared.statement.Cond.{Cond}
use Rattle.cube_language.specs.declared.statement.Statement.TheVariants.{Delete}
use Rattle.cube_run.specs.FinalNames.{Compares, HasItsName, PutsNamed, names_at}
use Rattle.cube_run.specs.RunRecords.{RunRecord, Says, catalog_of, declaration_of}
use Rattle.cube_run.specs.RunTransactions.{DoneOperation, epoch_done, operation_asked, operation_at, operation_done, rows_of_cube}
use Rattle.cube_run.specs.SessionSteps.{SessionStep}
use Rattle.cube_values.specs.declared.operation.Operation.{Operation}
use Rattle.cube_values.specs.declared.operation.Operation.TheVariants.{Put, Drop}
use Rattle.cube_values.specs.declared.operation.Region.{Region}
use Rattle.cube_values.specs.declared.row.CodedRow.{CodedRow}
use Rattle.scripted_pasts.specs.NamesStand.{IsNamedStep}
use Rattle.one_session.specs.Changes.{AreNamedApart, Come}
use Rattle.posted_pasts.specs.DoneChanges.{HasNoOperation, HasPutRows}
use Rattle.row_encoding.specs.CodedTexts.{HasPlace, HavePlaces}
use Rattle.row_encoding.specs.FinalCodes.{dim_at}
use Rattle.session_replies.specs.RowSteps.{IsOnCube}
use Rattle.scripted_pasts.proofs.FittingNames.{at_place, compares_with, put_named}

-- What a DELETE that was done has done.
deleted : (run : RunRecord) (step : SessionStep) (cube : List ℕ) (conds : List Cond) (epoch : ℕ)
    → step.sentence ≡ Says (Delete cube conds) → epoch_done step.state.mode step.entries ≡ Some epoch
    → operation_done (catalog_of run) step
    ≡ Some (record {
      number = step.number;
      epoch = epoch;
      operation = Drop (resolved_region (declaration_of (catalog_of run) cube) conds);
    })
deleted run step cube conds epoch says done =
    λ i. operation_at step.number (done i) (operation_asked (catalog_of run) step.file (says i))

pub nothing-named : (run : RunRecord) (step : SessionStep) → HasNoOperation run step → IsNamedStep run step
nothing-named run step none = record {
  puts = λ cube place d dim has.
      subst (PutsNamed d.name place (names_at run.names cube place)) (sym none) tt;
  drops = λ cube place d dim has. record {
    each = λ conds cond text epoch says done one compares short.
        absurd (none-some _ (sym none ∙ deleted run step d.name conds epoch says done));
  };
}

abbrev is_put : Operation → Bool
is_put (Put rows) = true
is_put (Drop region) = false

done-as : (o p : DoneOperation) → Some o ≡ Some p → o.operation ≡ p.operation
done-as o p same = ap (λ (x : DoneOperation). x.operation) (same_Some o p same)

pub put-named : (run : RunRecord) (step : SessionStep) (cube epoch : ℕ) (batches : List (List CodedRow))
    → AreNamedApart (catalog_of run).cubes → HasPutRows run step cube epoch batches → IsNamedStep run step
put-named run step cube epoch batches apart h = record {
  puts = λ k place d dim has.
      subst (PutsNamed d.name place (names_at run.names k place)) (sym h.done)
      (put_named h.decl d.name cube k place run.names (Come h.stand.ordered) (Put (rows_of_cube h.decl.name h.rows))
      (λ same. apart cube k h.decl d h.cube_is has.cube_is same) h.stand.come);
  drops = λ k place d dim has. record {
    each = λ conds cond text epoch says done one compares short.
        absurd (false≢true
        (ap is_put (done-as _ _ (sym (deleted run step d.name conds epoch says done) ∙ h.done))));
  };
}

-- ---- a DELETE

no-puts : (name : List ℕ) (place number : ℕ) (names : List (List ℕ)) (epoch : Option ℕ) (region : Region)
    → PutsNamed name place names (operation_at number epoch (Some (Drop region)))
no-puts name place number names None region = tt
no-puts name place number names (Some epoch) region = All-nil (HasItsName name place names)

module _ (run : RunRecord) (step : SessionStep) (cube : List ℕ) (conds : List Cond) (at : ℕ) (d : Decl)
    (apart : AreNamedApart (catalog_of run).cubes) (says : step.sentence ≡ Says (Delete cube conds))
    (on : IsOnCube run step (Delete cube conds) d) (is : slice_get (catalog_of run).cubes at ≡ Some d)
    (storable : IsStorable d)
    (places : HavePlaces d.dims (lists_at run.names at) (resolved_region d conds).conditions) where
  named-so : cube ≡ d.name
  named-so = same_Some cube d.name on.needed

  -- A text with which it compares a dimension of its own cube has its place.
  has-place : (place : ℕ) (dim : DimDecl) (cond : Cond) (text : List ℕ) → slice_get d.dims place ≡ Some dim
      → Contains conds cond → Compares dim.name text cond → length text ≤ TEXT_BYTES
      → HasPlace dim (names_at run.names at place) text
  has-place place dim cond text there one compares short =
      let dim_is : dim_at d.dims place ≡ dim = get_or_from_slice_get d.dims place dim (dim_at [] 0) there in
      coe 0 1 (i. HasPlace (dim_is i) (sym (at_place run.names at place) i) text)
      (places place text (compares_with d place dim conds cond text storable there one compares short))

  pub deletion-named : IsNamedStep run step
  deletion-named = record {
    puts = λ k place e dim has.
        coe 1 0 (i. PutsNamed e.name place (names_at run.names k place)
        (operation_at step.number (epoch_done step.state.mode step.entries)
        (operation_asked (catalog_of run) step.file (says i))))
        (no-puts e.name place step.number (names_at run.names k place) (epoch_done step.state.mode step.entries)
        (resolved_region (declaration_of (catalog_of run) cube) conds));
    drops = λ k place e dim has. record {
      each = λ others cond text epoch said done one compares short.
          let both : Says (Delete cube conds) ≡ Says (Delete e.name others) = sym says ∙ said in
          let names : cube ≡ e.name = cc in
          let same_conds : others ≡ conds = cc in
          let same : k ≡ at = apart k at e d has.cube_is is (sym names ∙ named-so) in
          let decl_is : e ≡ d =
          same_Some e d (sym (subst (λ (n : ℕ). slice_get (catalog_of run).cubes n ≡ Some e) same has.cube_is) ∙ is)
          in
          coe 1 0 (i. HasPlace dim (names_at run.names (same i) place) text)
          (has-place place dim cond text
          (subst (λ (x : Decl). slice_get x.dims place ≡ Some dim) decl_is has.dim_is)
          (subst (λ (cs : List Cond). Contains cs cond) same_conds one) compares short);
    };
  }
