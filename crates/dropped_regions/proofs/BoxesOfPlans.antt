-- The span of a plan, with right codes, is the box of its DELETE.
use Rattle.std.proofs.Common.{◌≡◌, ◌∙◌, ℕ, List, [], ◌∷◌, Option, length, sym, ap, subst}
use Rattle.std.specs.Prelude.{IfOk, Ok, Err, Result}
use mathlib.Core.List.{IsPrefix}
use Rattle.condition_spans.specs.CodedConditions.{coded_conditions}
use Rattle.condition_spans.specs.Codes.{codes_in, lists_at}
use Rattle.condition_spans.specs.Spans.{CutNoBrick, IsSpanOf}
use Rattle.core_events.specs.Events.{Opening}
use Rattle.core_events.specs.Jobs.{CoreJob, JobOutcome}
use Rattle.core_events.specs.ShardView.{ShardView}
use Rattle.core_names.specs.CoreEncoders.{MayAskForCodes}
use Rattle.core_names.specs.NamesInTheEnd.{MayLeaveNames}
use Rattle.core_program.specs.CoreFits.{CoreEntry}
use Rattle.cube_core.specs.declared.cell.CoreCell.{CoreCell}
use Rattle.cube_core.specs.declared.shard.ShardAnswer.{ShardAnswer}
use Rattle.cube_core.specs.declared.shard.ShardCall.{ShardCall}
use Rattle.cube_language.specs.Cubes.{sizes_of}
use Rattle.cube_language.specs.declared.decl.Decl.{Decl}
use Rattle.cube_language.specs.declared.statement.Statement.{Statement}
use Rattle.cube_values.specs.declared.operation.Condition.{Condition}
use Rattle.cube_values.specs.declared.span.Span.{Span}
use Rattle.core_names.specs.KnownNumbers.{TextsByDim}
use Rattle.query_plan.proofs.Ties.{are_codes}
use Rattle.query_plan.specs.Bindings.{IsDropPlan, IsDropSpan}
use Rattle.query_plan.specs.Ties.{AreCodesOf, SpansTakeRegions}
use Rattle.query_plan.specs.declared.plan.DropPlan.{DropPlan}
use Rattle.row_encoding.specs.CodedTexts.{AreNames, HavePlaces}
use Rattle.row_encoding.specs.FinalCodes.{InTheEnd}
use Rattle.dropped_regions.specs.DeleteBoxes.{IsBoxOf, deleted_region}
use Rattle.dropped_regions.proofs.NamesAtTheEnd.{are-names, may-before}
use Rattle.dropped_regions.proofs.OneCube.{is-it, on-it}

module _ {S : Type 0} (fits : Opening → ℕ → ShardCall → Type 0) (stands : Opening → ℕ → ℕ → S → ShardView → Type 0)
    (says : CoreJob → ShardAnswer → JobOutcome → Type 0) (cells : List (CoreCell S)) (caller : ℕ)
    (own : List CoreEntry) (place : ℕ) (d : Decl) where
  abbrev AtTheEnd : (List (List (List ℕ)) → Type 0) → Type 0
  AtTheEnd Holds = InTheEnd (MayLeaveNames fits stands says cells caller own) place Holds

  box-of-plan : (session : ℕ) (known : TextsByDim) (s : Statement) (plan : DropPlan) (codes : List (Option ℕ))
      (box : Span) → MayAskForCodes fits stands says cells caller own session known place d → SpansTakeRegions
      → IsDropPlan (d ∷ []) s plan → AtTheEnd (λ lists. AreNames lists → codes ≡ codes_in lists plan.conditions)
      → AtTheEnd (λ lists. HavePlaces d.dims lists plan.conditions) → IsDropSpan (d ∷ []) plan codes box
      → IsBoxOf fits stands says cells caller own place d s box
  box-of-plan session known s plan codes box may law p right places made =
      let on = on-it d s plan p in
      let conditions = (deleted_region d s).conditions in
      let same : made.decl ≡ d = is-it d made.decl plan.cube made.cube_is in
      let has = coe 0 1 (i. IsSpanOf (sizes_of (same i).dims) (coded_conditions codes (on.conditions i)) box) made.has in
      record {
        fits_it = on.fits;
        region = record {
          takes = λ names may_leave.
              let are = are-names fits stands says cells caller own may.name place d may.cube may.named names may_leave in
              let lists = lists_at names place in
              law d s lists codes box on.fits are.distinct
              (subst (λ (cs : List (Option ℕ)). AreCodesOf lists cs conditions)
              (sym (right names may_leave are ∙ ap (codes_in lists) on.conditions)) (are_codes lists conditions))
              has;
          places = subst (λ (cs : List Condition). AtTheEnd (λ lists. HavePlaces d.dims lists cs)) on.conditions places;
        };
        whole = record {
          parts = made.parts ∙ ap (λ (e : Decl). length e.dims) same;
          sound = made.sound;
          whole = subst (λ (e : Decl). CutNoBrick (sizes_of e.dims) box.parts) same made.whole;
        };
      }

  pub if-box : {E : Type 0} (session : ℕ) (known : TextsByDim) (s : Statement) (plan : DropPlan)
      (codes : List (Option ℕ)) (result : Result Span E)
      → MayAskForCodes fits stands says cells caller own session known place d → SpansTakeRegions
      → IsDropPlan (d ∷ []) s plan → AtTheEnd (λ lists. AreNames lists → codes ≡ codes_in lists plan.conditions)
      → AtTheEnd (λ lists. HavePlaces d.dims lists plan.conditions) → IfOk result (IsDropSpan (d ∷ []) plan codes)
      → IfOk result (IsBoxOf fits stands says cells caller own place d s)
  if-box session known s plan codes (Ok box) may law p right places made =
      box-of-plan session known s plan codes box may law p right places made
  if-box session known s plan codes (Err e) may law p right places made = tt

  -- After more calls it is that still.
  pub box-later : (now : List CoreEntry) (s : Statement) (box : Span) → IsPrefix own now
      → IsBoxOf fits stands says cells caller own place d s box
      → IsBoxOf fits stands says cells caller now place d s box
  box-later now s box more h = record {
    fits_it = h.fits_it;
    region = record {
      takes = λ names may. h.region.takes names (may-before fits stands says cells caller own now names more may);
      places = λ names may. h.region.places names (may-before fits stands says cells caller own now names more may);
    };
    whole = h.whole;
  }
