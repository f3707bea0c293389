-- A bound statement offers the texts that it has for its cube.
use Rattle.std.proofs.Common.{◌≡◌, ℕ, true, List, [], Contains, Some, None, slice_get, refl, subst, arith}
use Rattle.std.proofs.lemmas.Option.{same_Some}
use Rattle.cube_journal.specs.Refusals.{code}
use Rattle.cube_journal.specs.declared.refusal.Refusal.{Refusal}
use Rattle.cube_journal.specs.declared.reply.Reply.{Reply}
use Rattle.cube_journal.specs.declared.reply.Reply.TheVariants as reply
use Rattle.cube_language.specs.declared.decl.Decl.{Decl}
use Rattle.cube_language.specs.declared.decl.DimDecl.{DimDecl}
use Rattle.cube_language.specs.declared.statement.Statement.{Statement}
use Rattle.cube_language.specs.declared.statement.Statement.TheVariants.{Insert, Load, Delete}
use Rattle.condition_spans.specs.Codes.{lists_at}
use Rattle.cube_run.specs.FinalNames.{Offers, by_delete, by_insert, by_load}
use Rattle.cube_run.specs.RunRecords.{RunRecord, Says, catalog_of}
use Rattle.cube_run.specs.RunText.{IsReply}
use Rattle.cube_run.specs.SessionSteps.{SessionStep, all_steps}
use Rattle.cube_run.specs.StatementEntries.{is_change}
use Rattle.cube_run.specs.StepOutcomes.{MeetsAtBinding, refused_by_mode}
use Rattle.scripted_pasts.specs.StepTexts.{HasTextFor}
use Rattle.session_replies.specs.RowSteps.{FitsItsCube, IsOnCube, final_names}
use Rattle.session_replies.proofs.OnCubes.{fits}
use Rattle.session_replies.proofs.RowAnswers.{change_on_rows}
use Rattle.scripted_pasts.proofs.BoundChanges.{deleted_text, meets_binding}

bound-offers : (run : RunRecord) (step : SessionStep) (s : Statement) (d : Decl) (dim : DimDecl) (cube place : ℕ)
    (text : List ℕ) → Contains (all_steps run) step → step.sentence ≡ Says s
    → MeetsAtBinding (catalog_of run) step None → IsOnCube run step s d → final_names run d ≡ lists_at run.names cube
    → slice_get d.dims place ≡ Some dim → HasTextFor run step d place text s → Offers run d dim place text
bound-offers run step (Insert name rows) d dim cube place text among says bound on names there has =
    by_insert step rows has.row
    (record {
      is_step = among;
      says = subst (λ (n : List ℕ). step.sentence ≡ Says (Insert n rows)) (same_Some name d.name on.needed) says;
      bound = bound;
    }) has.one has.here
bound-offers run step (Load name path reject) d dim cube place text among says bound on names there has =
    by_load step path reject has.row
    (record {
      is_step = among;
      says = subst (λ (n : List ℕ). step.sentence ≡ Says (Load n path reject)) (same_Some name d.name on.needed) says;
      bound = bound;
    }) has.looks has.here
bound-offers run step (Delete name conds) d dim cube place text among says bound on names there has =
    let found = deleted_text d place dim conds text there has in
    by_delete step conds found.0
    (record {
      is_step = among;
      says = subst (λ (n : List ℕ). step.sentence ≡ Says (Delete n conds)) (same_Some name d.name on.needed) says;
      bound = bound;
    }) found.1 found.2 has.short
bound-offers run step s d dim cube place text among says bound on names there has = absurd has

pub step-offers : (run : RunRecord) (step : SessionStep) (s : Statement) (d : Decl) (dim : DimDecl) (cube place : ℕ)
    (text : List ℕ) (said : Reply) → Contains (all_steps run) step → step.sentence ≡ Says s → is_change s ≡ true
    → refused_by_mode step.state.mode s ≡ None → FitsItsCube run step s d
    → final_names run d ≡ lists_at run.names cube → IsReply run step said
    → ((r : Refusal) → said ≡ reply.Refused r → code r ≡ 2 → ⊥) → slice_get d.dims place ≡ Some dim
    → HasTextFor run step d place text s → Offers run d dim place text
step-offers run step s d dim cube place text said among says change may h names answered other there has =
    bound-offers run step s d dim cube place text among says
    (meets_binding run step s said says answered other (change_on_rows s change) may (fits run step s d h.on h.fits))
    h.on names there has
