-- When a statement meets no refusal.
use Rattle.std.proofs.Common.{◌≡◌, ◌∙◌, ℕ, List, None, sym, refl}
use Rattle.std.proofs.lemmas.Option.{none-some}
use Rattle.cube_language.specs.ColumnUses.{unknown_column, wrong_kind}
use Rattle.cube_language.specs.Misfits.{FailsTest, FitsCube, not_grouped, not_an_item, bad_having, not_watchable}
use Rattle.cube_language.specs.declared.bad_row.BadRow.{BadRow as WhyBad}
use Rattle.cube_language.specs.declared.decl.Decl.{Decl}
use Rattle.cube_language.specs.declared.misfit.Misfit.TheVariants.{UnknownColumn, WrongKind, NotGrouped, NotAnItem, BadHaving, NotWatchable, CutsBrick, BadRow}
use Rattle.cube_language.specs.declared.statement.Statement.{Statement}
use Rattle.cube_run.specs.Merge.{IsOutcome}
use Rattle.cube_run.specs.RunRecords.{RunRecord, catalog_of}
use Rattle.cube_run.specs.RunText.{IsReply, reply_of}
use Rattle.cube_run.specs.SessionSteps.{SessionStep}
use Rattle.cube_run.specs.StatementEntries.{Outcome, Done}
use Rattle.cube_run.specs.StepOutcomes.{IsMisfitOf, MayEnd, all_passed, bound_refusal, data_refusal}

-- A statement fits its cube that passes each test.
pub fits-by-tests : (d : Decl) (s : Statement) → unknown_column d s ≡ None → wrong_kind d s ≡ None
    → not_grouped s ≡ None → not_an_item s ≡ None → bad_having s ≡ None → not_watchable s ≡ None
    → ((name : List ℕ) → FailsTest d s (CutsBrick name) → ⊥)
    → ((row : ℕ) (why : WhyBad) → FailsTest d s (BadRow row why) → ⊥) → FitsCube d s
fits-by-tests d s a b c e f g cut bad (UnknownColumn name) h = none-some name (sym a ∙ h)
fits-by-tests d s a b c e f g cut bad (WrongKind name) h = none-some name (sym b ∙ h)
fits-by-tests d s a b c e f g cut bad (NotGrouped name) h = none-some name (sym c ∙ h)
fits-by-tests d s a b c e f g cut bad (NotAnItem item) h = none-some item (sym e ∙ h)
fits-by-tests d s a b c e f g cut bad (BadHaving item) h = none-some item (sym f ∙ h)
fits-by-tests d s a b c e f g cut bad (NotWatchable item) h = none-some item (sym g ∙ h)
fits-by-tests d s a b c e f g cut bad (CutsBrick name) h = cut name h
fits-by-tests d s a b c e f g cut bad (BadRow row why) h = bad row why h

-- It is done where neither its binding nor its data refuse it.
pub passed : (run : RunRecord) (step : SessionStep) → IsMisfitOf (catalog_of run) step.sentence None
    → bound_refusal step step.sentence None ≡ None → data_refusal (catalog_of run) step.file step.sentence ≡ None
    → MayEnd (catalog_of run) step Done
passed run step fits bound given = all_passed (record {
  binding = None;
  meets = record { misfit = None; is_misfit = fits; is = bound };
  is = given;
})

-- The reply to a statement that ends so.
pub replied : {run : RunRecord} {step : SessionStep} {outcome : Outcome} → IsOutcome run step outcome
    → IsReply run step (reply_of run step step.sentence outcome)
replied {outcome = outcome} ends = record { outcome = outcome; ends = ends; is = refl }
