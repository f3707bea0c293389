-- The run of four visits and a query, step by step.
use Rattle.std.proofs.Common.{◌≡◌, ◌∙◌, ℕ, List, [], ◌∷◌, None, refl, sym, pos, codes}
use Rattle.std.proofs.lemmas.Option.{none-some}
use Rattle.cube_values.specs.declared.value.Value.TheVariants.{Text, Int}
use Rattle.cube_language.specs.Misfits.{FitsCube}
use Rattle.cube_language.specs.RowFaults.{first_bad_row}
use Rattle.cube_language.specs.declared.statement.Statement.{Statement}
use Rattle.cube_run.specs.Merge.{IsOutcome}
use Rattle.cube_run.specs.RunRecords.{Says}
use Rattle.cube_run.specs.SessionStates.{Idle}
use Rattle.cube_run.specs.SessionSteps.{SessionStep, step_at}
use Rattle.cube_run.specs.StatementEntries.{Done, change_idle, select_idle}
use Rattle.cube_run.specs.VisitsReport.{visits_cube, visits_report, visit_insert, likes_by_region}
use Rattle.cube_run.proofs.Passing.{fits-by-tests, passed}

visit-fits : (region gender : List ℕ) (likes comments : ℕ)
    → first_bad_row visits_cube ((Text region ∷ Text gender ∷ Int (pos likes) ∷ Int (pos comments) ∷ []) ∷ []) ≡ None
    → FitsCube visits_cube (visit_insert region gender likes comments)
visit-fits region gender likes comments is =
    fits-by-tests visits_cube (visit_insert region gender likes comments) refl refl refl refl refl refl (λ name h. h)
    (λ row why h. none-some (row, why) (sym is ∙ h))

likes-fit : FitsCube visits_cube likes_by_region
likes-fit =
    fits-by-tests visits_cube likes_by_region refl refl refl refl refl refl (λ name h. h) (λ row why h. h)

-- The step of the statement of this number, after so many commits.
abbrev step : ℕ → ℕ → Statement → SessionStep
step number commits s =
    step_at visits_report 1 number (record { mode = Idle; watch = None; commits = commits }) (Says s)

pub first-end : IsOutcome visits_report (step 1 0 (visit_insert (codes "CA") (codes "M") 3 1)) Done
first-end = record {
  ends = passed visits_report (step 1 0 (visit_insert (codes "CA") (codes "M") 3 1))
      (visit-fits (codes "CA") (codes "M") 3 1 refl) refl refl;
  leaves = change_idle 1 [] refl;
  round = refl;
  cube = λ h. refl;
}

pub second-end : IsOutcome visits_report (step 2 1 (visit_insert (codes "NY") (codes "F") 5 0)) Done
second-end = record {
  ends = passed visits_report (step 2 1 (visit_insert (codes "NY") (codes "F") 5 0))
      (visit-fits (codes "NY") (codes "F") 5 0 refl) refl refl;
  leaves = change_idle 2 [] refl;
  round = refl;
  cube = λ h. refl;
}

pub third-end : IsOutcome visits_report (step 3 2 (visit_insert (codes "CA") (codes "F") 2 4)) Done
third-end = record {
  ends = passed visits_report (step 3 2 (visit_insert (codes "CA") (codes "F") 2 4))
      (visit-fits (codes "CA") (codes "F") 2 4 refl) refl refl;
  leaves = change_idle 3 [] refl;
  round = refl;
  cube = λ h. refl;
}

pub fourth-end : IsOutcome visits_report (step 4 3 (visit_insert (codes "TX") (codes "M") 7 2)) Done
fourth-end = record {
  ends = passed visits_report (step 4 3 (visit_insert (codes "TX") (codes "M") 7 2))
      (visit-fits (codes "TX") (codes "M") 7 2 refl) refl refl;
  leaves = change_idle 4 [] refl;
  round = refl;
  cube = λ h. refl;
}

pub fifth-end : IsOutcome visits_report (step 5 4 likes_by_region) Done
fifth-end = record {
  ends = passed visits_report (step 5 4 likes_by_region) likes-fit refl refl;
  leaves = select_idle 4 refl;
  round = refl;
  cube = λ h. refl;
}
