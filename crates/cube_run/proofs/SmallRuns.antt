-- A run with a watch, and a run of two sessions, step by step.
use Rattle.std.proofs.Common.{◌≡◌, ◌∙◌, ℕ, true, [], ◌∷◌, Option, Some, None, inr, refl, sym, pos}
use Rattle.std.proofs.lemmas.Option.{none-some}
use Rattle.cube_values.specs.declared.snapshot.Snapshot.{Snapshot}
use Rattle.cube_values.specs.declared.value.Value.TheVariants.{Int}
use Rattle.cube_language.specs.Misfits.{FitsCube}
use Rattle.cube_language.specs.RowFaults.{first_bad_row}
use Rattle.cube_language.specs.declared.statement.Statement.{Statement}
use Rattle.cube_language.specs.declared.statement.Statement.TheVariants as statement
use Rattle.cube_journal.specs.declared.refusal.Refusal.TheVariants as refusal
use Rattle.cube_run.specs.Merge.{IsOutcome}
use Rattle.cube_run.specs.RunRecords.{Says}
use Rattle.cube_run.specs.SessionStates.{Mode, Idle, Open, KeptWatch}
use Rattle.cube_run.specs.SessionSteps.{SessionStep, step_at}
use Rattle.cube_run.specs.StatementEntries.{Done, RefusedWith, begin_done, change_idle, change_open, commit_done, other_refusal, select_idle, select_open, show_watch_done, watch_done}
use Rattle.cube_run.specs.StepOutcomes.{refused_first}
use Rattle.cube_run.specs.WorkedRuns.{small_cube, small_insert, small_select, small_watch, small_delete, watched_run, paired_run}
use Rattle.cube_run.proofs.Passing.{fits-by-tests, passed}

insert-fits : (x m : ℕ) → first_bad_row small_cube ((Int (pos x) ∷ Int (pos m) ∷ []) ∷ []) ≡ None
    → FitsCube small_cube (small_insert x m)
insert-fits x m is =
    fits-by-tests small_cube (small_insert x m) refl refl refl refl refl refl (λ name h. h)
    (λ row why h. none-some (row, why) (sym is ∙ h))

watch-fits : FitsCube small_cube small_watch
watch-fits = fits-by-tests small_cube small_watch refl refl refl refl refl refl (λ name h. h) (λ row why h. h)

select-fits : FitsCube small_cube small_select
select-fits = fits-by-tests small_cube small_select refl refl refl refl refl refl (λ name h. h) (λ row why h. h)

-- A deletion without conditions cuts no range.
delete-fits : FitsCube small_cube small_delete
delete-fits =
    fits-by-tests small_cube small_delete refl refl refl refl refl refl
    (λ name h. h.cut ((λ numbers x y share. refl), (λ texts. inr refl))) (λ row why h. h)

-- ---- the watch

abbrev kept-by : ℕ → KeptWatch
kept-by holder = record { holder = holder; asked = small_watch }

abbrev watched : ℕ → Option KeptWatch → ℕ → Statement → SessionStep
watched number watch commits s =
    step_at watched_run 1 number (record { mode = Idle; watch = watch; commits = commits }) (Says s)

pub watched-1 : IsOutcome watched_run (watched 1 None 0 small_watch) Done
watched-1 = record {
  ends = passed watched_run (watched 1 None 0 small_watch) watch-fits refl refl;
  leaves = watch_done 0 refl;
  round = refl;
  cube = λ h. refl;
}

pub watched-2 : IsOutcome watched_run (watched 2 (Some (kept-by 17)) 0 (small_insert 0 5)) Done
watched-2 = record {
  ends = passed watched_run (watched 2 (Some (kept-by 17)) 0 (small_insert 0 5)) (insert-fits 0 5 refl) refl refl;
  leaves = change_idle 1 [] refl;
  round = refl;
  cube = λ h. refl;
}

pub watched-3 : IsOutcome watched_run (watched 3 (Some (kept-by 17)) 1 statement.ShowWatch) Done
watched-3 = record {
  ends = passed watched_run (watched 3 (Some (kept-by 17)) 1 statement.ShowWatch) refl refl refl;
  leaves = show_watch_done 1;
  round = refl;
  cube = λ h. tt;
}

pub watched-4 : IsOutcome watched_run (watched 4 (Some (kept-by 33)) 1 small_delete) Done
watched-4 = record {
  ends = passed watched_run (watched 4 (Some (kept-by 33)) 1 small_delete) delete-fits refl refl;
  leaves = change_idle 2 [] refl;
  round = refl;
  cube = λ h. refl;
}

pub watched-5 : IsOutcome watched_run (watched 5 (Some (kept-by 33)) 2 statement.ShowWatch) Done
watched-5 = record {
  ends = passed watched_run (watched 5 (Some (kept-by 33)) 2 statement.ShowWatch) refl refl refl;
  leaves = show_watch_done 2;
  round = refl;
  cube = λ h. tt;
}

-- ---- two sessions

abbrev writer : Snapshot
writer = record { epoch = 1; deps = []; own = true }

abbrev paired : ℕ → ℕ → Mode → ℕ → Statement → SessionStep
paired session number mode commits s =
    step_at paired_run session number (record { mode = mode; watch = None; commits = commits }) (Says s)

pub paired-1-1 : IsOutcome paired_run (paired 1 1 Idle 0 statement.Begin) Done
paired-1-1 = record {
  ends = passed paired_run (paired 1 1 Idle 0 statement.Begin) refl refl refl;
  leaves = begin_done 1 [];
  round = refl;
  cube = λ h. tt;
}

pub paired-1-2 : IsOutcome paired_run (paired 1 2 (Open writer) 0 (small_insert 0 5)) Done
paired-1-2 = record {
  ends = passed paired_run (paired 1 2 (Open writer) 0 (small_insert 0 5)) (insert-fits 0 5 refl) refl refl;
  leaves = change_open refl;
  round = refl;
  cube = λ h. refl;
}

pub paired-1-3 : IsOutcome paired_run (paired 1 3 (Open writer) 0 small_select) Done
paired-1-3 = record {
  ends = passed paired_run (paired 1 3 (Open writer) 0 small_select) select-fits refl refl;
  leaves = select_open refl;
  round = refl;
  cube = λ h. refl;
}

pub paired-1-4 : IsOutcome paired_run (paired 1 4 (Open writer) 0 statement.Commit) Done
paired-1-4 = record {
  ends = passed paired_run (paired 1 4 (Open writer) 0 statement.Commit) refl refl refl;
  leaves = commit_done;
  round = refl;
  cube = λ h. tt;
}

pub paired-1-5 : IsOutcome paired_run (paired 1 5 Idle 1 statement.Commit) (RefusedWith refusal.NoTransaction)
paired-1-5 = record {
  ends = refused_first refusal.NoTransaction (record {
    binding = Some refusal.NoTransaction;
    meets = record { misfit = None; is_misfit = refl; is = refl };
    is = refl;
  });
  leaves = other_refusal refl;
  round = refl;
  cube = λ h. tt;
}

pub paired-2-1 : IsOutcome paired_run (paired 2 1 Idle 0 (small_insert 1 7)) Done
paired-2-1 = record {
  ends = passed paired_run (paired 2 1 Idle 0 (small_insert 1 7)) (insert-fits 1 7 refl) refl refl;
  leaves = change_idle 2 (1 ∷ []) refl;
  round = refl;
  cube = λ h. refl;
}

pub paired-2-2 : IsOutcome paired_run (paired 2 2 Idle 1 small_select) Done
paired-2-2 = record {
  ends = passed paired_run (paired 2 2 Idle 1 small_select) select-fits refl refl;
  leaves = select_idle 0 refl;
  round = refl;
  cube = λ h. refl;
}
