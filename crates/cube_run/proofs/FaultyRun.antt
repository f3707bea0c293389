-- A run with refusals, an aborted transaction and a round, step by step.
use Rattle.std.proofs.Common.{ℕ, true, [], Some, None, refl, codes}
use Rattle.std.proofs.lemmas.Bool.{false≢true}
use Rattle.cube_values.specs.declared.snapshot.Snapshot.{Snapshot}
use Rattle.cube_language.specs.Misfits.{FitsCube}
use Rattle.cube_language.specs.declared.statement.Statement.{Statement}
use Rattle.cube_language.specs.declared.statement.Statement.TheVariants as statement
use Rattle.cube_journal.specs.declared.journal_entry.AbortCause.TheVariants as abort
use Rattle.cube_journal.specs.declared.refusal.Refusal.TheVariants as refusal
use Rattle.cube_run.specs.Merge.{IsOutcome}
use Rattle.cube_run.specs.RunRecords.{Says}
use Rattle.cube_run.specs.SessionStates.{Mode, Idle, Open, Aborted}
use Rattle.cube_run.specs.SessionSteps.{SessionStep, step_at}
use Rattle.cube_run.specs.StatementEntries.{Done, RefusedWith, begin_done, change_idle, change_open_ended, create_done, flush_done, other_refusal, purge_done, rollback_of_aborted, show_done}
use Rattle.cube_run.specs.StepOutcomes.{refused_first}
use Rattle.cube_run.specs.WorkedRuns.{small_cube, other_cube, small_load, lost_select, faulty_run}
use Rattle.cube_run.proofs.Passing.{fits-by-tests, passed}

load-fits : (reject : ℕ) → FitsCube small_cube (small_load reject)
load-fits reject =
    fits-by-tests small_cube (small_load reject) refl refl refl refl refl refl (λ name h. h) (λ row why h. h)

abbrev step : ℕ → Mode → ℕ → Statement → SessionStep
step number mode commits s =
    step_at faulty_run 1 number (record { mode = mode; watch = None; commits = commits }) (Says s)

abbrev writer : Snapshot
writer = record { epoch = 3; deps = []; own = true }

pub faulty-1 : IsOutcome faulty_run (step 1 Idle 0 (statement.CreateCube other_cube)) Done
faulty-1 = record {
  ends = passed faulty_run (step 1 Idle 0 (statement.CreateCube other_cube)) refl refl refl;
  leaves = create_done 1;
  round = refl;
  cube = λ h. tt;
}

pub faulty-2 : IsOutcome faulty_run (step 2 Idle 0 (statement.CreateCube other_cube))
    (RefusedWith (refusal.CubeExists (codes "u")))
faulty-2 = record {
  ends = refused_first (refusal.CubeExists (codes "u")) (record {
    binding = Some (refusal.CubeExists (codes "u"));
    meets = record { misfit = None; is_misfit = refl; is = refl };
    is = refl;
  });
  leaves = other_refusal refl;
  round = refl;
  cube = λ h. tt;
}

pub faulty-3 : IsOutcome faulty_run (step 3 Idle 0 (small_load 1)) Done
faulty-3 = record {
  ends = passed faulty_run (step 3 Idle 0 (small_load 1)) (load-fits 1) refl refl;
  leaves = change_idle 2 [] refl;
  round = refl;
  cube = λ h. refl;
}

pub faulty-4 : IsOutcome faulty_run (step 4 Idle 1 statement.Begin) Done
faulty-4 = record {
  ends = passed faulty_run (step 4 Idle 1 statement.Begin) refl refl refl;
  leaves = begin_done 3 [];
  round = refl;
  cube = λ h. tt;
}

pub faulty-5 : IsOutcome faulty_run (step 5 (Open writer) 1 (small_load 0)) (RefusedWith (refusal.TooManyRejected 1 0))
faulty-5 = record {
  ends = refused_first (refusal.TooManyRejected 1 0) (record {
    binding = None;
    meets = record { misfit = None; is_misfit = load-fits 0; is = refl };
    is = refl;
  });
  leaves = change_open_ended abort.TooManyRejected refl refl;
  round = refl;
  cube = λ h. refl;
}

pub faulty-6 : IsOutcome faulty_run (step 6 (Aborted 3) 1 statement.Commit) (RefusedWith refusal.TransactionAborted)
faulty-6 = record {
  ends = refused_first refusal.TransactionAborted (record {
    binding = Some refusal.TransactionAborted;
    meets = record { misfit = None; is_misfit = refl; is = refl };
    is = refl;
  });
  leaves = other_refusal refl;
  round = refl;
  cube = λ h. tt;
}

pub faulty-7 : IsOutcome faulty_run (step 7 (Aborted 3) 1 statement.Rollback) Done
faulty-7 = record {
  ends = passed faulty_run (step 7 (Aborted 3) 1 statement.Rollback) refl refl refl;
  leaves = rollback_of_aborted;
  round = refl;
  cube = λ h. tt;
}

pub faulty-8 : IsOutcome faulty_run (step 8 Idle 1 statement.Flush) Done
faulty-8 = record {
  ends = passed faulty_run (step 8 Idle 1 statement.Flush) refl refl refl;
  leaves = flush_done;
  round = refl;
  cube = λ h. tt;
}

pub faulty-9 : IsOutcome faulty_run (step 9 Idle 1 statement.Purge) Done
faulty-9 = record {
  ends = passed faulty_run (step 9 Idle 1 statement.Purge) refl refl refl;
  leaves = purge_done 3;
  round = refl;
  cube = λ h. tt;
}

pub faulty-10 : IsOutcome faulty_run (step 10 Idle 1 statement.ShowEpochs) Done
faulty-10 = record {
  ends = passed faulty_run (step 10 Idle 1 statement.ShowEpochs) refl refl refl;
  leaves = show_done;
  round = refl;
  cube = λ h. tt;
}

pub faulty-11 : IsOutcome faulty_run (step 11 Idle 1 lost_select) (RefusedWith (refusal.UnknownCube (codes "w")))
faulty-11 = record {
  ends = refused_first (refusal.UnknownCube (codes "w")) (record {
    binding = Some (refusal.UnknownCube (codes "w"));
    meets = record { misfit = None; is_misfit = refl; is = refl };
    is = refl;
  });
  leaves = other_refusal refl;
  round = refl;
  cube = λ h. absurd (false≢true h);
}
