-- A session of the core executes a statement that its watch does not refuse.
-- Source: this project's own.
use Rattle.std.specs.Prelude.{◌≡◌, ℕ, List, Option, None, unwrap_or}
use Rattle.core_events.specs.Events.{Opening}
use Rattle.core_events.specs.Jobs.{CoreJob, JobOutcome}
use Rattle.core_events.specs.ShardView.{ShardView}
use Rattle.core_states.specs.CorePasts.{CorePast, last_number}
use Rattle.core_program.specs.CoreFits.{CoreEntry}
use Rattle.core_states.specs.ExecutedInCore.{HasExecutedInCore}
use Rattle.core_states.specs.StandingInCore.{StandsInCore, state_of_session}
use Rattle.core_states.specs.declared.session.CoreSession.{CoreSession}
use Rattle.cube_core.specs.declared.cell.CoreCell.{CoreCell}
use Rattle.cube_core.specs.declared.shard.ShardAnswer.{ShardAnswer}
use Rattle.cube_core.specs.declared.shard.ShardCall.{ShardCall}
use Rattle.cube_journal.specs.declared.reply.Reply.{Reply}
use Rattle.cube_language.specs.declared.statement.Statement.{Statement}
use Rattle.cube_run.specs.RunRecords.{Says}
use Rattle.cube_run.specs.SessionStates.{KeptWatch}
use Rattle.cube_run.specs.StepOutcomes.{refused_by_watch}

module _ {S : Type 0} (fits : Opening → ℕ → ShardCall → Type 0) (stands : Opening → ℕ → ℕ → S → ShardView → Type 0)
    (says : CoreJob → ShardAnswer → JobOutcome → Type 0) (cells : List (CoreCell S)) (caller : ℕ) where
  -- A session executes it with these calls, whatever is behind it and whatever watch it has that lets it.
  abbrev pub ExecutesWatched : Statement → CoreSession → List CoreEntry → CoreSession → List CoreEntry → Reply → Type 0
  ExecutesWatched s old own new now said =
      (past : CorePast) (watch : Option KeptWatch) → refused_by_watch watch s ≡ None
      → StandsInCore fits stands says cells caller old.number own past
      → old.statements ≡ last_number past
      → HasExecutedInCore fits stands says cells caller old.number (unwrap_or old.round_every 0) past
      (state_of_session old watch) (Says s) own now (state_of_session new watch) said
