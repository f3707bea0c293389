-- A cube that a session found stands there before its statement, in each run that goes on.
-- Source: this project's own.
use mathlib.Core.List.{IsPrefix}
use Rattle.std.specs.Prelude.{ℕ, ◌<◌, List, [], ◌∷◌, ◌++◌}
use Rattle.aosi_desk.specs.Desks.{IsFound}
use Rattle.aosi_desk.specs.declared.cube.CubeFound.TheVariants.{Found}
use Rattle.core_cells.specs.declared.desk.DeskAnswer.TheVariants as answer
use Rattle.core_cells.specs.declared.desk.DeskCall.TheVariants as call
use Rattle.core_program.specs.ClientCalls.{desk_entry}
use Rattle.core_program.specs.Knowing.{IsLaterRun}
use Rattle.core_events.specs.Events.{Opening, CoreEvent}
use Rattle.core_events.specs.Jobs.{CoreJob, JobOutcome}
use Rattle.core_events.specs.ShardView.{ShardView}
use Rattle.core_serial.specs.Journals.{journal_of}
use Rattle.core_states.specs.CorePasts.{CorePast, last_number}
use Rattle.core_program.specs.CoreFits.{CoreEntry}
use Rattle.core_records.specs.CoreRecords.{RunScripts, record_of}
use Rattle.core_records.specs.ScriptedCalls.{FollowScripts}
use Rattle.core_states.specs.StandingInCore.{StandsInCore}
use Rattle.cube_core.specs.declared.cell.CoreCell.{CoreCell}
use Rattle.cube_core.specs.declared.shard.ShardAnswer.{ShardAnswer}
use Rattle.cube_core.specs.declared.shard.ShardCall.{ShardCall}
use Rattle.cube_language.specs.declared.decl.Decl.{Decl}
use Rattle.cube_run.specs.RunRecords.{cubes_at}
use Rattle.cube_run.specs.SessionSteps.{journal_before}

-- One of a session's own calls searched for the name, and the desk found the cube at this place, so declared.
pub record HasFound (own : List CoreEntry) (name : List ℕ) (place : ℕ) (decl : Decl) : Type 0 where
  pub before : List CoreEntry
  pub caller : ℕ
  pub session : ℕ
  pub statement : ℕ
  pub begins : IsPrefix
      (before ++ desk_entry caller (call.FindCube session statement name) (answer.Found (Found place decl)) ∷ []) own

module _ {S : Type 0} (fits : Opening → ℕ → ShardCall → Type 0) (stands : Opening → ℕ → ℕ → S → ShardView → Type 0)
    (says : CoreJob → ShardAnswer → JobOutcome → Type 0) (cells : List (CoreCell S)) (caller session : ℕ) where
  -- A session that made calls in a statement of a number after those behind it: in each run that goes on from them, the
  -- cubes before the statement's first entry, or the next statement's, have at this place the one of this name, so
  -- declared.
  abbrev pub StandsBefore : ℕ → List CoreEntry → List CoreEntry → List ℕ → ℕ → Decl → Type 0
  StandsBefore number own now name place decl =
      (past : CorePast) → StandsInCore fits stands says cells caller session own past → last_number past < number
      → (o : Opening) (given : RunScripts) (log : List CoreEntry) (events : List CoreEvent)
      → IsLaterRun fits stands says cells o caller now log events → FollowScripts o given events
      → IsFound (cubes_at (record_of o given events) (journal_before session number (journal_of o events))) name
      (Found place decl)
