-- The cube that a change found is that of its statement, in each run that goes on.
use Rattle.std.proofs.Common.{◌≡◌, ℕ, ◌+◌, ◌<◌, List, None, arith}
use Rattle.aosi_desk.specs.Desks.{decl_names}
use Rattle.core_events.specs.Events.{Opening, CoreEvent}
use Rattle.core_program.specs.CoreFits.{CoreEntry}
use Rattle.core_program.specs.Knowing.{IsLaterRun}
use Rattle.core_records.specs.CoreRecords.{RunScripts, record_of}
use Rattle.core_records.specs.ScriptedCalls.{FollowScripts}
use Rattle.core_states.specs.CorePasts.{CorePast, last_number}
use Rattle.core_states.specs.StandingInCore.{StandsInCore}
use Rattle.core_states.specs.declared.session.CoreSession.{CoreSession}
use Rattle.cube_core.specs.declared.cell.CoreCell.{CoreCell}
use Rattle.cube_language.specs.Cubes.{first_repeated}
use Rattle.cube_language.specs.Misfits.{FitsCube}
use Rattle.cube_language.specs.declared.decl.Decl.{Decl}
use Rattle.cube_language.specs.declared.statement.Statement.{Statement}
use Rattle.cube_run.specs.RunRecords.{LoadedFile}
use Rattle.cube_run.specs.SessionSteps.{SessionStep}
use Rattle.found_cubes.specs.CubesOnRecord.{HasCubeAt}
use Rattle.linked_shards.specs.CellShards.{CoreShardStands}
use Rattle.linked_shards.specs.declared.cell.CoreShard.{CoreShard}
use Rattle.core_changes.specs.ChangeEnds.{ChangeEnd}
use Rattle.core_changes.specs.ChangesInRuns.{IsRunAfterChange, IsStepOfChange}
use Rattle.session_replies.specs.RowSteps.{FitsItsCube}
use Rattle.shard_events.specs.ShardsInRuns.{FitsShard, ShardAnswerSays}

module _ (cells : List (CoreCell CoreShard)) (caller : ℕ) (old : CoreSession) (s : Statement)
    (now : List CoreEntry) (place : ℕ) (d : Decl) where
  -- The cube that was found is on record of each run that goes on from the calls now.
  abbrev pub IsOnRecord : List CoreEntry → Type 0
  IsOnRecord own =
      (past : CorePast) (o : Opening) (given : RunScripts) (log : List CoreEntry) (events : List CoreEvent)
      (step : SessionStep)
      → StandsInCore FitsShard CoreShardStands ShardAnswerSays cells caller old.number own past
      → last_number past < old.statements + 1
      → IsLaterRun FitsShard CoreShardStands ShardAnswerSays cells o caller now log events
      → FollowScripts o given events → first_repeated (decl_names o.cubes) ≡ None → step.session ≡ old.number
      → step.number ≡ old.statements + 1 → HasCubeAt (record_of o given events) step s place d

  module _ (own : List CoreEntry) (file : LoadedFile) (on : IsOnRecord own) (end : ChangeEnd) (past : CorePast)
      (o : Opening) (given : RunScripts) (events : List CoreEvent) (step : SessionStep)
      (run : IsRunAfterChange s file old end cells caller own now past o given events)
      (at : IsStepOfChange s file old end given step) where
    pub meets : HasCubeAt (record_of o given events) step s place d
    meets =
        let counted = run.counted in
        on past o given run.from.log events step run.stands_there (omega (arith, counted)) run.from.run run.from.follow
        run.opens.opens.apart at.session_is at.number_is

    pub fits-in : FitsCube d s → FitsItsCube (record_of o given events) step s d
    fits-in fits = record { on = meets.on; fits = fits }
