-- What is behind a session that plays its script.
-- Source: this project's own; AOSI (ICDE 2018) for the operations of a transaction.
use Rattle.std.specs.Prelude.{ℕ, List}
use Rattle.core_events.specs.Events.{Opening}
use Rattle.core_events.specs.Jobs.{CoreJob, JobOutcome}
use Rattle.core_events.specs.ShardView.{ShardView}
use Rattle.core_states.specs.CorePasts.{CorePast}
use Rattle.core_program.specs.CoreFits.{CoreEntry}
use Rattle.core_states.specs.StandingInCore.{StandsInCore}
use Rattle.cube_core.specs.declared.cell.CoreCell.{CoreCell}
use Rattle.cube_core.specs.declared.shard.ShardAnswer.{ShardAnswer}
use Rattle.cube_core.specs.declared.shard.ShardCall.{ShardCall}
use Rattle.cube_run.specs.SessionStates.{SessionState}
use Rattle.scripted_pasts.specs.NamesBehind.{NamesStandBehind}
use Rattle.posted_pasts.specs.PostsBehind.{PostsStandBehind}
use Rattle.scripted_pasts.specs.ScriptClaims.{OpensForScripts}
use Rattle.scripted_pasts.specs.SpokenCalls.{SpeakBySentences}

module _ {S : Type 0} (fits : Opening → ℕ → ShardCall → Type 0) (stands : Opening → ℕ → ℕ → S → ShardView → Type 0)
    (says : CoreJob → ShardAnswer → JobOutcome → Type 0) (cells : List (CoreCell S)) (caller session : ℕ)
    (own : List CoreEntry) where
  -- It stands behind the session as it is by its own calls: these have left its entries, their posts stand for what its
  -- statements have done, the names for whose codes they ask fit these, and they speak by them. Rounds follow after so
  -- many commits.
  pub record StandsForScript (every : ℕ) (past : CorePast) (state : SessionState) : Type 0 where
    pub stands_there : StandsInCore fits stands says cells caller session own past
    pub posts : PostsStandBehind fits stands says cells caller session (OpensForScripts every) past own state
    pub names : NamesStandBehind fits stands says cells caller session (OpensForScripts every) past own
    pub speaks : SpeakBySentences fits stands says cells caller session past.sentences own
