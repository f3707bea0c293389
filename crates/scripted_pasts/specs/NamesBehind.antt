-- What a session of the core has behind it fits the dictionaries in which each run ends that goes on from there.
-- Source: Cubrick (VLDB 2016), dictionaries of dimensions. A promise of what was done speaks of every run that begins
-- with it, as with prophecy variables (Abadi and Lamport, 1991).
use Rattle.std.specs.Prelude.{◌⊎◌, ℕ, List}
use Rattle.core_events.specs.Clients.{calls_of}
use Rattle.core_events.specs.Events.{Opening, CoreEvent}
use Rattle.core_events.specs.Jobs.{CoreJob, JobOutcome}
use Rattle.core_events.specs.ShardView.{ShardView}
use Rattle.core_program.specs.CoreFits.{CoreEntry}
use Rattle.core_records.specs.CoreRecords.{RunScripts, record_of}
use Rattle.core_states.specs.CorePasts.{CorePast}
use Rattle.core_states.specs.RunsFrom.{RunClaim}
use Rattle.cube_core.specs.BoardCells.{IsEntryEvent}
use Rattle.cube_core.specs.Links.{AreEventsOf}
use Rattle.cube_core.specs.declared.cell.CoreCell.{CoreCell}
use Rattle.cube_core.specs.declared.shard.ShardAnswer.{ShardAnswer}
use Rattle.cube_core.specs.declared.shard.ShardCall.{ShardCall}
use Rattle.cube_language.specs.declared.decl.Decl.{Decl}
use Rattle.cube_language.specs.declared.decl.DimDecl.{DimDecl}
use Rattle.cube_run.specs.FinalNames.{HasDimension, Offers}
use Rattle.cube_run.specs.RunRecords.{RunRecord}
use Rattle.scripted_pasts.specs.AskedTexts.{IsAskedForBy}
use Rattle.scripted_pasts.specs.NamesStand.{NamesStand}
use Rattle.posted_pasts.specs.PostsBehind.{IsRunWithCalls}

module _ {S : Type 0} (fits : Opening → ℕ → ShardCall → Type 0) (stands : Opening → ℕ → ℕ → S → ShardView → Type 0)
    (says : CoreJob → ShardAnswer → JobOutcome → Type 0) where
  -- The events of the calls come after those of earlier calls, and each text for which the session asks by them, and
  -- not already by the earlier ones, is offered.
  pub record AsksMoreOffered (run : RunRecord) (o : Opening) (session : ℕ) (own : List CoreEntry) (es : List CoreEvent)
      : Type 0 where
    pub before : List CoreEvent
    pub events : AreEventsOf (IsEntryEvent fits stands says o) own before
    pub offered : (cube place : ℕ) (d : Decl) (dim : DimDecl) (text : List ℕ) → HasDimension run cube place d dim
        → IsAskedForBy (calls_of session es) cube place text
        → IsAskedForBy (calls_of session before) cube place text ⊎ Offers run d dim place text

  module _ (cells : List (CoreCell S)) (caller session : ℕ) (besides : RunClaim) (past : CorePast) where
    -- In each run that goes on from what is behind the session, and of which this is asked besides, its own calls so
    -- far and the statements behind fit the dictionaries in the end.
    abbrev pub NamesStandBehind : List CoreEntry → Type 0
    NamesStandBehind own = (o : Opening) (given : RunScripts) (events es : List CoreEvent)
        → IsRunWithCalls fits stands says cells caller session besides past own o given events es
        → NamesStand (record_of o given events) session past.sentences (calls_of session es)

    -- In each such run it asks from these calls to those for no text but what is offered.
    abbrev pub AskForMoreOffered : List CoreEntry → List CoreEntry → Type 0
    AskForMoreOffered own now = (o : Opening) (given : RunScripts) (events es : List CoreEvent)
        → IsRunWithCalls fits stands says cells caller session besides past now o given events es
        → AsksMoreOffered (record_of o given events) o session own es
