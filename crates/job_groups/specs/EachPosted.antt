-- A group of each shard, with what it has posted.
-- Source: Cubrick (VLDB 2016), one request that goes to all shards; the rest is this project's own.
use Rattle.std.specs.Prelude.{◌≡◌, ℕ, ◌+◌, List, [], ◌∷◌, ◌++◌}
use Rattle.cube_core.specs.Links.{AreEventsOf}
use Rattle.cube_core.specs.BoardCells.{IsEntryEvent, call_job}
use Rattle.core_program.specs.Knowing.{IsLaterRun}
use Rattle.core_events.specs.Events.{Opening, Post, ClientCall, CoreEvent}
use Rattle.core_events.specs.Jobs.{CoreJob, JobOutcome}
use Rattle.core_events.specs.ShardView.{ShardView}
use Rattle.core_program.specs.CoreFits.{CoreEntry}
use Rattle.cube_core.specs.declared.cell.CoreCell.{CoreCell}
use Rattle.cube_core.specs.declared.jobs.JobAnswer.{JobAnswer}
use Rattle.cube_core.specs.declared.shard.ShardAnswer.{ShardAnswer}
use Rattle.cube_core.specs.declared.shard.ShardCall.{ShardCall}
use Rattle.job_groups.specs.AskedEach.{HasAskedEach}
use Rattle.job_groups.specs.AskedSome.{posts_among}

-- A post of each call's job, to one shard after the other from a number on, the newest first.
abbrev pub posts_from : ℕ → List ShardCall → List ClientCall
posts_from number [] = []
posts_from number (c ∷ calls) = posts_from (number + 1) calls ++ Post number (call_job c) ∷ []

module _ {S : Type 0} (fits : Opening → ℕ → ShardCall → Type 0) (stands : Opening → ℕ → ℕ → S → ShardView → Type 0)
    (says : CoreJob → ShardAnswer → JobOutcome → Type 0) where
  -- In a run the client has asked each shard: it has posted these calls, and then made no other posts.
  pub record HasPostedEach (o : Opening) (client : ℕ) (calls : List ShardCall) (answers : List JobAnswer)
      (own : List CoreEntry) (es : List CoreEvent) : Type 0 where
    pub asked : HasAskedEach fits stands says o client calls answers own es
    pub later : List ClientCall
    pub order : asked.added ≡ later ++ posts_from 0 calls
    pub none : posts_among later ≡ []

  -- So it is in each run in which its own calls begin with these.
  abbrev pub LearnsOfEach : List (CoreCell S) → ℕ → ℕ → List ShardCall → List JobAnswer → List CoreEntry
      → List CoreEntry → Type 0
  LearnsOfEach cells caller client calls answers own now =
      (o : Opening) (log : List CoreEntry) (run es : List CoreEvent)
      → IsLaterRun fits stands says cells o caller now log run → AreEventsOf (IsEntryEvent fits stands says o) now es
      → HasPostedEach o client calls answers own es
