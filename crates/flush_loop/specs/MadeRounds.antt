-- What the flusher knows before and after a round, by its own calls.
-- Source: Cubrick (VLDB 2016), rounds of a flush; what is known by own calls is this project's own.
use Rattle.std.specs.Prelude.{◌≡◌, ℕ, Bool, List, ◌++◌, map}
use Rattle.cube_rounds.specs.Stands.{Kept}
use Rattle.cube_core.specs.Links.{AreEventsOf}
use Rattle.cube_core.specs.BoardCells.{IsEntryEvent}
use Rattle.core_program.specs.Knowing.{IsLaterRun, Knows}
use Rattle.core_events.specs.Clients.{calls_of, state_from_calls}
use Rattle.core_events.specs.Events.{Opening, ClientCall, CoreEvent, By}
use Rattle.core_events.specs.Jobs.{CoreJob, JobOutcome}
use Rattle.core_events.specs.ShardView.{ShardView}
use Rattle.core_program.specs.CoreFits.{CoreEntry}
use Rattle.cube_core.specs.declared.cell.CoreCell.{CoreCell}
use Rattle.cube_core.specs.declared.shard.ShardAnswer.{ShardAnswer}
use Rattle.cube_core.specs.declared.shard.ShardCall.{ShardCall}
use Rattle.flush_loop.specs.RoundResults.{AreOfRound}
use Rattle.flush_loop.specs.declared.round_result.RoundResult.{RoundResult}
use Rattle.flusher_rounds.specs.RoundStates.{IsBetweenRounds, IsInRound}

-- A claim on what is kept, a run of the core and the flusher's calls in it, the newest first.
abbrev pub KeptClaim : Type 1
KeptClaim = Kept → Opening → List CoreEvent → List ClientCall → Type 0

module _ {S : Type 0} (fits : Opening → ℕ → ShardCall → Type 0) (stands : Opening → ℕ → ℕ → S → ShardView → Type 0)
    (says : CoreJob → ShardAnswer → JobOutcome → Type 0) (cells : List (CoreCell S)) (caller client : ℕ) where
  -- The flusher is between two rounds, and has lost the store or has not.
  abbrev pub KnowsBetween : Bool → List CoreEntry → Type 0
  KnowsBetween lost own = Knows fits stands says cells caller client own
      (λ o calls. IsBetweenRounds o lost (state_from_calls o client calls))

  -- It has this round open, however far that has come, and no answer is out.
  abbrev pub KnowsWithin : ℕ → ℕ → List CoreEntry → Type 0
  KnowsWithin from epoch own = Knows fits stands says cells caller client own
      (λ o calls. (has_cubes : Bool) × IsInRound from epoch has_cubes (state_from_calls o client calls))

  -- Of something that is kept the claim holds, in each run in which its own calls begin with these.
  pub record HoldsInRuns (Holds : KeptClaim) (own : List CoreEntry) : Type 0 where
    pub kept : Kept
    pub in_runs : (o : Opening) (log : List CoreEntry) (run es : List CoreEvent)
        → IsLaterRun fits stands says cells o caller own log run → AreEventsOf (IsEntryEvent fits stands says o) own es
        → Holds kept o run (calls_of client es)

  module _ {M : Type 0} (has_kept : M → M → KeptClaim) where
    -- Since it was begun, whatever it then was, a maker of rounds has kept what it says.
    abbrev pub HasKeptSince : M → List CoreEntry → Type 0
    HasKeptSince maker own = (begun : M) × HoldsInRuns (has_kept begun maker) own

    -- Whatever it had kept since it was begun, it has kept by more calls as well.
    abbrev pub GoesOnKeeping : M → M → List CoreEntry → List CoreEntry → Type 0
    GoesOnKeeping before after own now =
        (begun : M) → HoldsInRuns (has_kept begun before) own → HoldsInRuns (has_kept begun after) now

  -- Its calls go on by those of a round that ended so.
  pub record GoOnByOwnRound (result : RoundResult) (o : Opening) (own : List CoreEntry) (es : List CoreEvent)
      : Type 0 where
    pub before : List CoreEvent
    pub events : AreEventsOf (IsEntryEvent fits stands says o) own before
    pub calls : List ClientCall
    pub whole : es ≡ map (λ c. By client c) calls ++ before
    pub of_round : AreOfRound result calls

  -- So it is in each such run.
  abbrev pub LearnsOfOwnRound : RoundResult → List CoreEntry → List CoreEntry → Type 0
  LearnsOfOwnRound result own now =
      (o : Opening) (log : List CoreEntry) (run es : List CoreEvent)
      → IsLaterRun fits stands says cells o caller now log run → AreEventsOf (IsEntryEvent fits stands says o) now es
      → GoOnByOwnRound result o own es
