-- What the flusher does at its mail: one turn after the other, until the mail is closed, and then a last round.
--
--   it takes        and then                                                          it replies
--   no FLUSH        rests
--   a FLUSH         makes a round, where none was lost to the disk                    how that ended
--   a FLUSH         makes none, where one was lost to the disk in an earlier turn     StoreLost
--   closed          makes a last round, where none was lost to the disk
--
-- Source: this project's own.
use Rattle.std.specs.Prelude.{◌≡◌, ℕ, Bool, true, false, List, [], ◌∷◌, ◌++◌, map, flat_map, Option, Some, None}
use Rattle.std.specs.Option.{option_map_or}
use Rattle.cube_core.specs.Links.{AreEventsOf}
use Rattle.cube_core.specs.BoardCells.{IsEntryEvent}
use Rattle.core_program.specs.Knowing.{IsLaterRun}
use Rattle.core_events.specs.Events.{Opening, NoJob, Reply, Take, ClientCall, CoreEvent, By, At}
use Rattle.core_events.specs.Jobs.{CoreJob, Flush, JobOutcome, StoreLost}
use Rattle.core_events.specs.ShardView.{ShardView}
use Rattle.core_program.specs.CoreFits.{CoreEntry}
use Rattle.cube_core.specs.declared.cell.CoreCell.{CoreCell}
use Rattle.cube_core.specs.declared.shard.ShardAnswer.{ShardAnswer}
use Rattle.cube_core.specs.declared.shard.ShardCall.{ShardCall}
use Rattle.flush_loop.specs.RoundResults.{AreOfRound, flush_outcome, loses_store}
use Rattle.flush_loop.specs.declared.round_result.RoundResult.{RoundResult}

-- How a FLUSH is served: by a round of these calls, or by none since the store is lost.
pub data FlushService : Type 0 where
  ByRound : (result : RoundResult) (calls : List ClientCall) → FlushService
  ByLostStore : FlushService

-- In a turn the flusher finds no FLUSH, or takes that of a client and serves it.
pub data FlushTurn : Type 0 where
  FoundNone : FlushTurn
  Served : (to : ℕ) (service : FlushService) → FlushTurn

-- It makes a round where the store is not lost, and then alone.
abbrev pub SuitsStore : Bool → FlushService → Type 0
SuitsStore lost (ByRound result calls) = (lost ≡ false) × AreOfRound result calls
SuitsStore lost ByLostStore = lost ≡ true

-- The store is lost by then.

abbrev pub lost_by_service : Bool → FlushService → Bool
lost_by_service lost (ByRound result calls) = loses_store result
lost_by_service lost ByLostStore = lost

abbrev pub lost_by_turn : Bool → FlushTurn → Bool
lost_by_turn lost FoundNone = lost
lost_by_turn lost (Served to service) = lost_by_service lost service

-- By turns, the newest first. Before the first it is not lost.
abbrev pub lost_by_turns : List FlushTurn → Bool
lost_by_turns [] = false
lost_by_turns (turn ∷ older) = lost_by_turn (lost_by_turns older) turn

abbrev pub SuitsTurn : Bool → FlushTurn → Type 0
SuitsTurn lost FoundNone = Unit {0}
SuitsTurn lost (Served to service) = SuitsStore lost service

abbrev pub AreFlushTurns : List FlushTurn → Type 0
AreFlushTurns [] = Unit {0}
AreFlushTurns (turn ∷ older) = SuitsTurn (lost_by_turns older) turn × AreFlushTurns older

-- The last round, by its calls: none where the store is lost.
abbrev pub IsLastRound : Bool → Option RoundResult → List ClientCall → Type 0
IsLastRound lost (Some result) calls = (lost ≡ false) × AreOfRound result calls
IsLastRound lost None calls = (lost ≡ true) × (calls ≡ [])

-- The store is lost once that has ended.
abbrev pub lost_at_end : Option RoundResult → Bool
lost_at_end result = option_map_or loses_store result true

module _ (client mail : ℕ) where
  -- The events of a turn, the newest first, by the flusher's number as a client and that of its mail.

  abbrev pub service_events : ℕ → FlushService → List CoreEvent
  service_events to (ByRound result calls) =
      At mail (Reply to (flush_outcome result)) ∷ map (λ c. By client c) calls
  service_events to ByLostStore = At mail (Reply to StoreLost) ∷ []

  abbrev pub turn_events : FlushTurn → List CoreEvent
  turn_events FoundNone = At mail (NoJob false) ∷ []
  turn_events (Served to service) = service_events to service ++ At mail (Take to Flush) ∷ []

  abbrev pub all_turn_events : List FlushTurn → List CoreEvent
  all_turn_events turns = flat_map turn_events turns

module _ {S : Type 0} (fits : Opening → ℕ → ShardCall → Type 0) (stands : Opening → ℕ → ℕ → S → ShardView → Type 0)
    (says : CoreJob → ShardAnswer → JobOutcome → Type 0) (cells : List (CoreCell S)) (caller client mail : ℕ) where
  -- In a run the flusher's own calls go on by serving a FLUSH that it took.
  pub record GoOnByService (lost : Bool) (to : ℕ) (lost_now : Bool) (o : Opening) (own : List CoreEntry)
      (es : List CoreEvent) : Type 0 where
    pub before : List CoreEvent
    pub events : AreEventsOf (IsEntryEvent fits stands says o) own before
    pub service : FlushService
    pub suits : SuitsStore lost service
    pub loses : lost_by_service lost service ≡ lost_now
    pub whole : es ≡ service_events client mail to service ++ before

  abbrev pub LearnsOfService : Bool → ℕ → Bool → List CoreEntry → List CoreEntry → Type 0
  LearnsOfService lost to lost_now own now =
      (o : Opening) (log : List CoreEntry) (run es : List CoreEvent)
      → IsLaterRun fits stands says cells o caller now log run → AreEventsOf (IsEntryEvent fits stands says o) now es
      → GoOnByService lost to lost_now o own es

  -- They go on by its last round, if any.
  pub record GoOnByLastRound (lost : Bool) (result : Option RoundResult) (o : Opening) (own : List CoreEntry)
      (es : List CoreEvent) : Type 0 where
    pub before : List CoreEvent
    pub events : AreEventsOf (IsEntryEvent fits stands says o) own before
    pub calls : List ClientCall
    pub last : IsLastRound lost result calls
    pub whole : es ≡ map (λ c. By client c) calls ++ before

  abbrev pub LearnsOfLastRound : Bool → Option RoundResult → List CoreEntry → List CoreEntry → Type 0
  LearnsOfLastRound lost result own now =
      (o : Opening) (log : List CoreEntry) (run es : List CoreEvent)
      → IsLaterRun fits stands says cells o caller now log run → AreEventsOf (IsEntryEvent fits stands says o) now es
      → GoOnByLastRound lost result o own es

  -- They go on by whole turns, then it finds its mail closed, and then comes its last round, if any. So each FLUSH that
  -- it took has its reply.
  pub record GoOnByFlushes (result : Option RoundResult) (o : Opening) (own : List CoreEntry) (es : List CoreEvent)
      : Type 0 where
    pub before : List CoreEvent
    pub events : AreEventsOf (IsEntryEvent fits stands says o) own before
    pub turns : List FlushTurn
    pub are : AreFlushTurns turns
    pub calls : List ClientCall
    pub last : IsLastRound (lost_by_turns turns) result calls
    pub whole : es ≡ map (λ c. By client c) calls
        ++ At mail (NoJob true) ∷ (all_turn_events client mail turns ++ before)

  abbrev pub LearnsOfFlushes : Option RoundResult → List CoreEntry → List CoreEntry → Type 0
  LearnsOfFlushes result own now =
      (o : Opening) (log : List CoreEntry) (run es : List CoreEvent)
      → IsLaterRun fits stands says cells o caller now log run → AreEventsOf (IsEntryEvent fits stands says o) now es
      → GoOnByFlushes result o own es
