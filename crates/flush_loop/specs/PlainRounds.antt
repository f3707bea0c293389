-- A round without a store: it is opened, and closed as safe.
-- Source: this project's own.
use Rattle.std.specs.Prelude.{ℕ, false, List, [], ◌∷◌, ◌≡◌, Option, Some, None}
use Rattle.aosi_desk.specs.declared.answer.RoundAnswer.{RoundAnswer}
use Rattle.aosi_desk.specs.declared.answer.RoundAnswer.TheVariants.{Target, Nothing}
use Rattle.aosi_desk.specs.declared.answer.RoundEnd.TheVariants as end
use Rattle.core_program.specs.ClientCalls.{desk_entry}
use Rattle.core_cells.specs.declared.desk.DeskAnswer.TheVariants as answer
use Rattle.core_cells.specs.declared.desk.DeskCall.TheVariants as call
use Rattle.core_program.specs.Knowing.{Knows}
use Rattle.core_events.specs.Clients.{state_from_calls}
use Rattle.core_events.specs.Events.{Opening, flusher, ClientCall}
use Rattle.core_events.specs.Jobs.{CoreJob, JobOutcome}
use Rattle.core_events.specs.ShardView.{ShardView}
use Rattle.core_program.specs.CoreFits.{CoreEntry}
use Rattle.cube_core.specs.declared.cell.CoreCell.{CoreCell}
use Rattle.cube_core.specs.declared.shard.ShardAnswer.{ShardAnswer}
use Rattle.cube_core.specs.declared.shard.ShardCall.{ShardCall}
use Rattle.flush_loop.specs.MadeRounds.{KnowsBetween}
use Rattle.flush_loop.specs.declared.round_result.RoundResult.{RoundResult}
use Rattle.flush_loop.specs.declared.round_result.RoundResult.TheVariants.{Safe, Idle, NoMemory}
use Rattle.flusher_rounds.specs.RoundStates.{HasRound}

-- By the flusher's calls in a run no round was lost to a disk.
abbrev pub HasLostNone : Opening → List ClientCall → Type 0
HasLostNone o calls = (state_from_calls o (flusher o) calls).store_lost ≡ false

-- How it then ended, by what the desk answered. None: it was out of memory.
abbrev pub result_of_opening : Option RoundAnswer → RoundResult
result_of_opening (Some (Target from epoch)) = Safe epoch
result_of_opening (Some (Nothing epoch)) = Idle epoch
result_of_opening None = NoMemory

-- The calls that close it.
abbrev pub closing_entries : ℕ → Option RoundAnswer → List CoreEntry
closing_entries caller (Some (Target from epoch)) =
    desk_entry caller (call.RoundClose epoch end.Safe) answer.Done ∷ []
closing_entries caller asked = []

module _ {S : Type 0} (fits : Opening → ℕ → ShardCall → Type 0) (stands : Opening → ℕ → ℕ → S → ShardView → Type 0)
    (says : CoreJob → ShardAnswer → JobOutcome → Type 0) (cells : List (CoreCell S)) (caller client : ℕ) where
  -- After that answer the flusher has a round, or is between two rounds.
  abbrev pub KnowsAfterOpening : Option RoundAnswer → List CoreEntry → Type 0
  KnowsAfterOpening (Some (Target from epoch)) own = Knows fits stands says cells caller client own
      (λ o calls. HasRound o from epoch (state_from_calls o client calls))
  KnowsAfterOpening asked own = KnowsBetween fits stands says cells caller client false own
