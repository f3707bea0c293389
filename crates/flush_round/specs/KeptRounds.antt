-- The flusher's open round and a store: what has to hold before it is copied, and what the store then holds.
-- Source: Cubrick (VLDB 2016), flush rounds; AOSI (ICDE 2018), the latest safe epoch; two files are this project's own.
use Rattle.std.specs.Prelude.{◌≡◌, ℕ, List, [], length, map, take, Result, Ok, Err, if◌then◌else◌}
use Rattle.aosi_desk.specs.declared.answer.RoundEnd.{RoundEnd}
use Rattle.aosi_desk.specs.declared.answer.RoundEnd.TheVariants as end
use Rattle.cube_journal.specs.declared.journal_entry.LostCause.TheVariants.{Disk, Memory}
use Rattle.cube_rounds.specs.Stands.{Kept}
use Rattle.cube_rounds.specs.declared.round.Round.{Round}
use Rattle.cube_schema.specs.Schemas.{cube_of}
use Rattle.cube_values.specs.declared.call_error.CallError.{CallError}
use Rattle.cube_values.specs.declared.call_error.CallError.TheVariants as error
use Rattle.cube_values.specs.declared.shape.CubeShape.{CubeShape}
use Rattle.copied_rounds.specs.CopiedRounds.{AreKeptInRuns, OpenForRounds}
use Rattle.core_events.specs.Clients.{ClientState}
use Rattle.core_events.specs.Events.{Opening}
use Rattle.core_program.specs.CoreFits.{CoreEntry}
use Rattle.cube_core.specs.declared.cell.CoreCell.{CoreCell}
use Rattle.linked_shards.specs.declared.cell.CoreShard.{CoreShard}
use Rattle.outside_disk.specs.Views.{View, LeavesOnly}
use Rattle.outside_disk.specs.declared.disk.Failed.{Failed}
use Rattle.round_copies.specs.RoundCopies.{IsCopiedRound, IsToldOf, first_epoch}
use Rattle.round_copies.specs.WithinRounds.{KnowsOfFlusher}
use Rattle.round_copies.specs.declared.span.RoundSpan.{RoundSpan}
use Rattle.round_store.specs.Counts.{counts_of}
use Rattle.round_store.specs.States.{IsAt, StandForEither, StoreState, WhereTold, kept_after, kept_before, wants_whole}

-- The cubes and the names behind which the next round comes: a whole one comes behind the header's cubes alone.

abbrev pub shapes_before : StoreState → List CubeShape
shapes_before s = if wants_whole s then take s.declared (map cube_of s.cubes) else map cube_of s.cubes

abbrev pub counts_before : StoreState → List (List ℕ)
counts_before s = if wants_whole s then [] else s.counts

-- How a round ends that was added to the store so.
abbrev pub end_of : Result Unit (CallError Failed) → RoundEnd
end_of (Ok done) = end.Safe
end_of (Err error.NoMemory) = end.Lost Memory
end_of (Err (error.Fault failed)) = end.Lost Disk

module _ (cells : List (CoreCell CoreShard)) (caller : ℕ) (own : List CoreEntry) where
  -- This is kept of each run with these calls.
  abbrev pub IsKeptOfRuns : Kept → Type 0
  IsKeptOfRuns kept = (o : Opening) → AreKeptInRuns cells o caller own kept.cubes kept.names

  -- The store stands on two disks for what is kept of each such run, and each of them opens for rounds. The next round
  -- begins where the store ends, and a whole one at the beginning.
  pub record TakesRound (s : StoreState) (kept : Kept) (span : RoundSpan) (first second : View) : Type 0 where
    pub at : IsAt s kept first second
    pub of_runs : IsKeptOfRuns (kept_before s kept)
    pub open_for : (o : Opening) → OpenForRounds cells o caller own
    pub begins : first_epoch span ≡ (kept_before s kept).epoch

-- While a round is added, a crash leaves files that stand for what was kept or for what is kept with the round.
pub record KeepsEither (s : StoreState) (kept : Kept) (round : Round) (first second new_first new_second : View)
    : Type 0 where
  pub on_first : WhereTold first second (λ f g. LeavesOnly first new_first
      (λ c. StandForEither kept (kept_after s kept round) c g))
  pub on_second : WhereTold first second (λ f g. LeavesOnly second new_second
      (λ d. StandForEither kept (kept_after s kept round) f d))

-- What the flusher was told of: the cubes that are kept, and their names.
abbrev pub IsToldOfKept : Kept → ClientState → Type 0
IsToldOfKept kept k = IsToldOf (length kept.cubes) (counts_of kept.names) k

module _ (cells : List (CoreCell CoreShard)) (caller client : ℕ) (before now : List CoreEntry) (s new : StoreState)
    (kept : Kept) (span : RoundSpan) (first second new_first new_second : View) where
  -- A round of what the flusher copied by calls behind those before, over the store's cubes and names. With it as much is
  -- kept of each run with these calls, and the flusher was told of that.
  pub record AddsRound : Type 0 where
    pub round : Round
    pub ends : round.epoch ≡ span.epoch
    pub copied : IsCopiedRound cells caller client before now span (shapes_before s) (counts_before s) round
    pub of_runs : IsKeptOfRuns cells caller now (kept_after s kept round)
    pub told : KnowsOfFlusher cells caller client now (λ o k. IsToldOfKept (kept_after s kept round) k)
    pub either : KeepsEither s kept round first second new_first new_second

  -- The store stands for what is kept with it.
  pub record HoldsRound : Type 0 where
    pub adds : AddsRound
    pub at : IsAt new (kept_after s kept adds.round) new_first new_second

  -- By how the round ended.
  abbrev pub HoldsAfterEnd : RoundEnd → Type 0
  HoldsAfterEnd end.Safe = HoldsRound
  HoldsAfterEnd (end.Lost Disk) = AddsRound
  HoldsAfterEnd (end.Lost Memory) = Unit {0}
