-- Rounds of a core that are kept in a store: what the store keeps of a run, and what a round makes of its two disks.
--
--   the round ended      meanwhile two images stand for           and then
--   Safe                 what was kept, or that with the round    for that with the round
--   Idle, NoMemory       what was kept                            for what was kept
--   Lost to memory       what was kept                            for what was kept
--   Lost to a disk       what was kept, or that with the round    for one of the two
--
-- Source: Cubrick (VLDB 2016), flush rounds; AOSI (ICDE 2018), LSE and recovery; two files are this project's own.
use mathlib.Core.List.{IsPrefix}
use Rattle.std.specs.Prelude.{◌≡◌, ◌≤◌, ◌⊎◌, ℕ, true, false, List, [], ◌∷◌, ◌++◌, MatchBool}
use Rattle.aosi_desk.specs.declared.answer.RoundEnd.{RoundEnd}
use Rattle.aosi_desk.specs.declared.answer.RoundEnd.TheVariants as end
use Rattle.cube_journal.specs.declared.journal_entry.LostCause.TheVariants.{Disk}
use Rattle.cube_rounds.specs.Stands.{Kept, kept_with}
use Rattle.cube_rounds.specs.declared.round.Round.{Round}
use Rattle.cube_core.specs.Links.{AreEventsOf}
use Rattle.core_events.specs.Cells.{desk_of}
use Rattle.core_events.specs.Clients.{state_from_calls}
use Rattle.core_events.specs.Events.{Opening, flusher, ClientCall, CoreEvent}
use Rattle.core_events.specs.Runs.{IsCoreRun}
use Rattle.cube_core.specs.BoardCells.{IsEntryEvent}
use Rattle.core_program.specs.CoreFits.{CoreEntry, OpensCells}
use Rattle.cube_core.specs.declared.cell.CoreCell.{CoreCell}
use Rattle.flush_loop.specs.declared.round_result.RoundResult.{RoundResult}
use Rattle.flush_loop.specs.declared.round_result.RoundResult.TheVariants.{Safe, Lost}
use Rattle.flush_round.specs.KeptRounds.{IsToldOfKept, KeepsEither}
use Rattle.following_rounds.specs.FollowingRounds.{IsKeptAfter, OpensForRounds}
use Rattle.linked_shards.specs.CellShards.{CoreShardStands}
use Rattle.shard_events.specs.ShardsInRuns.{FitsShard, ShardAnswerSays}
use Rattle.linked_shards.specs.declared.cell.CoreShard.{CoreShard}
use Rattle.outside.specs.Counts.{Rose}
use Rattle.outside_disk.specs.Views.{View}
use Rattle.round_store.specs.States.{IsAt, goes_second, kept_after, kept_before}
use Rattle.rows_of_rounds.specs.RowsOfRounds.{HasRowsOfRun}
use Rattle.stored_rounds.specs.SafeEpochs.{safe_by_calls}
use Rattle.stored_rounds.specs.declared.stored.StoredRounds.{StoredRounds}

-- A run opens for rounds, in whatever way it opens with the cells.
abbrev pub AlwaysOpenForRounds : List (CoreCell CoreShard) → Type 0
AlwaysOpenForRounds cells = (o : Opening) (log : List CoreEntry) (run : List CoreEvent)
    → OpensCells FitsShard CoreShardStands ShardAnswerSays o cells log
    → AreEventsOf (IsEntryEvent FitsShard CoreShardStands ShardAnswerSays o) log run → IsCoreRun o run
    → OpensForRounds o (desk_of o run).cubes

-- What is kept has the cubes with which a run opened, and the rows that the transactions leave which are committed up to
-- its epoch.
pub record HasContentOfRun (o : Opening) (run : List CoreEvent) (kept : Kept) : Type 0 where
  pub opening : IsPrefix o.cubes kept.cubes
  pub rows : HasRowsOfRun o run kept

-- It is true to a run: its cubes and names are the first of the run's, and it has the content of the run.
pub record IsTrueToRun (o : Opening) (run : List CoreEvent) (kept : Kept) : Type 0 where
  pub first : IsKeptAfter o run kept.cubes kept.names
  pub content : HasContentOfRun o run kept

-- So is a round with what it comes behind.
abbrev pub IsTrueRound : Opening → List CoreEvent → Kept → Round → Type 0
IsTrueRound o run behind round = IsTrueToRun o run (kept_with behind round)

-- What is kept is there in a run with these calls of the flusher, which was told of it. It ends at the latest safe epoch.
pub record IsKeptInRun (kept : Kept) (o : Opening) (run : List CoreEvent) (calls : List ClientCall) : Type 0 where
  pub first : IsKeptAfter o run kept.cubes kept.names
  pub told : IsToldOfKept kept (state_from_calls o (flusher o) calls)
  pub up_to : kept.epoch ≡ safe_by_calls o calls
  pub content : HasContentOfRun o run kept

-- How a round ended that was closed so.
abbrev pub result_of_end : ℕ → RoundEnd → RoundResult
result_of_end epoch end.Safe = Safe epoch
result_of_end epoch (end.Lost cause) = Lost cause

-- Where a round was opened: the store, what it kept, and the flusher's calls by then, the newest first.
pub record RoundStart (D : Type 0) : Type 0 where
  pub store : StoredRounds D
  pub kept : Kept
  pub calls : List ClientCall

module _ {D : Type 0} (view : D → View) where
  -- A store stands on its two disks for what is kept.
  abbrev pub StandsAt : StoredRounds D → Kept → Type 0
  StandsAt m kept = IsAt m.store kept (view m.first) (view m.second)

  -- One of the two disks has failed meanwhile, and counted it.
  abbrev pub HasFailedDisk : StoredRounds D → StoredRounds D → Type 0
  HasFailedDisk before after = Rose (view before.first).faults (view after.first).faults
      ⊎ Rose (view before.second).faults (view after.second).faults

  -- Their counts of faults have not fallen.
  pub record CountsGoOn (before after : StoredRounds D) : Type 0 where
    pub first_count : (view before.first).faults ≤ (view after.first).faults
    pub second_count : (view before.second).faults ≤ (view after.second).faults

  -- A round is added to what is kept: at every moment two images stand for what was kept, or for that with the round. One
  -- of the disks stays as it is.
  pub record AddsTo (kept : Kept) (round : Round) (before after : StoredRounds D) : Type 0 where
    pub at : StandsAt before kept
    pub first_still : goes_second before.store ≡ true → after.first ≡ before.first
    pub second_still : goes_second before.store ≡ false → after.second ≡ before.second
    pub either : KeepsEither before.store kept round (view before.first) (view before.second) (view after.first)
        (view after.second)

  -- A round was lost as it was added, since one of the disks failed. This holds of it with what it comes behind.
  pub record LosesRound (Holds : Kept → Round → Type 0) (kept : Kept) (before after : StoredRounds D) : Type 0 where
    pub round : Round
    pub holds : Holds (kept_before before.store kept) round
    pub adds : AddsTo kept round before after
    pub failed : HasFailedDisk before after

  -- A round up to the epoch was added, of which this holds with what it comes behind, and the store stands for what is kept
  -- with it.
  pub record KeepsRound (Holds : Kept → Round → Type 0) (epoch : ℕ) (kept : Kept) (before after : StoredRounds D)
      : Type 0 where
    pub round : Round
    pub ends : round.epoch ≡ epoch
    pub holds : Holds (kept_before before.store kept) round
    pub adds : AddsTo kept round before after
    pub stands : StandsAt after (kept_after before.store kept round)

  -- What a round that ended so made of a store that stood for what is kept.
  abbrev pub EndsAs : (Kept → Round → Type 0) → RoundResult → Kept → StoredRounds D → StoredRounds D → Type 0
  EndsAs Holds (Safe epoch) kept before after = KeepsRound Holds epoch kept before after
  EndsAs Holds (Lost Disk) kept before after = LosesRound Holds kept before after
  EndsAs Holds result kept before after = StandsAt before kept × (after ≡ before)

  -- A round ended in one way or another.
  pub record IsRoundOn (before after : StoredRounds D) : Type 0 where
    pub result : RoundResult
    pub kept : Kept
    pub ends : EndsAs (λ behind round. Unit {0}) result kept before after

  -- Rounds, one after the other, by what they made of the store.
  abbrev pub AreRoundsOn : StoredRounds D → List (StoredRounds D) → StoredRounds D → Type 0
  AreRoundsOn before [] after = before ≡ after
  AreRoundsOn before (next ∷ steps) after = IsRoundOn before next × AreRoundsOn next steps after

  pub record GoesByRounds (before after : StoredRounds D) : Type 0 where
    pub steps : List (StoredRounds D)
    pub are : AreRoundsOn before steps after

  -- What is kept once a round has ended that was closed so.
  abbrev pub kept_by_end : (Holds : Kept → Round → Type 0) (epoch : ℕ) (how : RoundEnd) (kept : Kept)
      (before after : StoredRounds D) → EndsAs Holds (result_of_end epoch how) kept before after → Kept
  kept_by_end Holds epoch end.Safe kept before after ends = kept_after before.store kept ends.round
  kept_by_end Holds epoch (end.Lost cause) kept before after ends = kept

  module _ (o : Opening) (run : List CoreEvent) where
    -- A round that was opened there, on what was kept of the run by then, was closed in one way or another, and this was
    -- kept. What it added is true to the run, even if it was lost as it was added. The flusher has made more calls since.
    pub record IsRoundOfRun (start : RoundStart D) (after : StoredRounds D) (kept : Kept) (calls : List ClientCall)
        : Type 0 where
      pub behind : IsKeptInRun start.kept o run start.calls
      pub epoch : ℕ
      pub how : RoundEnd
      pub ends : EndsAs (IsTrueRound o run) (result_of_end epoch how) start.kept start.store after
      pub leaves : kept_by_end (IsTrueRound o run) epoch how start.kept start.store after ends ≡ kept
      pub later : List ClientCall
      pub since : calls ≡ later ++ start.calls

    -- Rounds, the newest first, each on the store that the one before it left, and behind what that kept.
    abbrev pub AreRoundsOfRun : StoredRounds D → List (RoundStart D) → StoredRounds D → Kept → List ClientCall → Type 0
    AreRoundsOfRun begun [] now kept calls = begun ≡ now
    AreRoundsOfRun begun (last ∷ older) now kept calls =
        IsRoundOfRun last now kept calls × AreRoundsOfRun begun older last.store last.kept last.calls

    -- By all rounds that the flusher opened the store has come to keep this.
    pub record GoesByRoundsOfRun (begun now : StoredRounds D) (kept : Kept) (calls : List ClientCall) : Type 0 where
      pub starts : List (RoundStart D)
      pub are : AreRoundsOfRun begun starts now kept calls

  -- A round was lost to a disk, which was being added to what is kept of the run. One of the two had failed.
  pub record HasLostRound (m : StoredRounds D) (kept : Kept) (o : Opening) (run : List CoreEvent) : Type 0 where
    pub before : StoredRounds D
    pub round : Round
    pub adds : AddsTo kept round before m
    pub with_round : IsKeptAfter o run (kept_after before.store kept round).cubes (kept_after before.store kept round).names
    pub content : HasContentOfRun o run (kept_after before.store kept round)
    pub failed : HasFailedDisk before m

  -- What is kept of a run with these calls of the flusher: the store stands for it, or was lost as a round was added to it.
  -- It has come to that by rounds of the run since it was begun. Where it was lost, one of its
  -- disks has failed since, and else no count of faults has fallen.
  pub record KeepsOfRun (begun m : StoredRounds D) (kept : Kept) (o : Opening) (run : List CoreEvent)
      (calls : List ClientCall) : Type 0 where
    pub rounds : GoesByRoundsOfRun o run begun m kept calls
    pub in_run : IsKeptInRun kept o run calls
    pub stands : MatchBool (state_from_calls o (flusher o) calls).store_lost (HasLostRound m kept o run) (StandsAt m kept)
    pub counts : MatchBool (state_from_calls o (flusher o) calls).store_lost (HasFailedDisk begun m)
        (CountsGoOn begun m)

  -- Without a round a store stays what it is, and rounds may come after others.

  pub no_rounds : (m : StoredRounds D) → GoesByRounds m m
  no_rounds m = record { steps = []; are = λ i. m }

  both_rounds : (a b c : StoredRounds D) (one two : List (StoredRounds D)) → AreRoundsOn a one b → AreRoundsOn b two c
      → AreRoundsOn a (one ++ two) c
  both_rounds a b c [] two first second = coe 1 0 (i. AreRoundsOn (first i) two c) second
  both_rounds a b c (next ∷ one) two first second = (first.0, both_rounds next b c one two first.1 second)

  pub more_rounds : (a b c : StoredRounds D) → GoesByRounds a b → GoesByRounds b c → GoesByRounds a c
  more_rounds a b c first second = record {
    steps = first.steps ++ second.steps;
    are = both_rounds a b c first.steps second.steps first.are second.are;
  }
