-- A core that ran on threads: the one history of all calls, the run that it is, what each caller did, and in which
-- order they ended.
-- Source: linearizability (Herlihy and Wing, 1990) makes one list of the calls of all threads; Cubrick (VLDB 2016),
-- one thread a shard and rounds of a flush; what main does at the end is own.
use Rattle.std.specs.Prelude.{◌≡◌, ℕ, ◌+◌, ◌<◌, ◌≤◌, Bool, MatchBool, List, [], length, slice_index_or, Option, None}
use mathlib.Core.List.{IsPrefix}
use Rattle.core_events.specs.Events.{Opening}
use Rattle.core_program.specs.CoreFits.{CoreEntry, FitsOwnCalls, OpensCells}
use Rattle.cube_core.specs.CoreSteps.{CoreStep}
use Rattle.cube_core.specs.declared.cell.CoreAnswer.{CoreAnswer}
use Rattle.cube_core.specs.declared.cell.CoreCall.{CoreCall}
use Rattle.cube_core.specs.declared.cell.CoreCell.{CoreCell}
use Rattle.cube_rounds.specs.Stands.{Kept}
use Rattle.flush_loop.specs.MadeRounds.{KeptClaim}
use Rattle.flush_loop.specs.declared.round_result.RoundResult.{RoundResult}
use Rattle.linked_shards.specs.CellShards.{CoreShardStands, CoreShardStep}
use Rattle.linked_shards.specs.declared.cell.CoreShard.{CoreShard}
use Rattle.opened_core.specs.Openings.{AreCellsOver, OpenOver}
use Rattle.run_threads.specs.CoreWorks.{HasClosedFlusher, HasClosedShards, HasFlushedAll, KeepsRounds, OpeningCells}
use Rattle.shard_events.specs.ShardsInRuns.{FitsShard, ShardAnswerSays}
use Rattle.shard_work.specs.Serving.{HasServedAll}
use Rattle.threaded_callers.specs.Ends.{IsHistoryTo, WorkDone}
use Rattle.turn_board.specs.History.{of_caller}
use Rattle.threaded_core.specs.CallerEnds.{EndsBy}
use Rattle.threaded_core.specs.CoreParts.{HoldParts, IsLeftByRun}
use Rattle.threaded_core.specs.declared.cores.RanCore.{RanCore}
use Rattle.threaded_core.specs.declared.cores.ReadyCore.{ReadyCore}

-- The cells are those of a core that opened over what was kept, and a run opens with them.
pub record AreOpenedCells (shards sessions : ℕ) (cells : OpeningCells) : Type 0 where
  pub kept : Kept
  pub over : AreCellsOver kept shards sessions cells
  pub opens : OpenOver kept shards sessions cells

-- What has to hold before a work of a session begins: of the work, how many callers there are, the cells, and the
-- caller's number. And what it was then done by: of the work before and after, the cells, the number, and all calls.

abbrev pub SessionMay : Type 0 → Type 1
SessionMay W = W → ℕ → OpeningCells → ℕ → Type 0

abbrev pub SessionDone : Type 0 → Type 1
SessionDone W = WorkDone (CoreCell CoreShard) CoreCall CoreAnswer W

module _ {W M : Type 0} (may : SessionMay W) (serves : M → OpeningCells → Type 0) (has_kept : M → M → KeptClaim) where
  -- A core with these cells may run: each session may begin with its work, and what makes the rounds has kept what it
  -- says.
  pub record MayRun (shards sessions : ℕ) (cells : OpeningCells) (works : List W) (maker : M) : Type 0 where
    pub some : 1 ≤ shards
    pub opened : AreOpenedCells shards sessions cells
    pub as_many : length works ≡ sessions
    pub begin : (k : ℕ) (d : W) → k < sessions → may (slice_index_or works k d) (sessions + 2 + shards) cells (1 + k)
    pub keeps : KeepsRounds serves has_kept sessions maker maker cells (sessions + 1 + shards) []

module _ {M : Type 0} (serves : M → OpeningCells → Type 0) (has_kept : M → M → KeptClaim) (becomes : M → M → Type 0) where
  -- By these calls the flusher served its mail and made its last round, where it began; else there are none, and no
  -- round.
  abbrev pub FlusherEnds : Bool → ℕ → ℕ → M → M → Option RoundResult → OpeningCells → ℕ → List CoreEntry → Type 0
  FlusherEnds began shards sessions before after last cells caller own = MatchBool began
      (HasFlushedAll serves has_kept becomes shards sessions before after last cells caller own)
      ((own ≡ []) × (after ≡ before) × (last ≡ None))

module _ {W M : Type 0} (done : SessionDone W) (serves : M → OpeningCells → Type 0) (has_kept : M → M → KeptClaim)
    (becomes : M → M → Type 0) (shards sessions : ℕ) (cells : OpeningCells) (works : List W) (maker : M)
    (ran : RanCore W M) where
  -- First the sessions ended, and then main closed the flusher's mail. The flusher ended, and then main had the shards
  -- purge, where the sessions had begun, and closed their mails. The history stood at `played` once the sessions had
  -- ended, and at `flushed` once the flusher had.
  pub record EndInOrder (log : List CoreEntry) : Type 0 where
    pub played : List CoreEntry
    pub flushed : List CoreEntry
    pub before_flusher : IsPrefix played flushed
    pub before_main : IsPrefix flushed log
    pub main_waits : of_caller 0 played ≡ []
    pub as_many : length ran.sessions.items ≡ sessions
    pub plays : (k : ℕ) (d : W) → k < sessions
        → EndsBy done cells played log ran.began (1 + k) (slice_index_or works k d)
        (slice_index_or ran.sessions.items k d)
    pub stops : HasClosedFlusher shards sessions (sessions + 2 + shards) cells (of_caller 0 flushed)
    pub all_rounds : of_caller (sessions + 1 + shards) flushed ≡ of_caller (sessions + 1 + shards) log
    pub flushes : FlusherEnds serves has_kept becomes ran.flushed shards sessions maker ran.maker ran.last_round cells
        (sessions + 1 + shards) (of_caller (sessions + 1 + shards) log)
    pub closes : HasClosedShards shards ran.began ran.counters cells (of_caller 0 flushed) (of_caller 0 log)

  -- There is one history of the calls of main, the sessions, the workers and the flusher. However a run opens with the
  -- cells, the history is a run, which made of the cells what is left of them. Each worker served its mail until that
  -- was closed.
  pub record HasRunOnThreads : Type 0 where
    pub log : List CoreEntry
    pub left : List (CoreCell CoreShard)
    pub history : IsHistoryTo (CoreStep CoreShardStep) (FitsOwnCalls FitsShard CoreShardStands ShardAnswerSays)
        (sessions + 2 + shards) cells left log
    pub parts : HoldParts left ran.left.desk ran.left.names ran.left.shards.items
    pub runs : (o : Opening) → OpensCells FitsShard CoreShardStands ShardAnswerSays o cells log
        → IsLeftByRun o log left ran.left
    pub order : EndInOrder log
    pub workers : (number : ℕ) → number < shards
        → HasServedAll (sessions + 1 + number) number (2 + shards + number) [] (of_caller (sessions + 1 + number) log)

-- A core that did not run is as it was.
pub record IsAsItWas {W M : Type 0} (before after : ReadyCore W M) : Type 0 where
  pub size : after.size ≡ before.size
  pub cells : after.cells.items ≡ before.cells.items
  pub sessions : after.sessions ≡ before.sessions
  pub maker : after.maker ≡ before.maker
