-- How main ends a run on threads in which the sessions had begun: they have ended, and the flusher, and then main has
-- all shards purge.
-- Source: AOSI (ICDE 2018), purge up to LSE; that main has the shards purge at the end of a run is this project's own.
use Rattle.std.specs.Prelude.{◌≡◌, ℕ, ◌+◌, ◌≤◌, Bool, true, List, [], Some}
use mathlib.Core.List.{IsPrefix}
use Rattle.cube_journal.specs.declared.counters.Counters.{Counters}
use Rattle.core_events.specs.Events.{Opening, IsSession, flusher, flush_mail, CoreEvent}
use Rattle.core_events.specs.Runs.{IsCoreRun}
use Rattle.core_program.specs.CoreFits.{CoreEntry, FitsOwnCalls, OpensCells}
use Rattle.cube_core.specs.BoardCells.{IsEntryEvent, server_of}
use Rattle.cube_core.specs.CoreSteps.{CoreStep}
use Rattle.cube_core.specs.Links.{AreEventsOf}
use Rattle.flush_loop.specs.FlushTurns.{LearnsOfFlushes}
use Rattle.flush_loop.specs.declared.round_result.RoundResult.{RoundResult}
use Rattle.linked_shards.specs.CellShards.{CoreShardStands, CoreShardStep}
use Rattle.shard_events.specs.ShardsInRuns.{FitsShard, ShardAnswerSays}
use Rattle.shut_shards.specs.ShutShards.{CellsStand}
use Rattle.threaded_callers.specs.Ends.{IsHistoryTo}
use Rattle.run_threads.specs.CoreWorks.{HasClosedShards, OpeningCells}
use Rattle.turn_board.specs.History.{of_caller}

-- The caller that is the flusher.
abbrev pub flusher_caller : ℕ → ℕ → ℕ
flusher_caller shards sessions = sessions + 1 + shards

-- A caller that has ended when main purges: a session or the flusher.
pub data EndsBefore (shards sessions : ℕ) : ℕ → Type 0 where
  a_session : (caller : ℕ) → 1 ≤ caller → caller ≤ sessions → EndsBefore shards sessions caller
  the_flusher : EndsBefore shards sessions (flusher_caller shards sessions)

-- At a moment of the history the sessions and the flusher had made all their calls. Main went on from there: it read
-- these counters, had all shards purge up to their LSE, and closed the mails.
pub record EndsByPurge (shards sessions : ℕ) (counters : Counters) (opening : OpeningCells) (log : List CoreEntry)
    : Type 0 where
  pub moment : List CoreEntry
  pub goes_on : IsPrefix moment log
  pub ended : (caller : ℕ) → EndsBefore shards sessions caller → of_caller caller moment ≡ of_caller caller log
  pub ends : HasClosedShards shards true (Some counters) opening (of_caller 0 moment) (of_caller 0 log)

-- A run on threads that main ended so: how it opens, the cells that it leaves, its history, and the events of this.
pub record IsEndedRun (o : Opening) (counters : Counters) (callers : ℕ) (opening cells : OpeningCells)
    (log : List CoreEntry) (es : List CoreEvent) : Type 0 where
  pub opens : OpensCells FitsShard CoreShardStands ShardAnswerSays o opening log
  pub history : IsHistoryTo (CoreStep CoreShardStep) (FitsOwnCalls FitsShard CoreShardStands ShardAnswerSays) callers
      opening cells log
  pub events : AreEventsOf (IsEntryEvent FitsShard CoreShardStands ShardAnswerSays o) log es
  pub run : IsCoreRun o es
  pub stand : CellsStand o cells es
  pub ends : EndsByPurge o.shards o.sessions counters opening log

-- Nothing is above the LSE that the counters show.
abbrev pub ShowAllSafe : Counters → Type 0
ShowAllSafe counters = counters.ec ≡ counters.lse + 1

-- The sessions had made all their calls at a moment before main's first, and the flusher has made those of its loop,
-- with a last round that ended so.
pub record FlushesLast (o : Opening) (how : RoundResult) (opening : OpeningCells) (log : List CoreEntry) : Type 0 where
  pub moment : List CoreEntry
  pub goes_on : IsPrefix moment log
  pub main_waits : of_caller 0 moment ≡ []
  pub played : (session : ℕ) → IsSession o session → of_caller session moment ≡ of_caller session log
  pub flushed : LearnsOfFlushes FitsShard CoreShardStands ShardAnswerSays opening (server_of o (flush_mail o))
      (flusher o) (flush_mail o) (Some how) [] (of_caller (server_of o (flush_mail o)) log)
