-- What the maker of rounds has kept of a run once that has ended.
use Rattle.std.proofs.Common.{ℕ, Bool, true, false, List, [], Option, filter, append-nil}
use Rattle.core_events.specs.Events.{Opening}
use Rattle.core_program.specs.CoreFits.{CoreEntry, OpensCells}
use Rattle.flush_loop.specs.MadeRounds.{KeptClaim}
use Rattle.flush_loop.specs.declared.round_result.RoundResult.{RoundResult}
use Rattle.linked_shards.specs.CellShards.{CoreShardStands}
use Rattle.run_ends.proofs.FlusherEvents.{caller_here, calls-among, flushers-events, is_flushers}
use Rattle.run_threads.specs.CoreRuns.{IsRunTo}
use Rattle.run_threads.specs.CoreWorks.{KeepsRounds, OpeningCells}
use Rattle.shard_events.specs.ShardsInRuns.{FitsShard, ShardAnswerSays}
use Rattle.threaded_core.specs.RanCores.{FlusherEnds}
use Rattle.turn_board.specs.History.{of_caller}
use Rattle.played_runs.specs.LeftByRuns.{HasKeptOf}

module _ {M : Type 0} (serves : M → OpeningCells → Type 0) (has_kept : M → M → KeptClaim)
    (becomes : M → M → Type 0) where
  -- Once the flusher has ended the maker has kept what it says, also where the flusher did not begin.
  pub keeps-at-end : (flushed : Bool) (shards sessions : ℕ) (before after : M) (last : Option RoundResult)
      (cells : OpeningCells) (caller : ℕ) (own : List CoreEntry)
      → FlusherEnds serves has_kept becomes flushed shards sessions before after last cells caller own
      → KeepsRounds serves has_kept sessions before before cells caller []
      → KeepsRounds serves has_kept sessions before after cells caller own
  keeps-at-end true shards sessions before after last cells caller own ends first = ends.keeps
  keeps-at-end false shards sessions before after last cells caller own ends first =
      coe 1 0 (i. KeepsRounds serves has_kept sessions before (ends.1 i) cells caller (ends.0 i)) first

  -- So it has in the run that the history is.
  pub kept-in-run : (o : Opening) (begun maker : M) (cells left : OpeningCells) (log : List CoreEntry)
      → OpensCells FitsShard CoreShardStands ShardAnswerSays o cells log → (to : IsRunTo o left log)
      → KeepsRounds serves has_kept o.sessions begun maker cells (caller_here o) (of_caller (caller_here o) log)
      → HasKeptOf has_kept begun maker o to.es
  kept-in-run o begun maker cells left log opens to keeps =
      let holds =
      keeps.kept.in_runs o log to.es (filter (is_flushers o) to.es)
      (record {
        opens = opens;
        begins = ([], append-nil (of_caller (caller_here o) log));
        events = to.events;
        is_run = to.run;
      }) (flushers-events o log to.es to.events)
      in
      record {
        saved = keeps.kept.kept;
        holds = coe 0 1 (i. has_kept begun maker keeps.kept.kept o to.es (calls-among o to.es i)) holds;
      }
