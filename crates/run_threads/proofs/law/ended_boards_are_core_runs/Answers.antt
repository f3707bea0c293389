use Rattle.std.proofs.Common.{◌<◌, length, subst, arith}
use Rattle.cube_core.specs.BoardCells.{StandsInCell}
use Rattle.core_program.specs.CoreFits.{FitsOwnCalls}
use Rattle.cube_core.specs.CoreSteps.{CoreStep}
use Rattle.linked_shards.specs.CellShards.{CoreShardStands, CoreShardStep}
use Rattle.shard_events.specs.ShardsInRuns.{FitsShard, ShardAnswerSays}
use Rattle.turn_board.proofs.Places.{there}
use Rattle.run_threads.proofs.EndedRuns.{is_history, leads_to, opened, value_at, value_is}
use Rattle.run_threads.proofs.law.ended_boards_are_core_runs.Goals as goal

pub returns : goal.returns
returns c o callers opening cells log opens history =
    let step = CoreStep CoreShardStep in let fits = FitsOwnCalls FitsShard CoreShardStands ShardAnswerSays in
    let l = opens.long in let some : 0 < length opening = omega (arith, l) in let d = (there opening 0 some).0 in
    let r = c.histories_are_core_runs.ensures.cells o opening log (value_at d cells) opens
    (is_history step fits callers opening cells log history) (leads_to step fits callers opening cells log history d) in
    record {
      es = r.of.es;
      events = r.of.events;
      run = r.of.run;
      stand = λ k y at. let x = opened step fits callers opening cells log history k y at in
          subst (λ z. StandsInCell FitsShard CoreShardStands ShardAnswerSays o k z r.of.es) (value_is d cells k y at)
          (r.cells k x.0 x.1);
    }
