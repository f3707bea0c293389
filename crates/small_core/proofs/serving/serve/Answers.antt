use Rattle.std.proofs.Common.{◌+◌, ap}
use Rattle.core_program.specs.Workers.{IsWorkerOf, in_hand}
use Rattle.linked_shards.specs.CellShards.{CoreShardStands}
use Rattle.shard_work.specs.Serving.{HasServedAll}
use Rattle.shard_events.specs.ShardsInRuns.{FitsShard, ShardAnswerSays}
use Rattle.small_core.proofs.serving.serve.Goals as goal

pub work-requires-clause-worker : goal.work-requires-clause-worker
work-requires-clause-worker g c =
    let begins = c.requires.begins in
    let of = begins.core in
    let cells = g.P.CellCaller.opening c.args.caller.now in
    let shards = c.new-size.ensures.shards in
    coe 1 0
    (i. IsWorkerOf FitsShard CoreShardStands ShardAnswerSays cells (begins.by_number i) c.args.number
    (2 + shards i + c.args.number))
    (c.an_opened_core_knows_its_callers.ensures.worker of.kept 2 3 c.args.number cells of.over of.opens
    c.requires.there)

pub work-requires-clause-idle : goal.work-requires-clause-idle
work-requires-clause-idle g c = ap in_hand c.requires.begins.new

pub returns-clause-served : goal.returns-clause-served
returns-clause-served g c =
    let begins = c.requires.begins in
    let shards = c.new-size.ensures.shards in
    coe 0 1
    (i. HasServedAll (begins.by_number i) c.args.number (2 + shards i + c.args.number) (begins.new i)
    (g.P.CellCaller.own c.work.new.caller)) c.work.ensures.served
