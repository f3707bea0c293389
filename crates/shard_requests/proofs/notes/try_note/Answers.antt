use Rattle.core_cells.specs.declared.desk.DeskAnswer.TheVariants as answer
use Rattle.core_cells.specs.declared.desk.DeskCall.TheVariants as call
use Rattle.core_states.proofs.LeftCalls.{left-by-call}
use Rattle.linked_shards.specs.CellShards.{CoreShardStands}
use Rattle.shard_events.specs.ShardsInRuns.{FitsShard, ShardAnswerSays}
use Rattle.shard_requests.proofs.notes.try_note.Goals as goal

pub returns-in-Some-clause-left : goal.returns-in-Some-clause-left
returns-in-Some-clause-left g c =
    left-by-call FitsShard CoreShardStands ShardAnswerSays (g.P.CellCaller.opening c.args.caller.now) (g.P.CellCaller.number c.args.caller.now)
    c.args.session c.requires.client (g.P.CellCaller.own c.args.caller.now) (g.P.CellCaller.own c.leave_note.new.caller) 0
    (call.Note c.args.note) (answer.Counted c.in-Some.field-0) c.in-Some.ensures.own (λ o log run es later are. tt) (λ k. tt)

pub returns-in-None-clause-stopped : goal.returns-in-None-clause-stopped
returns-in-None-clause-stopped g c =
    left-by-call FitsShard CoreShardStands ShardAnswerSays (g.P.CellCaller.opening c.args.caller.now) (g.P.CellCaller.number c.args.caller.now)
    c.args.session c.requires.client (g.P.CellCaller.own c.args.caller.now) (g.P.CellCaller.own c.leave_note.new.caller) 0
    (call.Note c.args.note) answer.NoMemory c.in-None.ensures.own (λ o log run es later are. tt) (λ k. tt)
