use Rattle.core_cells.specs.declared.desk.DeskAnswer.TheVariants as answer
use Rattle.core_cells.specs.declared.desk.DeskCall.TheVariants as call
use Rattle.core_states.proofs.Holding.{held_for, holds-on, ready-for-mode}
use Rattle.core_states.proofs.LeftCalls.{left-by-call}
use Rattle.cube_journal.specs.declared.note.Note.TheVariants as note
use Rattle.linked_shards.specs.CellShards.{CoreShardStands}
use Rattle.session_replies.specs.Modes.{mode_of}
use Rattle.shard_events.specs.ShardsInRuns.{FitsShard, ShardAnswerSays}
use Rattle.shard_requests.proofs.requests.note_flush.Goals as goal

pub leave_note-requires-clause-ready : goal.leave_note-requires-clause-ready
leave_note-requires-clause-ready g c =
    let mode = mode_of c.args.session.now.mode in (
      held_for mode,
      ready-for-mode FitsShard CoreShardStands ShardAnswerSays (g.P.CellCaller.opening c.args.caller.now)
          (g.P.CellCaller.number c.args.caller.now) c.args.session.now.number (g.P.CellCaller.own c.args.caller.now) mode c.requires.holds,
    )

pub returns-in-Some-clause-holds : goal.returns-in-Some-clause-holds
returns-in-Some-clause-holds g c =
    let after = c.leave_note.new.caller in
    holds-on FitsShard CoreShardStands ShardAnswerSays (g.P.CellCaller.opening c.args.caller.now) (g.P.CellCaller.number c.args.caller.now)
    c.args.session.now.number (g.P.CellCaller.own c.args.caller.now) (g.P.CellCaller.opening after) (g.P.CellCaller.number after)
    (g.P.CellCaller.own after) (mode_of c.args.session.now.mode) c.leave_note.ensures.same c.requires.holds

pub returns-in-None-clause-holds : goal.returns-in-None-clause-holds
returns-in-None-clause-holds g c =
    let after = c.leave_note.new.caller in
    holds-on FitsShard CoreShardStands ShardAnswerSays (g.P.CellCaller.opening c.args.caller.now) (g.P.CellCaller.number c.args.caller.now)
    c.args.session.now.number (g.P.CellCaller.own c.args.caller.now) (g.P.CellCaller.opening after) (g.P.CellCaller.number after)
    (g.P.CellCaller.own after) (mode_of c.args.session.now.mode) c.leave_note.ensures.same c.requires.holds

pub returns-in-None-clause-stopped : goal.returns-in-None-clause-stopped
returns-in-None-clause-stopped g c =
    left-by-call FitsShard CoreShardStands ShardAnswerSays (g.P.CellCaller.opening c.args.caller.now) (g.P.CellCaller.number c.args.caller.now)
    c.args.session.now.number c.requires.client (g.P.CellCaller.own c.args.caller.now) (g.P.CellCaller.own c.leave_note.new.caller) 0
    (call.Note (note.Flushed c.args.session.now.number c.args.session.now.statements)) answer.NoMemory c.in-None.ensures.own
    (λ o log run es later are. tt) (λ k. tt)
