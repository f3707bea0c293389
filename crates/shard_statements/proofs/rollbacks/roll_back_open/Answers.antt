use Rattle.core_program.specs.Knowing.{IsSessionOf}
use Rattle.std.proofs.Common.{◌+◌, [], ◌∷◌, refl, arith}
use Rattle.core_states.proofs.Refused.{counted, either-plain, if-refused, refuses-memory}
use Rattle.core_states.specs.ExecutedInCore.{ExecutesInCore}
use Rattle.core_states.specs.LeftBehind.{LeavesBehind}
use Rattle.core_states.specs.StandingInCore.{HoldsForMode}
use Rattle.cube_journal.specs.declared.journal_entry.JournalEntry.TheVariants as entry
use Rattle.cube_journal.specs.declared.refusal.Refusal.TheVariants as refusal
use Rattle.cube_journal.specs.declared.reply.Reply.{Reply}
use Rattle.cube_language.specs.declared.statement.Statement.TheVariants.{Rollback}
use Rattle.cube_run.specs.RunRecords.{Says}
use Rattle.session_desk.specs.Executed.{IfReplied, OnStopped}
use Rattle.session_replies.specs.Modes.{mode_of}
use Rattle.shard_statements.proofs.Executing.{rolls-back}
use Rattle.linked_shards.specs.CellShards.{CoreShardStands}
use Rattle.shard_events.specs.ShardsInRuns.{FitsShard, ShardAnswerSays}
use Rattle.shard_statements.proofs.rollbacks.roll_back_open.Goals as goal

pub returns-in-Ok-clause-executed : goal.returns-in-Ok-clause-executed
returns-in-Ok-clause-executed g c =
    rolls-back (g.P.CellCaller.opening c.args.caller.now) (g.P.CellCaller.number c.args.caller.now) c.args.session.now (g.P.CellCaller.own c.args.caller.now)
    (g.P.CellCaller.own c.take_back_open.new.caller) c.in-Ok.epoch c.in-Ok.ensures.epoch c.in-Ok.ensures.left

pub returns-in-Ok-clause-plain : goal.returns-in-Ok-clause-plain
returns-in-Ok-clause-plain g c = c.in-Ok.ensures.left.plain

pub returns-in-Ok-clause-more : goal.returns-in-Ok-clause-more
returns-in-Ok-clause-more g c =
    let few = c.requires.counted in
    record { number = refl; statements = refl; every = refl; counted = omega (arith, few) }

pub returns-in-Err-clause-more : goal.returns-in-Err-clause-more
returns-in-Err-clause-more g c =
    let few = c.requires.counted in
    record { number = refl; statements = refl; every = refl; counted = omega (arith, few) }

pub refuse_plainly-requires-clause-holds : goal.refuse_plainly-requires-clause-holds
refuse_plainly-requires-clause-holds g c =
    coe 1 0 (i. HoldsForMode FitsShard CoreShardStands ShardAnswerSays (c.take_back_open.ensures.opening i) (c.take_back_open.ensures.number i) c.args.session.now.number
    (c.in-Err.ensures.err i) (mode_of c.args.session.now.mode)) c.requires.holds

pub returns-in-Err-clause-executed : goal.returns-in-Err-clause-executed
returns-in-Err-clause-executed g c =
    let session = c.args.session.now in
    let own = (g.P.CellCaller.own c.args.caller.now) in
    let now = g.P.CellCaller.own c.refuse_plainly.new.caller in
    if-refused FitsShard CoreShardStands ShardAnswerSays (g.P.CellCaller.opening c.args.caller.now) (g.P.CellCaller.number c.args.caller.now) session own now
    c.refuse_plainly.result refusal.NoMemory
    (ExecutesInCore FitsShard CoreShardStands ShardAnswerSays (g.P.CellCaller.opening c.args.caller.now) (g.P.CellCaller.number c.args.caller.now) (Says Rollback)
    session own (counted session) now)
    c.refuse_plainly.ensures.said
    (coe 0 1 (i. IfReplied c.refuse_plainly.result (λ (said : Reply). LeavesBehind FitsShard CoreShardStands ShardAnswerSays
    (c.take_back_open.ensures.opening i) (c.take_back_open.ensures.number i) session.number (c.in-Err.ensures.err i) now
    (entry.Refused session.number (session.statements + 1) 16 ∷ []))) c.refuse_plainly.ensures.left)
    (λ left. refuses-memory FitsShard CoreShardStands ShardAnswerSays (g.P.CellCaller.opening c.args.caller.now) (g.P.CellCaller.number c.args.caller.now) session own now (Says Rollback) left)

pub returns-in-Err-clause-stopped : goal.returns-in-Err-clause-stopped
returns-in-Err-clause-stopped g c =
    coe 0 1 (i. OnStopped c.refuse_plainly.result (LeavesBehind FitsShard CoreShardStands ShardAnswerSays
    (c.take_back_open.ensures.opening i) (c.take_back_open.ensures.number i) c.args.session.now.number (c.in-Err.ensures.err i)
    (g.P.CellCaller.own c.refuse_plainly.new.caller) [])) c.refuse_plainly.ensures.stopped

pub returns-in-Err-clause-plain : goal.returns-in-Err-clause-plain
returns-in-Err-clause-plain g c =
    let session = c.args.session.now in
    let now = g.P.CellCaller.own c.refuse_plainly.new.caller in
    let added = entry.Refused session.number (session.statements + 1) 16 ∷ [] in
    either-plain FitsShard CoreShardStands ShardAnswerSays (g.P.CellCaller.opening c.args.caller.now) (g.P.CellCaller.number c.args.caller.now)
    session.number (g.P.CellCaller.own c.args.caller.now) now added c.refuse_plainly.result
    (coe 0 1 (i. IfReplied c.refuse_plainly.result (λ (said : Reply). LeavesBehind FitsShard CoreShardStands ShardAnswerSays
    (c.take_back_open.ensures.opening i) (c.take_back_open.ensures.number i) session.number (c.in-Err.ensures.err i) now added)) c.refuse_plainly.ensures.left)
    (coe 0 1 (i. OnStopped c.refuse_plainly.result (LeavesBehind FitsShard CoreShardStands ShardAnswerSays
    (c.take_back_open.ensures.opening i) (c.take_back_open.ensures.number i) session.number (c.in-Err.ensures.err i) now [])) c.refuse_plainly.ensures.stopped)

pub refuse_plainly-requires-clause-session : goal.refuse_plainly-requires-clause-session
refuse_plainly-requires-clause-session g c =
    coe 1 0 (i. IsSessionOf FitsShard CoreShardStands ShardAnswerSays (c.take_back_open.ensures.opening i) c.args.session.now.number)
    c.requires.session
