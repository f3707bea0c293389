use Rattle.std.proofs.Common.{Option, IfNone, IfSome, inl, sym, subst}
use Rattle.core_changes.proofs.BegunChanges.{nothing-at, nothing-left}
use Rattle.core_inserts.proofs.BegunInserts.{if-none, open-if-not, ready-if-put}
use Rattle.cube_journal.specs.declared.journal_entry.AbortCause.{AbortCause}
use Rattle.cube_schema.specs.Schemas.{cube_of}
use Rattle.session_snapshots.specs.KnownHolds.{HoldsWriter}
use Rattle.linked_shards.specs.CellShards.{CoreShardStands}
use Rattle.core_changes.proofs.GroupCalls.{by-putting}
use Rattle.posted_changes.proofs.LearnedPosts.{nothing-elsewhere, rows-learned}
use Rattle.session_groups.specs.ShardGroups.{HoldsOpenWriter}
use Rattle.shard_events.specs.ShardsInRuns.{FitsShard, ShardAnswerSays}
use Rattle.core_inserts.proofs.putting.failure_of_put.Goals as goal

pub put_told_rows-requires-clause-some : goal.put_told_rows-requires-clause-some
put_told_rows-requires-clause-some g c = c.requires.served.some

pub put_told_rows-requires-clause-client : goal.put_told_rows-requires-clause-client
put_told_rows-requires-clause-client g c = c.requires.served.client

pub put_told_rows-requires-clause-session : goal.put_told_rows-requires-clause-session
put_told_rows-requires-clause-session g c = c.requires.served.is_session

pub put_told_rows-requires-clause-mails : goal.put_told_rows-requires-clause-mails
put_told_rows-requires-clause-mails g c = c.requires.served.mails

pub put_told_rows-requires-clause-storable : goal.put_told_rows-requires-clause-storable
put_told_rows-requires-clause-storable g c = c.requires.served.storable

pub returns-in-Ok-clause-left : goal.returns-in-Ok-clause-left
returns-in-Ok-clause-left g c =
    by-putting (g.P.CellCaller.opening c.args.caller.now) (g.P.CellCaller.number c.args.caller.now) c.args.session
    c.args.number c.args.statement.now (g.P.CellCaller.own c.args.caller.now)
    (g.P.CellCaller.own c.put_told_rows.new.caller) c.args.size.now.shards c.args.place c.args.writer.now.epoch
    (cube_of c.args.cube.now) c.args.rows.rows c.in-Ok.end c.put_told_rows.ensures.more c.in-Ok.ensures.learns

pub returns-in-Ok-clause-operations : goal.returns-in-Ok-clause-operations
returns-in-Ok-clause-operations g c =
    if-none c.cause_of_put.result
    (rows-learned (g.P.CellCaller.opening c.args.caller.now) (g.P.CellCaller.number c.args.caller.now) c.args.session
    c.args.size.now.shards c.args.place c.args.writer.now.epoch (cube_of c.args.cube.now) c.args.rows.rows c.in-Ok.end
    (g.P.CellCaller.own c.args.caller.now) (g.P.CellCaller.own c.put_told_rows.new.caller) c.in-Ok.ensures.learns)

pub returns-in-Ok-clause-at_epoch : goal.returns-in-Ok-clause-at_epoch
returns-in-Ok-clause-at_epoch g c =
    nothing-elsewhere (g.P.CellCaller.opening c.args.caller.now) (g.P.CellCaller.number c.args.caller.now)
    c.args.session c.args.size.now.shards c.args.place c.args.writer.now.epoch (cube_of c.args.cube.now)
    c.args.rows.rows c.in-Ok.end
    (g.P.CellCaller.own c.args.caller.now) (g.P.CellCaller.own c.put_told_rows.new.caller) c.in-Ok.ensures.learns

pub returns-in-Ok-clause-holds : goal.returns-in-Ok-clause-holds
returns-in-Ok-clause-holds g c =
    let new = c.put_told_rows.new.caller in
    let opening = g.P.CellCaller.opening new in
    let number = g.P.CellCaller.number new in
    let own = g.P.CellCaller.own new in
    subst (λ (o : Option AbortCause). IfNone o (HoldsWriter FitsShard CoreShardStands ShardAnswerSays opening number
    c.args.session own c.args.writer.now)) (sym c.cause_of_put.ensures.cause)
    (ready-if-put opening number c.args.session own c.args.writer.now c.in-Ok.end c.in-Ok.ensures.holds)

pub returns-in-Ok-clause-open : goal.returns-in-Ok-clause-open
returns-in-Ok-clause-open g c =
    let new = c.put_told_rows.new.caller in
    let opening = g.P.CellCaller.opening new in
    let number = g.P.CellCaller.number new in
    let own = g.P.CellCaller.own new in
    subst (λ (o : Option AbortCause). IfSome o (λ cause. HoldsOpenWriter opening number c.args.session own
    c.args.writer.now)) (sym c.cause_of_put.ensures.cause)
    (open-if-not opening number c.args.session own c.args.writer.now c.in-Ok.end c.in-Ok.ensures.holds)

pub returns-in-Err-clause-left : goal.returns-in-Err-clause-left
returns-in-Err-clause-left g c =
    nothing-left (g.P.CellCaller.opening c.args.caller.now) (g.P.CellCaller.number c.args.caller.now) c.args.session
    c.args.number c.args.statement.now (g.P.CellCaller.own c.args.caller.now)
    (g.P.CellCaller.own c.put_told_rows.new.caller) c.in-Err.ensures.err

pub returns-in-Err-clause-at_epoch : goal.returns-in-Err-clause-at_epoch
returns-in-Err-clause-at_epoch g c =
    nothing-at (g.P.CellCaller.opening c.args.caller.now) (g.P.CellCaller.number c.args.caller.now) c.args.session
    c.args.number c.args.statement.now (g.P.CellCaller.own c.args.caller.now)
    (g.P.CellCaller.own c.put_told_rows.new.caller) c.in-Err.ensures.err c.args.writer.now.epoch

pub returns-in-Err-clause-open : goal.returns-in-Err-clause-open
returns-in-Err-clause-open g c =
    let did = c.put_told_rows.ensures in
    inl (coe 1 0 (i. HoldsWriter FitsShard CoreShardStands ShardAnswerSays (did.opening i) (did.number i) c.args.session
    (c.in-Err.ensures.err i) c.args.writer.now) c.requires.holds)
