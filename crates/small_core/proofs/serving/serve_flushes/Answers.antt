use Rattle.std.proofs.Common.{◌+◌, List, refl, subst, arith}
use Rattle.core_events.specs.Clients.{calls_of}
use Rattle.core_events.specs.Events.{CoreEvent}
use Rattle.cube_core.specs.BoardCells.{IsEntryEvent}
use Rattle.cube_core.specs.Links.{AreEventsOf}
use Rattle.core_program.specs.Knowing.{IsMailAt}
use Rattle.core_program.specs.Flushing.{IsFlusherOf}
use Rattle.flush_loop.specs.FlushTurns.{LearnsOfFlushes}
use Rattle.flush_loop.specs.PlainRounds.{HasLostNone}
use Rattle.job_groups.specs.AskedEach.{AreShardMails}
use Rattle.linked_shards.specs.CellShards.{CoreShardStands}
use Rattle.shard_events.specs.ShardsInRuns.{FitsShard, ShardAnswerSays}
use Rattle.small_core.proofs.NewFlusher.{has-no-flush}
use Rattle.small_core.proofs.serving.serve_flushes.Goals as goal

pub flush_loop-requires-clause-flusher : goal.flush_loop-requires-clause-flusher
flush_loop-requires-clause-flusher g c =
    let begins = c.requires.begins in
    let of = begins.core in
    let size = c.new-size.ensures in
    coe 1 0
    (i. IsFlusherOf FitsShard CoreShardStands ShardAnswerSays (g.P.CellCaller.opening c.args.caller.now)
    (begins.by_number i) (size.sessions i + 1) (size.shards i))
    (c.an_opened_core_knows_its_callers.ensures.flusher of.kept 2 3 (g.P.CellCaller.opening c.args.caller.now) of.over
    of.opens)

pub flush_loop-requires-clause-mail : goal.flush_loop-requires-clause-mail
flush_loop-requires-clause-mail g c =
    let of = c.requires.begins.core in
    let shards = c.new-size.ensures.shards in
    coe 1 0
    (i. IsMailAt FitsShard CoreShardStands ShardAnswerSays (g.P.CellCaller.opening c.args.caller.now) (shards i)
    (2 + shards i + shards i))
    (c.an_opened_core_knows_its_callers.ensures.mail of.kept 2 3 2 (g.P.CellCaller.opening c.args.caller.now) of.over
    (omega arith))

pub flush_loop-requires-clause-mails : goal.flush_loop-requires-clause-mails
flush_loop-requires-clause-mails g c =
    let of = c.requires.begins.core in
    let size = c.new-size.ensures in
    coe 1 0
    (i. AreShardMails FitsShard CoreShardStands ShardAnswerSays (g.P.CellCaller.opening c.args.caller.now)
    (size.sessions i + 1) (size.shards i) (2 + size.shards i))
    (c.an_opened_core_knows_its_callers.ensures.mails of.kept 2 3 4 (g.P.CellCaller.opening c.args.caller.now) of.over
    (omega arith))

pub flush_loop-requires-clause-kept : goal.flush_loop-requires-clause-kept
flush_loop-requires-clause-kept g c =
    let begins = c.requires.begins in (
      record {},
      record {
        kept = begins.core.kept;
        in_runs = λ o log run es later are.
            subst (λ (l : List CoreEvent). HasLostNone o (calls_of (c.new-size.result.sessions + 1) l))
            (coe 0 1 (i. AreEventsOf (IsEntryEvent FitsShard CoreShardStands ShardAnswerSays o) (begins.new i) es) are) refl;
      },
    )

pub flush_loop-requires-clause-free : goal.flush_loop-requires-clause-free
flush_loop-requires-clause-free g c =
    has-no-flush (g.P.CellCaller.opening c.args.caller.now) (g.P.CellCaller.number c.args.caller.now)
    (g.P.CellCaller.own c.args.caller.now) c.requires.begins.new

pub returns-clause-learns : goal.returns-clause-learns
returns-clause-learns g c =
    let begins = c.requires.begins in
    let size = c.new-size.ensures in
    coe 0 1
    (i. LearnsOfFlushes FitsShard CoreShardStands ShardAnswerSays (g.P.CellCaller.opening c.args.caller.now)
    (begins.by_number i) (size.sessions i + 1) (size.shards i) c.flush_loop.result (begins.new i)
    (g.P.CellCaller.own c.flush_loop.new.caller)) c.flush_loop.ensures.learns
