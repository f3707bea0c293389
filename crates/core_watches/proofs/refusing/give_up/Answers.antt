use Rattle.std.proofs.Common.{[], ◌∷◌}
use Rattle.core_watches.proofs.WatchingLeaves.{left-closing}
use Rattle.core_watches.specs.WatchEnds.{no_memory_entry, reader_closed}
use Rattle.core_states.proofs.Holding.{held_for, holds-on, ready-for-mode}
use Rattle.core_states.proofs.LeftCalls.{longer-front}
use Rattle.core_watches.proofs.RefusedSo.{then-refused-so}
use Rattle.core_watches.specs.KeptWatches.{IsRefusedSo}
use Rattle.cube_journal.specs.declared.refusal.Refusal.TheVariants as cause
use Rattle.linked_shards.specs.CellShards.{CoreShardStands}
use Rattle.scripted_pasts.specs.Served.{IsServed}
use Rattle.session_desk.specs.Executed.{IfReplied}
use Rattle.session_replies.specs.Modes.{mode_of}
use Rattle.shard_events.specs.ShardsInRuns.{FitsShard, ShardAnswerSays}
use Rattle.watch_holds.specs.HolderStates.{NoReader, OneReader}
use Rattle.core_watches.proofs.refusing.give_up.Goals as goal

pub close_holder-requires-clause-client : goal.close_holder-requires-clause-client
close_holder-requires-clause-client g c = c.requires.served.client

pub close_holder-requires-clause-session : goal.close_holder-requires-clause-session
close_holder-requires-clause-session g c = c.requires.served.is_session

pub close_holder-requires-clause-ready : goal.close_holder-requires-clause-ready
close_holder-requires-clause-ready g c =
    let mode = mode_of c.args.session.now.mode in
    let before = c.args.caller.now in (
      held_for mode,
      ready-for-mode FitsShard CoreShardStands ShardAnswerSays (g.P.CellCaller.opening before) (g.P.CellCaller.number before)
          c.args.session.now.number (g.P.CellCaller.own before) mode c.requires.holds,
    )

pub refuse_so-requires-clause-served : goal.refuse_so-requires-clause-served
refuse_so-requires-clause-served g c =
    coe 1 0 (i. IsServed (c.close_holder.ensures.opening i) (c.close_holder.ensures.number i) c.args.session.now.number
    c.args.size.now.shards) c.requires.served

pub refuse_so-requires-clause-holds : goal.refuse_so-requires-clause-holds
refuse_so-requires-clause-holds g c =
    let before = c.args.caller.now in
    let mid = c.close_holder.new.caller in
    holds-on FitsShard CoreShardStands ShardAnswerSays (g.P.CellCaller.opening before) (g.P.CellCaller.number before)
    c.args.session.now.number (g.P.CellCaller.own before) (g.P.CellCaller.opening mid) (g.P.CellCaller.number mid)
    (g.P.CellCaller.own mid) (mode_of c.args.session.now.mode) c.close_holder.ensures.same c.requires.holds

pub returns-clause-prefix : goal.returns-clause-prefix
returns-clause-prefix g c =
    let own = g.P.CellCaller.own in
    longer-front (own c.args.caller.now) (own c.close_holder.new.caller) (own c.refuse_so.new.caller)
    (left-closing (g.P.CellCaller.opening c.args.caller.now) (g.P.CellCaller.number c.args.caller.now) c.args.session.now.number
    c.requires.served.client c.args.holder c.args.session.now.statements (own c.args.caller.now) (own c.close_holder.new.caller)
    c.close_holder.ensures.own).more
    c.refuse_so.ensures.prefix

pub returns-clause-last : goal.returns-clause-last
returns-clause-last g c = λ epoch have. c.refuse_so.ensures.holders NoReader (c.close_holder.ensures.last epoch have)

pub returns-clause-newer : goal.returns-clause-newer
returns-clause-newer g c = λ older from to have.
    c.refuse_so.ensures.holders (OneReader older from) (c.close_holder.ensures.newer older from to have)

pub returns-clause-refused : goal.returns-clause-refused
returns-clause-refused g c =
    let own = g.P.CellCaller.own in
    let before = c.args.caller.now in
    let mid = c.close_holder.new.caller in
    let session = c.args.session.now in
    let closed = c.close_holder.ensures in
    then-refused-so (g.P.CellCaller.opening before) (g.P.CellCaller.number before) session.number (own before) (own mid)
    (own c.refuse_so.new.caller) (reader_closed session c.args.holder ∷ []) (no_memory_entry session ∷ []) cause.NoMemory
    c.refuse_so.result
    (left-closing (g.P.CellCaller.opening before) (g.P.CellCaller.number before) session.number c.requires.served.client
    c.args.holder session.statements (own before) (own mid) closed.own)
    (coe 0 1 (i. IfReplied c.refuse_so.result (IsRefusedSo (closed.opening i) (closed.number i) session.number (own mid)
    (own c.refuse_so.new.caller) (no_memory_entry session ∷ []) cause.NoMemory)) c.refuse_so.ensures.refused)
