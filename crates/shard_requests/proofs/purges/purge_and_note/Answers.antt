use Rattle.std.proofs.Common.{List, [], ◌∷◌, sym, subst}
use Rattle.std.specs.Bool.{OnFalse, OnTrue}
use Rattle.core_program.specs.Knowing.{IsClientOf, IsSessionOf}
use Rattle.core_program.specs.CoreFits.{CoreEntry}
use Rattle.core_states.proofs.LeftCalls.{left-nothing}
use Rattle.cube_journal.specs.declared.journal_entry.JournalEntry.TheVariants as entry
use Rattle.linked_shards.specs.CellShards.{CoreShardStands}
use Rattle.shard_events.specs.ShardsInRuns.{FitsShard, ShardAnswerSays}
use Rattle.shard_requests.proofs.Onward.{false-then, same-then, true-then}
use Rattle.shard_requests.proofs.RoundsLeave.{left-by-purge}
use Rattle.shard_statements.specs.OverShards.{LeavesOverShards}
use Rattle.shard_requests.proofs.purges.purge_and_note.Goals as goal

pub try_note-requires-clause-client : goal.try_note-requires-clause-client
try_note-requires-clause-client g c =
    coe 1 0 (i. IsClientOf FitsShard CoreShardStands ShardAnswerSays (c.purge_shards.ensures.opening i) (c.purge_shards.ensures.number i)
    c.args.session) c.requires.client

pub try_note-requires-clause-session : goal.try_note-requires-clause-session
try_note-requires-clause-session g c =
    coe 1 0 (i. IsSessionOf FitsShard CoreShardStands ShardAnswerSays (c.purge_shards.ensures.opening i) c.args.session) c.requires.session

pub try_note-requires-clause-ready : goal.try_note-requires-clause-ready
try_note-requires-clause-ready g c =
    (c.requires.ready.0, c.purge_shards.ensures.same.ready c.requires.ready.0 c.requires.ready.1)

pub try_note-requires-clause-may : goal.try_note-requires-clause-may
try_note-requires-clause-may g c = c.in-Ok.ensures.notes c.requires.told.shown c.args.statement

pub returns-in-Ok-clause-same : goal.returns-in-Ok-clause-same
returns-in-Ok-clause-same g c =
    let old = c.args.caller.now in
    let mid = c.purge_shards.new.caller in
    let new = c.try_note.new.caller in
    let opening = g.P.CellCaller.opening in
    let number = g.P.CellCaller.number in
    let own = g.P.CellCaller.own in
    same-then c.args.session (opening old) (number old) (own old) (opening mid) (number mid) (own mid) (opening new) (number new) (own new)
    c.purge_shards.ensures.same c.try_note.ensures.same

pub returns-in-Ok-clause-left : goal.returns-in-Ok-clause-left
returns-in-Ok-clause-left g c =
    let old = c.args.caller.now in
    let mid = c.purge_shards.new.caller in
    let new = c.try_note.new.caller in
    let opening = g.P.CellCaller.opening in
    let number = g.P.CellCaller.number in
    let own = g.P.CellCaller.own in
    let did = c.purge_shards.ensures in
    let added = entry.Purged c.args.session c.args.statement c.args.epoch ∷ [] in
    true-then (opening old) (number old) c.args.session (own old) (own mid) (own new) added c.try_note.result
    (left-by-purge (opening old) (number old) c.args.session (own old) (own mid) c.args.size.now.shards c.args.epoch c.in-Ok.ensures.asked)
    (coe 0 1 (i. OnTrue c.try_note.result (LeavesOverShards (did.opening i) (did.number i) c.args.session (own mid) (own new) added))
    c.try_note.ensures.left)

pub returns-in-Ok-clause-stopped : goal.returns-in-Ok-clause-stopped
returns-in-Ok-clause-stopped g c =
    let old = c.args.caller.now in
    let mid = c.purge_shards.new.caller in
    let new = c.try_note.new.caller in
    let opening = g.P.CellCaller.opening in
    let number = g.P.CellCaller.number in
    let own = g.P.CellCaller.own in
    let did = c.purge_shards.ensures in
    false-then (opening old) (number old) c.args.session (own old) (own mid) (own new) c.try_note.result
    (left-by-purge (opening old) (number old) c.args.session (own old) (own mid) c.args.size.now.shards c.args.epoch c.in-Ok.ensures.asked)
    (coe 0 1 (i. OnFalse c.try_note.result (LeavesOverShards (did.opening i) (did.number i) c.args.session (own mid) (own new) []))
    c.try_note.ensures.stopped)

pub returns-in-Err-clause-stopped : goal.returns-in-Err-clause-stopped
returns-in-Err-clause-stopped g c =
    let old = c.args.caller.now in
    let opening = g.P.CellCaller.opening in
    let number = g.P.CellCaller.number in
    let own = g.P.CellCaller.own in
    subst (λ (l : List CoreEntry). LeavesOverShards (opening old) (number old) c.args.session (own old) l []) (sym c.in-Err.ensures.err)
    (left-nothing FitsShard CoreShardStands ShardAnswerSays (opening old) (number old) c.args.session (own old))
