use Rattle.std.proofs.Common.{◌+◌, [], ◌∷◌}
use Rattle.std.specs.Bool.{OnFalse, OnTrue}
use Rattle.core_program.specs.Knowing.{IsClientOf, IsSessionOf}
use Rattle.core_cells.specs.declared.desk.DeskAnswer.TheVariants as answer
use Rattle.core_cells.specs.declared.desk.DeskCall.TheVariants as call
use Rattle.core_states.proofs.LeftCalls.{left-by-call}
use Rattle.cube_journal.specs.declared.journal_entry.JournalEntry.TheVariants as entry
use Rattle.cube_journal.specs.declared.note.Note.TheVariants as note
use Rattle.job_groups.specs.AskedEach.{AreShardMails}
use Rattle.linked_shards.specs.CellShards.{CoreShardStands}
use Rattle.session_requests.specs.SessionRequests.{IsToldSafe}
use Rattle.shard_events.specs.ShardsInRuns.{FitsShard, ShardAnswerSays}
use Rattle.shard_requests.proofs.Onward.{follows-noted, same-then, stops-at-once, stops-noted}
use Rattle.shard_statements.specs.OverShards.{LeavesOverShards}
use Rattle.shard_requests.proofs.rounds.note_round.Goals as goal

pub purge_and_note-requires-clause-client : goal.purge_and_note-requires-clause-client
purge_and_note-requires-clause-client g c =
    coe 1 0 (i. IsClientOf FitsShard CoreShardStands ShardAnswerSays (c.leave_note.ensures.opening i) (c.leave_note.ensures.number i)
    c.args.session) c.requires.client

pub purge_and_note-requires-clause-session : goal.purge_and_note-requires-clause-session
purge_and_note-requires-clause-session g c =
    coe 1 0 (i. IsSessionOf FitsShard CoreShardStands ShardAnswerSays (c.leave_note.ensures.opening i) c.args.session) c.requires.session

pub purge_and_note-requires-clause-mails : goal.purge_and_note-requires-clause-mails
purge_and_note-requires-clause-mails g c =
    let shards = c.args.size.now.shards in
    coe 1 0 (i. AreShardMails FitsShard CoreShardStands ShardAnswerSays (c.leave_note.ensures.opening i) c.args.session shards (2 + shards))
    c.requires.mails

pub purge_and_note-requires-clause-ready : goal.purge_and_note-requires-clause-ready
purge_and_note-requires-clause-ready g c =
    (c.requires.ready.0, c.leave_note.ensures.same.ready c.requires.ready.0 c.requires.ready.1)

pub purge_and_note-requires-clause-told : goal.purge_and_note-requires-clause-told
purge_and_note-requires-clause-told g c =
    let old = c.args.caller.now in
    let opening = g.P.CellCaller.opening in
    let number = g.P.CellCaller.number in
    let own = g.P.CellCaller.own in
    let did = c.leave_note.ensures in
    coe 1 0 (i. IsToldSafe (did.opening i) (did.number i) c.args.session (c.in-Some.ensures.own i) c.in-Some.counters.lse)
    (c.sessions_know_the_lse_they_saw.ensures.noted (opening old) (number old) c.args.session (own old)
    (note.Flushed c.args.session c.args.statement) c.in-Some.counters c.requires.client)

pub returns-in-Some-clause-same : goal.returns-in-Some-clause-same
returns-in-Some-clause-same g c =
    let old = c.args.caller.now in
    let mid = c.leave_note.new.caller in
    let new = c.purge_and_note.new.caller in
    let opening = g.P.CellCaller.opening in
    let number = g.P.CellCaller.number in
    let own = g.P.CellCaller.own in
    same-then c.args.session (opening old) (number old) (own old) (opening mid) (number mid) (own mid) (opening new) (number new) (own new)
    c.leave_note.ensures.same c.purge_and_note.ensures.same

pub returns-in-Some-clause-followed : goal.returns-in-Some-clause-followed
returns-in-Some-clause-followed g c =
    let old = c.args.caller.now in
    let mid = c.leave_note.new.caller in
    let new = c.purge_and_note.new.caller in
    let opening = g.P.CellCaller.opening in
    let number = g.P.CellCaller.number in
    let own = g.P.CellCaller.own in
    let did = c.leave_note.ensures in
    follows-noted (opening old) (number old) c.args.session c.args.statement (own old) (own mid) (own new) c.in-Some.counters.lse
    c.purge_and_note.result
    (left-by-call FitsShard CoreShardStands ShardAnswerSays (opening old) (number old) c.args.session c.requires.client (own old) (own mid) 0
    (call.Note (note.Flushed c.args.session c.args.statement)) (answer.Counted c.in-Some.counters) c.in-Some.ensures.own
    (λ o log run es later are. tt) (λ k. tt))
    (coe 0 1 (i. OnTrue c.purge_and_note.result (LeavesOverShards (did.opening i) (did.number i) c.args.session (own mid) (own new)
    (entry.Purged c.args.session c.args.statement c.in-Some.counters.lse ∷ []))) c.purge_and_note.ensures.left)

pub returns-in-Some-clause-stopped : goal.returns-in-Some-clause-stopped
returns-in-Some-clause-stopped g c =
    let old = c.args.caller.now in
    let mid = c.leave_note.new.caller in
    let new = c.purge_and_note.new.caller in
    let opening = g.P.CellCaller.opening in
    let number = g.P.CellCaller.number in
    let own = g.P.CellCaller.own in
    let did = c.leave_note.ensures in
    stops-noted (opening old) (number old) c.args.session c.args.statement (own old) (own mid) (own new) c.purge_and_note.result
    (left-by-call FitsShard CoreShardStands ShardAnswerSays (opening old) (number old) c.args.session c.requires.client (own old) (own mid) 0
    (call.Note (note.Flushed c.args.session c.args.statement)) (answer.Counted c.in-Some.counters) c.in-Some.ensures.own
    (λ o log run es later are. tt) (λ k. tt))
    (coe 0 1 (i. OnFalse c.purge_and_note.result (LeavesOverShards (did.opening i) (did.number i) c.args.session (own mid) (own new) []))
    c.purge_and_note.ensures.stopped)

pub returns-in-None-clause-stopped : goal.returns-in-None-clause-stopped
returns-in-None-clause-stopped g c =
    let old = c.args.caller.now in
    let mid = c.leave_note.new.caller in
    let opening = g.P.CellCaller.opening in
    let number = g.P.CellCaller.number in
    let own = g.P.CellCaller.own in
    stops-at-once (opening old) (number old) c.args.session c.args.statement (own old) (own mid)
    (left-by-call FitsShard CoreShardStands ShardAnswerSays (opening old) (number old) c.args.session c.requires.client (own old) (own mid) 0
    (call.Note (note.Flushed c.args.session c.args.statement)) answer.NoMemory c.in-None.ensures.own
    (λ o log run es later are. tt) (λ k. tt))
