use Rattle.std.proofs.Common.{◌+◌, true, [], ◌∷◌, refl, arith}
use Rattle.std.specs.Bool.{OnFalse, OnTrue}
use Rattle.core_program.specs.Knowing.{IsClientOf, IsSessionOf}
use Rattle.cube_core.specs.declared.jobs.FlushAnswer.TheVariants as flush
use Rattle.cube_journal.specs.declared.journal_entry.JournalEntry.TheVariants as entry
use Rattle.cube_journal.specs.declared.note.Note.TheVariants as note
use Rattle.cube_run.specs.StatementEntries.{round_lost, round_without_memory}
use Rattle.job_groups.specs.AskedEach.{AreShardMails}
use Rattle.linked_shards.specs.CellShards.{CoreShardStands}
use Rattle.shard_events.specs.ShardsInRuns.{FitsShard, ShardAnswerSays}
use Rattle.shard_requests.proofs.Onward.{false-then, follows-refused, follows-then, same-then, stops-false, stops-then, true-then}
use Rattle.shard_requests.proofs.RoundsLeave.{left-by-round}
use Rattle.shard_requests.specs.RoundsAfter.{HasFollowed, HasStoppedInRound}
use Rattle.shard_statements.specs.OverShards.{LeavesOverShards}
use Rattle.shard_requests.proofs.rounds.round_after_commit.Goals as goal

pub note_round-requires-clause-client : goal.note_round-requires-clause-client
note_round-requires-clause-client g c =
    coe 1 0 (i. IsClientOf FitsShard CoreShardStands ShardAnswerSays (c.ask_flush.ensures.opening i) (c.ask_flush.ensures.number i)
    c.args.session) c.requires.client

pub note_round-requires-clause-session : goal.note_round-requires-clause-session
note_round-requires-clause-session g c =
    coe 1 0 (i. IsSessionOf FitsShard CoreShardStands ShardAnswerSays (c.ask_flush.ensures.opening i) c.args.session) c.requires.session

pub note_round-requires-clause-mails : goal.note_round-requires-clause-mails
note_round-requires-clause-mails g c =
    let shards = c.args.size.now.shards in
    coe 1 0 (i. AreShardMails FitsShard CoreShardStands ShardAnswerSays (c.ask_flush.ensures.opening i) c.args.session shards (2 + shards))
    c.requires.mails

pub note_round-requires-clause-ready : goal.note_round-requires-clause-ready
note_round-requires-clause-ready g c =
    (c.requires.ready.0, c.ask_flush.ensures.same.ready c.requires.ready.0 c.requires.ready.1)

pub note_round-requires-clause-may : goal.note_round-requires-clause-may
note_round-requires-clause-may g c = c.in-Done.ensures.notes c.args.statement

pub returns-in-Done-clause-same : goal.returns-in-Done-clause-same
returns-in-Done-clause-same g c =
    let old = c.args.caller.now in
    let mid = c.ask_flush.new.caller in
    let new = c.note_round.new.caller in
    let opening = g.P.CellCaller.opening in
    let number = g.P.CellCaller.number in
    let own = g.P.CellCaller.own in
    same-then c.args.session (opening old) (number old) (own old) (opening mid) (number mid) (own mid) (opening new) (number new) (own new)
    c.ask_flush.ensures.same c.note_round.ensures.same

pub returns-in-Done-clause-followed : goal.returns-in-Done-clause-followed
returns-in-Done-clause-followed g c =
    let old = c.args.caller.now in
    let mid = c.ask_flush.new.caller in
    let new = c.note_round.new.caller in
    let opening = g.P.CellCaller.opening in
    let number = g.P.CellCaller.number in
    let own = g.P.CellCaller.own in
    let did = c.ask_flush.ensures in
    follows-then (opening old) (number old) c.args.session c.args.statement (own old) (own mid) (own new) c.note_round.result
    (left-by-round (opening old) (number old) c.args.session (own old) (own mid) flush.Done did.more c.in-Done.ensures.learns)
    (coe 0 1 (i. OnTrue c.note_round.result (HasFollowed (did.opening i) (did.number i) c.args.session c.args.statement true (own mid) (own new)))
    c.note_round.ensures.followed)

pub returns-in-Done-clause-stopped : goal.returns-in-Done-clause-stopped
returns-in-Done-clause-stopped g c =
    let old = c.args.caller.now in
    let mid = c.ask_flush.new.caller in
    let new = c.note_round.new.caller in
    let opening = g.P.CellCaller.opening in
    let number = g.P.CellCaller.number in
    let own = g.P.CellCaller.own in
    let did = c.ask_flush.ensures in
    stops-then (opening old) (number old) c.args.session c.args.statement (own old) (own mid) (own new) c.note_round.result
    (left-by-round (opening old) (number old) c.args.session (own old) (own mid) flush.Done did.more c.in-Done.ensures.learns)
    (coe 0 1 (i. OnFalse c.note_round.result (HasStoppedInRound (did.opening i) (did.number i) c.args.session c.args.statement (own mid) (own new)))
    c.note_round.ensures.stopped)

pub note_refusal-requires-clause-client : goal.note_refusal-requires-clause-client
note_refusal-requires-clause-client g c =
    coe 1 0 (i. IsClientOf FitsShard CoreShardStands ShardAnswerSays (c.ask_flush.ensures.opening i) (c.ask_flush.ensures.number i)
    c.args.session) c.requires.client

pub note_refusal-requires-clause-session : goal.note_refusal-requires-clause-session
note_refusal-requires-clause-session g c =
    coe 1 0 (i. IsSessionOf FitsShard CoreShardStands ShardAnswerSays (c.ask_flush.ensures.opening i) c.args.session) c.requires.session

pub note_refusal-requires-clause-ready : goal.note_refusal-requires-clause-ready
note_refusal-requires-clause-ready g c =
    (c.requires.ready.0, c.ask_flush.ensures.same.ready c.requires.ready.0 c.requires.ready.1)

pub note_refusal-requires-clause-may : goal.note_refusal-requires-clause-may
note_refusal-requires-clause-may g c =
    c.in-StoreFailed.ensures.notes c.args.statement

pub returns-in-StoreFailed-clause-same : goal.returns-in-StoreFailed-clause-same
returns-in-StoreFailed-clause-same g c =
    let old = c.args.caller.now in
    let mid = c.ask_flush.new.caller in
    let new = c.note_refusal.new.caller in
    let opening = g.P.CellCaller.opening in
    let number = g.P.CellCaller.number in
    let own = g.P.CellCaller.own in
    same-then c.args.session (opening old) (number old) (own old) (opening mid) (number mid) (own mid) (opening new) (number new) (own new)
    c.ask_flush.ensures.same c.note_refusal.ensures.same

pub returns-in-StoreFailed-clause-followed : goal.returns-in-StoreFailed-clause-followed
returns-in-StoreFailed-clause-followed g c =
    let old = c.args.caller.now in
    let mid = c.ask_flush.new.caller in
    let new = c.note_refusal.new.caller in
    let opening = g.P.CellCaller.opening in
    let number = g.P.CellCaller.number in
    let own = g.P.CellCaller.own in
    let did = c.ask_flush.ensures in
    follows-refused (opening old) (number old) c.args.session c.args.statement (own old) (own new) 17 c.note_refusal.result round_lost
    (true-then (opening old) (number old) c.args.session (own old) (own mid) (own new)
    (entry.Refused c.args.session c.args.statement 17 ∷ []) c.note_refusal.result
    (left-by-round (opening old) (number old) c.args.session (own old) (own mid) flush.StoreFailed did.more c.in-StoreFailed.ensures.learns)
    (coe 0 1 (i. OnTrue c.note_refusal.result (LeavesOverShards (did.opening i) (did.number i) c.args.session (own mid) (own new)
    (entry.Refused c.args.session c.args.statement 17 ∷ []))) c.note_refusal.ensures.left))

pub returns-in-StoreFailed-clause-stopped : goal.returns-in-StoreFailed-clause-stopped
returns-in-StoreFailed-clause-stopped g c =
    let old = c.args.caller.now in
    let mid = c.ask_flush.new.caller in
    let new = c.note_refusal.new.caller in
    let opening = g.P.CellCaller.opening in
    let number = g.P.CellCaller.number in
    let own = g.P.CellCaller.own in
    let did = c.ask_flush.ensures in
    stops-false (opening old) (number old) c.args.session c.args.statement (own old) (own new) c.note_refusal.result
    (false-then (opening old) (number old) c.args.session (own old) (own mid) (own new) c.note_refusal.result
    (left-by-round (opening old) (number old) c.args.session (own old) (own mid) flush.StoreFailed did.more c.in-StoreFailed.ensures.learns)
    (coe 0 1 (i. OnFalse c.note_refusal.result (LeavesOverShards (did.opening i) (did.number i) c.args.session (own mid) (own new) []))
    c.note_refusal.ensures.stopped))

pub note_refusal-requires-in-NoMemory-clause-client : goal.note_refusal-requires-in-NoMemory-clause-client
note_refusal-requires-in-NoMemory-clause-client g c =
    coe 1 0 (i. IsClientOf FitsShard CoreShardStands ShardAnswerSays (c.ask_flush.ensures.opening i) (c.ask_flush.ensures.number i)
    c.args.session) c.requires.client

pub note_refusal-requires-in-NoMemory-clause-session : goal.note_refusal-requires-in-NoMemory-clause-session
note_refusal-requires-in-NoMemory-clause-session g c =
    coe 1 0 (i. IsSessionOf FitsShard CoreShardStands ShardAnswerSays (c.ask_flush.ensures.opening i) c.args.session) c.requires.session

pub note_refusal-requires-in-NoMemory-clause-ready : goal.note_refusal-requires-in-NoMemory-clause-ready
note_refusal-requires-in-NoMemory-clause-ready g c =
    (c.requires.ready.0, c.ask_flush.ensures.same.ready c.requires.ready.0 c.requires.ready.1)

pub note_refusal-requires-in-NoMemory-clause-may : goal.note_refusal-requires-in-NoMemory-clause-may
note_refusal-requires-in-NoMemory-clause-may g c =
    let mid = c.ask_flush.new.caller in
    c.plain_notes_are_allowed.ensures (g.P.CellCaller.opening mid) (g.P.CellCaller.number mid) c.args.session (g.P.CellCaller.own mid)
    (note.Refused c.args.session c.args.statement 16) (refl, refl, λ same. absurd (omega (arith, same)))

pub returns-in-NoMemory-clause-same : goal.returns-in-NoMemory-clause-same
returns-in-NoMemory-clause-same g c =
    let old = c.args.caller.now in
    let mid = c.ask_flush.new.caller in
    let new = c.note_refusal-in-NoMemory.new.caller in
    let opening = g.P.CellCaller.opening in
    let number = g.P.CellCaller.number in
    let own = g.P.CellCaller.own in
    same-then c.args.session (opening old) (number old) (own old) (opening mid) (number mid) (own mid) (opening new) (number new) (own new)
    c.ask_flush.ensures.same c.note_refusal-in-NoMemory.ensures.same

pub returns-in-NoMemory-clause-followed : goal.returns-in-NoMemory-clause-followed
returns-in-NoMemory-clause-followed g c =
    let old = c.args.caller.now in
    let mid = c.ask_flush.new.caller in
    let new = c.note_refusal-in-NoMemory.new.caller in
    let opening = g.P.CellCaller.opening in
    let number = g.P.CellCaller.number in
    let own = g.P.CellCaller.own in
    let did = c.ask_flush.ensures in
    follows-refused (opening old) (number old) c.args.session c.args.statement (own old) (own new) 16 c.note_refusal-in-NoMemory.result round_without_memory
    (true-then (opening old) (number old) c.args.session (own old) (own mid) (own new)
    (entry.Refused c.args.session c.args.statement 16 ∷ []) c.note_refusal-in-NoMemory.result
    (left-by-round (opening old) (number old) c.args.session (own old) (own mid) flush.NoMemory did.more c.in-NoMemory.ensures.learns)
    (coe 0 1 (i. OnTrue c.note_refusal-in-NoMemory.result (LeavesOverShards (did.opening i) (did.number i) c.args.session (own mid) (own new)
    (entry.Refused c.args.session c.args.statement 16 ∷ []))) c.note_refusal-in-NoMemory.ensures.left))

pub returns-in-NoMemory-clause-stopped : goal.returns-in-NoMemory-clause-stopped
returns-in-NoMemory-clause-stopped g c =
    let old = c.args.caller.now in
    let mid = c.ask_flush.new.caller in
    let new = c.note_refusal-in-NoMemory.new.caller in
    let opening = g.P.CellCaller.opening in
    let number = g.P.CellCaller.number in
    let own = g.P.CellCaller.own in
    let did = c.ask_flush.ensures in
    stops-false (opening old) (number old) c.args.session c.args.statement (own old) (own new) c.note_refusal-in-NoMemory.result
    (false-then (opening old) (number old) c.args.session (own old) (own mid) (own new) c.note_refusal-in-NoMemory.result
    (left-by-round (opening old) (number old) c.args.session (own old) (own mid) flush.NoMemory did.more c.in-NoMemory.ensures.learns)
    (coe 0 1 (i. OnFalse c.note_refusal-in-NoMemory.result (LeavesOverShards (did.opening i) (did.number i) c.args.session (own mid) (own new) []))
    c.note_refusal-in-NoMemory.ensures.stopped))
