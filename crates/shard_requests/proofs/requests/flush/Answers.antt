use Rattle.std.proofs.Common.{◌+◌, [], ◌∷◌, refl, arith}
use Rattle.core_program.specs.Knowing.{IsClientOf, IsSessionOf}
use Rattle.core_states.proofs.Holding.{held_for, holds-on, ready-for-mode}
use Rattle.core_states.proofs.Refused.{counted, either-plain, if-refused, refuses-memory, then-refused, then-stopped}
use Rattle.core_states.specs.ExecutedInCore.{ExecutesInCore}
use Rattle.cube_core.specs.declared.jobs.FlushAnswer.TheVariants as flush
use Rattle.cube_journal.specs.declared.journal_entry.JournalEntry.TheVariants as entry
use Rattle.cube_journal.specs.declared.refusal.Refusal.TheVariants as refusal
use Rattle.cube_journal.specs.declared.reply.Reply.{Reply}
use Rattle.cube_language.specs.declared.statement.Statement.TheVariants.{Flush}
use Rattle.cube_run.specs.RunRecords.{Says}
use Rattle.linked_shards.specs.CellShards.{CoreShardStands}
use Rattle.session_desk.specs.Executed.{IfReplied, OnStopped}
use Rattle.session_replies.specs.Modes.{mode_of}
use Rattle.shard_events.specs.ShardsInRuns.{FitsShard, ShardAnswerSays}
use Rattle.shard_requests.proofs.Executing.{flushes-noted, plain-noted}
use Rattle.shard_requests.proofs.LostRounds.{refuses-lost}
use Rattle.shard_requests.proofs.RoundsLeave.{left-by-round}
use Rattle.shard_requests.specs.FlushNotes.{HasNotedFlush}
use Rattle.shard_statements.specs.OverShards.{LeavesOverShards}
use Rattle.shard_requests.proofs.requests.flush.Goals as goal

pub ask_flush-requires-clause-ready : goal.ask_flush-requires-clause-ready
ask_flush-requires-clause-ready g c =
    let mode = mode_of c.args.session.now.mode in (
      held_for mode,
      ready-for-mode FitsShard CoreShardStands ShardAnswerSays (g.P.CellCaller.opening c.args.caller.now)
          (g.P.CellCaller.number c.args.caller.now) c.args.session.now.number (g.P.CellCaller.own c.args.caller.now) mode c.requires.holds,
    )

pub note_flush-requires-clause-client : goal.note_flush-requires-clause-client
note_flush-requires-clause-client g c =
    coe 1 0 (i. IsClientOf FitsShard CoreShardStands ShardAnswerSays (c.ask_flush.ensures.opening i) (c.ask_flush.ensures.number i) c.args.session.now.number)
    c.requires.client

pub note_flush-requires-clause-session : goal.note_flush-requires-clause-session
note_flush-requires-clause-session g c =
    coe 1 0 (i. IsSessionOf FitsShard CoreShardStands ShardAnswerSays (c.ask_flush.ensures.opening i) c.args.session.now.number) c.requires.session

pub note_flush-requires-clause-holds : goal.note_flush-requires-clause-holds
note_flush-requires-clause-holds g c =
    let old = c.args.caller.now in
    let opening = g.P.CellCaller.opening in
    let number = g.P.CellCaller.number in
    let own = g.P.CellCaller.own in
    let session = c.args.session.now in
    let mid = c.ask_flush.new.caller in
    holds-on FitsShard CoreShardStands ShardAnswerSays (opening old) (number old) session.number (own old) (opening mid) (number mid) (own mid)
    (mode_of session.mode) c.ask_flush.ensures.same c.requires.holds

pub note_flush-requires-clause-may : goal.note_flush-requires-clause-may
note_flush-requires-clause-may g c = c.in-Done.ensures.notes (c.args.session.now.statements + 1)

pub returns-in-Done-clause-executed : goal.returns-in-Done-clause-executed
returns-in-Done-clause-executed g c =
    let old = c.args.caller.now in
    let opening = g.P.CellCaller.opening in
    let number = g.P.CellCaller.number in
    let own = g.P.CellCaller.own in
    let session = c.args.session.now in
    let mid = c.ask_flush.new.caller in
    let new = c.note_flush.new.caller in
    let did = c.ask_flush.ensures in
    let first = left-by-round (opening old) (number old) session.number (own old) (own mid) flush.Done did.more c.in-Done.ensures.learns in
    flushes-noted (opening old) (number old) session c.requires.client c.requires.session (own old) (own mid) (own new)
    c.note_flush.result first
    (coe 0 1 (i. IfReplied c.note_flush.result (HasNotedFlush (did.number i) session.number (session.statements + 1) (own mid) (own new)))
    c.note_flush.ensures.noted)

pub returns-in-Done-clause-plain : goal.returns-in-Done-clause-plain
returns-in-Done-clause-plain g c =
    let old = c.args.caller.now in
    let opening = g.P.CellCaller.opening in
    let number = g.P.CellCaller.number in
    let own = g.P.CellCaller.own in
    let session = c.args.session.now in
    let mid = c.ask_flush.new.caller in
    let new = c.note_flush.new.caller in
    let did = c.ask_flush.ensures in
    let first = left-by-round (opening old) (number old) session.number (own old) (own mid) flush.Done did.more c.in-Done.ensures.learns in
    plain-noted (opening old) (number old) session c.requires.client c.requires.session (own old) (own mid) (own new)
    c.note_flush.result first
    (coe 0 1 (i. IfReplied c.note_flush.result (HasNotedFlush (did.number i) session.number (session.statements + 1) (own mid) (own new)))
    c.note_flush.ensures.noted)
    (coe 0 1 (i. OnStopped c.note_flush.result (LeavesOverShards (did.opening i) (did.number i) session.number (own mid) (own new) []))
    c.note_flush.ensures.stopped)

pub returns-in-Done-clause-stopped : goal.returns-in-Done-clause-stopped
returns-in-Done-clause-stopped g c =
    let old = c.args.caller.now in
    let opening = g.P.CellCaller.opening in
    let number = g.P.CellCaller.number in
    let own = g.P.CellCaller.own in
    let session = c.args.session.now in
    let mid = c.ask_flush.new.caller in
    let new = c.note_flush.new.caller in
    let did = c.ask_flush.ensures in
    let first = left-by-round (opening old) (number old) session.number (own old) (own mid) flush.Done did.more c.in-Done.ensures.learns in
    then-stopped FitsShard CoreShardStands ShardAnswerSays (opening old) (number old) session.number (own old) (own new) (own mid) c.note_flush.result first
    (coe 0 1 (i. OnStopped c.note_flush.result (LeavesOverShards (did.opening i) (did.number i) session.number (own mid) (own new) []))
    c.note_flush.ensures.stopped)

pub returns-in-Done-clause-more : goal.returns-in-Done-clause-more
returns-in-Done-clause-more g c =
    let few = c.requires.counted in
    record { number = refl; statements = refl; every = refl; counted = omega (arith, few) }

pub refuse-requires-clause-client : goal.refuse-requires-clause-client
refuse-requires-clause-client g c =
    coe 1 0 (i. IsClientOf FitsShard CoreShardStands ShardAnswerSays (c.ask_flush.ensures.opening i) (c.ask_flush.ensures.number i) c.args.session.now.number)
    c.requires.client

pub refuse-requires-clause-session : goal.refuse-requires-clause-session
refuse-requires-clause-session g c =
    coe 1 0 (i. IsSessionOf FitsShard CoreShardStands ShardAnswerSays (c.ask_flush.ensures.opening i) c.args.session.now.number) c.requires.session

pub refuse-requires-clause-holds : goal.refuse-requires-clause-holds
refuse-requires-clause-holds g c =
    let old = c.args.caller.now in
    let opening = g.P.CellCaller.opening in
    let number = g.P.CellCaller.number in
    let own = g.P.CellCaller.own in
    let session = c.args.session.now in
    let mid = c.ask_flush.new.caller in
    holds-on FitsShard CoreShardStands ShardAnswerSays (opening old) (number old) session.number (own old) (opening mid) (number mid) (own mid)
    (mode_of session.mode) c.ask_flush.ensures.same c.requires.holds

pub refuse-requires-clause-may : goal.refuse-requires-clause-may
refuse-requires-clause-may g c = c.in-StoreFailed.ensures.notes (c.args.session.now.statements + 1)

pub returns-in-StoreFailed-clause-executed : goal.returns-in-StoreFailed-clause-executed
returns-in-StoreFailed-clause-executed g c =
    let old = c.args.caller.now in
    let opening = g.P.CellCaller.opening in
    let number = g.P.CellCaller.number in
    let own = g.P.CellCaller.own in
    let session = c.args.session.now in
    let mid = c.ask_flush.new.caller in
    let new = c.refuse.new.caller in
    let did = c.ask_flush.ensures in
    let refused = entry.Refused session.number (session.statements + 1) 17 ∷ [] in
    let first = left-by-round (opening old) (number old) session.number (own old) (own mid) flush.StoreFailed did.more c.in-StoreFailed.ensures.learns in
    if-refused FitsShard CoreShardStands ShardAnswerSays (opening old) (number old) session (own old) (own new) c.refuse.result refusal.StoreFailed
    (ExecutesInCore FitsShard CoreShardStands ShardAnswerSays (opening old) (number old) (Says Flush) session (own old) (counted session)
    (own new)) c.refuse.ensures.said
    (then-refused FitsShard CoreShardStands ShardAnswerSays (opening old) (number old) session.number (own old) (own new) (own mid) refused c.refuse.result first
    (coe 0 1 (i. IfReplied c.refuse.result (λ (said : Reply). LeavesOverShards (did.opening i) (did.number i) session.number (own mid) (own new)
    refused)) c.refuse.ensures.left))
    (λ left. refuses-lost (opening old) (number old) session (own old) (own new) left)

pub returns-in-StoreFailed-clause-stopped : goal.returns-in-StoreFailed-clause-stopped
returns-in-StoreFailed-clause-stopped g c =
    let old = c.args.caller.now in
    let opening = g.P.CellCaller.opening in
    let number = g.P.CellCaller.number in
    let own = g.P.CellCaller.own in
    let session = c.args.session.now in
    let mid = c.ask_flush.new.caller in
    let new = c.refuse.new.caller in
    let did = c.ask_flush.ensures in
    let refused = entry.Refused session.number (session.statements + 1) 17 ∷ [] in
    let first = left-by-round (opening old) (number old) session.number (own old) (own mid) flush.StoreFailed did.more c.in-StoreFailed.ensures.learns in
    then-stopped FitsShard CoreShardStands ShardAnswerSays (opening old) (number old) session.number (own old) (own new) (own mid) c.refuse.result first
    (coe 0 1 (i. OnStopped c.refuse.result (LeavesOverShards (did.opening i) (did.number i) session.number (own mid) (own new) []))
    c.refuse.ensures.stopped)

pub returns-in-StoreFailed-clause-plain : goal.returns-in-StoreFailed-clause-plain
returns-in-StoreFailed-clause-plain g c =
    let old = c.args.caller.now in
    let opening = g.P.CellCaller.opening in
    let number = g.P.CellCaller.number in
    let own = g.P.CellCaller.own in
    let session = c.args.session.now in
    let mid = c.ask_flush.new.caller in
    let new = c.refuse.new.caller in
    let did = c.ask_flush.ensures in
    let refused = entry.Refused session.number (session.statements + 1) 17 ∷ [] in
    let first = left-by-round (opening old) (number old) session.number (own old) (own mid) flush.StoreFailed did.more c.in-StoreFailed.ensures.learns in
    either-plain FitsShard CoreShardStands ShardAnswerSays (opening old) (number old) session.number (own old) (own new) refused c.refuse.result
    (then-refused FitsShard CoreShardStands ShardAnswerSays (opening old) (number old) session.number (own old) (own new) (own mid) refused c.refuse.result first
    (coe 0 1 (i. IfReplied c.refuse.result (λ (said : Reply). LeavesOverShards (did.opening i) (did.number i) session.number (own mid) (own new)
    refused)) c.refuse.ensures.left))
    (then-stopped FitsShard CoreShardStands ShardAnswerSays (opening old) (number old) session.number (own old) (own new) (own mid) c.refuse.result first
    (coe 0 1 (i. OnStopped c.refuse.result (LeavesOverShards (did.opening i) (did.number i) session.number (own mid) (own new) []))
    c.refuse.ensures.stopped))

pub returns-in-StoreFailed-clause-more : goal.returns-in-StoreFailed-clause-more
returns-in-StoreFailed-clause-more g c =
    let few = c.requires.counted in
    record { number = refl; statements = refl; every = refl; counted = omega (arith, few) }

pub refuse_plainly-requires-clause-client : goal.refuse_plainly-requires-clause-client
refuse_plainly-requires-clause-client g c =
    coe 1 0 (i. IsClientOf FitsShard CoreShardStands ShardAnswerSays (c.ask_flush.ensures.opening i) (c.ask_flush.ensures.number i) c.args.session.now.number)
    c.requires.client

pub refuse_plainly-requires-clause-session : goal.refuse_plainly-requires-clause-session
refuse_plainly-requires-clause-session g c =
    coe 1 0 (i. IsSessionOf FitsShard CoreShardStands ShardAnswerSays (c.ask_flush.ensures.opening i) c.args.session.now.number) c.requires.session

pub refuse_plainly-requires-clause-holds : goal.refuse_plainly-requires-clause-holds
refuse_plainly-requires-clause-holds g c =
    let old = c.args.caller.now in
    let opening = g.P.CellCaller.opening in
    let number = g.P.CellCaller.number in
    let own = g.P.CellCaller.own in
    let session = c.args.session.now in
    let mid = c.ask_flush.new.caller in
    holds-on FitsShard CoreShardStands ShardAnswerSays (opening old) (number old) session.number (own old) (opening mid) (number mid) (own mid)
    (mode_of session.mode) c.ask_flush.ensures.same c.requires.holds

pub returns-in-NoMemory-clause-executed : goal.returns-in-NoMemory-clause-executed
returns-in-NoMemory-clause-executed g c =
    let old = c.args.caller.now in
    let opening = g.P.CellCaller.opening in
    let number = g.P.CellCaller.number in
    let own = g.P.CellCaller.own in
    let session = c.args.session.now in
    let mid = c.ask_flush.new.caller in
    let new = c.refuse_plainly.new.caller in
    let did = c.ask_flush.ensures in
    let refused = entry.Refused session.number (session.statements + 1) 16 ∷ [] in
    let first = left-by-round (opening old) (number old) session.number (own old) (own mid) flush.NoMemory did.more c.in-NoMemory.ensures.learns in
    if-refused FitsShard CoreShardStands ShardAnswerSays (opening old) (number old) session (own old) (own new) c.refuse_plainly.result refusal.NoMemory
    (ExecutesInCore FitsShard CoreShardStands ShardAnswerSays (opening old) (number old) (Says Flush) session (own old) (counted session)
    (own new)) c.refuse_plainly.ensures.said
    (then-refused FitsShard CoreShardStands ShardAnswerSays (opening old) (number old) session.number (own old) (own new) (own mid) refused c.refuse_plainly.result first
    (coe 0 1 (i. IfReplied c.refuse_plainly.result (λ (said : Reply). LeavesOverShards (did.opening i) (did.number i) session.number (own mid) (own new)
    refused)) c.refuse_plainly.ensures.left))
    (λ left. refuses-memory FitsShard CoreShardStands ShardAnswerSays (opening old) (number old) session (own old) (own new) (Says Flush) left)

pub returns-in-NoMemory-clause-stopped : goal.returns-in-NoMemory-clause-stopped
returns-in-NoMemory-clause-stopped g c =
    let old = c.args.caller.now in
    let opening = g.P.CellCaller.opening in
    let number = g.P.CellCaller.number in
    let own = g.P.CellCaller.own in
    let session = c.args.session.now in
    let mid = c.ask_flush.new.caller in
    let new = c.refuse_plainly.new.caller in
    let did = c.ask_flush.ensures in
    let refused = entry.Refused session.number (session.statements + 1) 16 ∷ [] in
    let first = left-by-round (opening old) (number old) session.number (own old) (own mid) flush.NoMemory did.more c.in-NoMemory.ensures.learns in
    then-stopped FitsShard CoreShardStands ShardAnswerSays (opening old) (number old) session.number (own old) (own new) (own mid) c.refuse_plainly.result first
    (coe 0 1 (i. OnStopped c.refuse_plainly.result (LeavesOverShards (did.opening i) (did.number i) session.number (own mid) (own new) []))
    c.refuse_plainly.ensures.stopped)

pub returns-in-NoMemory-clause-plain : goal.returns-in-NoMemory-clause-plain
returns-in-NoMemory-clause-plain g c =
    let old = c.args.caller.now in
    let opening = g.P.CellCaller.opening in
    let number = g.P.CellCaller.number in
    let own = g.P.CellCaller.own in
    let session = c.args.session.now in
    let mid = c.ask_flush.new.caller in
    let new = c.refuse_plainly.new.caller in
    let did = c.ask_flush.ensures in
    let refused = entry.Refused session.number (session.statements + 1) 16 ∷ [] in
    let first = left-by-round (opening old) (number old) session.number (own old) (own mid) flush.NoMemory did.more c.in-NoMemory.ensures.learns in
    either-plain FitsShard CoreShardStands ShardAnswerSays (opening old) (number old) session.number (own old) (own new) refused c.refuse_plainly.result
    (then-refused FitsShard CoreShardStands ShardAnswerSays (opening old) (number old) session.number (own old) (own new) (own mid) refused c.refuse_plainly.result first
    (coe 0 1 (i. IfReplied c.refuse_plainly.result (λ (said : Reply). LeavesOverShards (did.opening i) (did.number i) session.number (own mid) (own new)
    refused)) c.refuse_plainly.ensures.left))
    (then-stopped FitsShard CoreShardStands ShardAnswerSays (opening old) (number old) session.number (own old) (own new) (own mid) c.refuse_plainly.result first
    (coe 0 1 (i. OnStopped c.refuse_plainly.result (LeavesOverShards (did.opening i) (did.number i) session.number (own mid) (own new) []))
    c.refuse_plainly.ensures.stopped))

pub returns-in-NoMemory-clause-more : goal.returns-in-NoMemory-clause-more
returns-in-NoMemory-clause-more g c =
    let few = c.requires.counted in
    record { number = refl; statements = refl; every = refl; counted = omega (arith, few) }
