use Rattle.std.proofs.Common.{◌∙◌, ◌+◌, [], ◌∷◌, refl, arith}
use Rattle.std.proofs.lemmas.Bool.{OnFalse_at, OnTrue_at}
use Rattle.core_program.specs.Knowing.{IsClientOf, IsSessionOf}
use Rattle.core_cells.specs.declared.desk.DeskAnswer.TheVariants as answer
use Rattle.core_cells.specs.declared.desk.DeskCall.TheVariants as call
use Rattle.core_states.proofs.Holding.{held_for, holds-on, ready-for-mode}
use Rattle.core_states.proofs.LeftCalls.{left-by-call}
use Rattle.core_states.proofs.Refused.{counted, either-plain, if-refused, refuses-memory, then-refused, then-stopped}
use Rattle.core_states.specs.ExecutedInCore.{ExecutesInCore}
use Rattle.cube_journal.specs.declared.journal_entry.JournalEntry.TheVariants as entry
use Rattle.cube_journal.specs.declared.refusal.Refusal.TheVariants as refusal
use Rattle.cube_journal.specs.declared.reply.Reply.{Reply}
use Rattle.cube_language.specs.declared.statement.Statement.TheVariants.{Purge}
use Rattle.cube_run.specs.RunRecords.{Says}
use Rattle.job_groups.specs.AskedEach.{AreShardMails}
use Rattle.linked_shards.specs.CellShards.{CoreShardStands}
use Rattle.session_desk.specs.Executed.{IfReplied, OnStopped}
use Rattle.session_replies.specs.Modes.{mode_of}
use Rattle.session_requests.specs.SessionRequests.{IsToldSafe}
use Rattle.shard_events.specs.ShardsInRuns.{FitsShard, ShardAnswerSays}
use Rattle.shard_requests.proofs.Executing.{purges}
use Rattle.shard_requests.proofs.Onward.{goes-on, same-then}
use Rattle.shard_statements.specs.OverShards.{LeavesOverShards}
use Rattle.shard_requests.proofs.requests.purge.Goals as goal

pub purge_and_note-requires-clause-client : goal.purge_and_note-requires-clause-client
purge_and_note-requires-clause-client g c =
    coe 1 0 (i. IsClientOf FitsShard CoreShardStands ShardAnswerSays (c.read_counters-epoch.ensures.opening i) (c.read_counters-epoch.ensures.number i) c.args.session.now.number)
    c.requires.client

pub purge_and_note-requires-clause-session : goal.purge_and_note-requires-clause-session
purge_and_note-requires-clause-session g c =
    coe 1 0 (i. IsSessionOf FitsShard CoreShardStands ShardAnswerSays (c.read_counters-epoch.ensures.opening i) c.args.session.now.number) c.requires.session

pub purge_and_note-requires-clause-mails : goal.purge_and_note-requires-clause-mails
purge_and_note-requires-clause-mails g c =
    let shards = c.args.size.now.shards in
    coe 1 0 (i. AreShardMails FitsShard CoreShardStands ShardAnswerSays (c.read_counters-epoch.ensures.opening i) c.args.session.now.number shards (2 + shards))
    c.requires.mails

pub purge_and_note-requires-clause-ready : goal.purge_and_note-requires-clause-ready
purge_and_note-requires-clause-ready g c =
    let old = c.args.caller.now in
    let opening = g.P.CellCaller.opening in
    let number = g.P.CellCaller.number in
    let own = g.P.CellCaller.own in
    let session = c.args.session.now in
    let mid = c.read_counters-epoch.new.caller in
    let mode = mode_of session.mode in (
      held_for mode,
      ready-for-mode FitsShard CoreShardStands ShardAnswerSays (opening mid) (number mid) session.number (own mid) mode
          (holds-on FitsShard CoreShardStands ShardAnswerSays (opening old) (number old) session.number (own old) (opening mid) (number mid) (own mid) mode
          c.read_counters-epoch.ensures.same c.requires.holds),
    )

pub purge_and_note-requires-clause-told : goal.purge_and_note-requires-clause-told
purge_and_note-requires-clause-told g c =
    let old = c.args.caller.now in
    let opening = g.P.CellCaller.opening in
    let number = g.P.CellCaller.number in
    let own = g.P.CellCaller.own in
    let session = c.args.session.now in
    let did = c.read_counters-epoch.ensures in
    coe 1 0 (i. IsToldSafe (did.opening i) (did.number i) session.number (did.own i) c.read_counters-epoch.result.lse)
    (c.sessions_know_the_lse_they_saw.ensures.counted (opening old) (number old) session.number (own old) c.read_counters-epoch.result c.requires.client)

pub returns-then-purge_and_note-clause-executed : goal.returns-then-purge_and_note-clause-executed
returns-then-purge_and_note-clause-executed g c =
    let old = c.args.caller.now in
    let opening = g.P.CellCaller.opening in
    let number = g.P.CellCaller.number in
    let own = g.P.CellCaller.own in
    let session = c.args.session.now in
    let mid = c.read_counters-epoch.new.caller in
    let then = c.purge_and_note.new.caller in
    let did = c.read_counters-epoch.ensures in
    let read = left-by-call FitsShard CoreShardStands ShardAnswerSays (opening old) (number old) session.number c.requires.client (own old) (own mid) 0
    call.Counters (answer.Counted c.read_counters-epoch.result) did.own (λ o log run es later are. tt) (λ k. tt) in
    let added = entry.Purged session.number (session.statements + 1) c.read_counters-epoch.result.lse ∷ [] in
    purges (opening old) (number old) session (own old) (own then) c.read_counters-epoch.result.lse
    (goes-on (opening old) (number old) session.number (own old) (own mid) (own then) [] added read
    (coe 0 1 (i. LeavesOverShards (did.opening i) (did.number i) session.number (own mid) (own then) added)
    (OnTrue_at c.if-purge_and_note.true c.purge_and_note.ensures.left)))

pub returns-then-purge_and_note-clause-plain : goal.returns-then-purge_and_note-clause-plain
returns-then-purge_and_note-clause-plain g c =
    let old = c.args.caller.now in
    let opening = g.P.CellCaller.opening in
    let number = g.P.CellCaller.number in
    let own = g.P.CellCaller.own in
    let session = c.args.session.now in
    let mid = c.read_counters-epoch.new.caller in
    let then = c.purge_and_note.new.caller in
    let did = c.read_counters-epoch.ensures in
    let read = left-by-call FitsShard CoreShardStands ShardAnswerSays (opening old) (number old) session.number c.requires.client (own old) (own mid) 0
    call.Counters (answer.Counted c.read_counters-epoch.result) did.own (λ o log run es later are. tt) (λ k. tt) in
    let added = entry.Purged session.number (session.statements + 1) c.read_counters-epoch.result.lse ∷ [] in
    (goes-on (opening old) (number old) session.number (own old) (own mid) (own then) [] added read
    (coe 0 1 (i. LeavesOverShards (did.opening i) (did.number i) session.number (own mid) (own then) added)
    (OnTrue_at c.if-purge_and_note.true c.purge_and_note.ensures.left))).plain

pub returns-then-purge_and_note-clause-holds : goal.returns-then-purge_and_note-clause-holds
returns-then-purge_and_note-clause-holds g c =
    let old = c.args.caller.now in
    let opening = g.P.CellCaller.opening in
    let number = g.P.CellCaller.number in
    let own = g.P.CellCaller.own in
    let session = c.args.session.now in
    let mid = c.read_counters-epoch.new.caller in
    let then = c.purge_and_note.new.caller in
    let did = c.read_counters-epoch.ensures in
    holds-on FitsShard CoreShardStands ShardAnswerSays (opening old) (number old) session.number (own old) (opening then) (number then) (own then) (mode_of session.mode)
    (same-then session.number (opening old) (number old) (own old) (opening mid) (number mid) (own mid) (opening then) (number then) (own then)
    did.same c.purge_and_note.ensures.same) c.requires.holds

pub returns-then-purge_and_note-clause-more : goal.returns-then-purge_and_note-clause-more
returns-then-purge_and_note-clause-more g c =
    let few = c.requires.counted in
    record { number = refl; statements = refl; every = refl; counted = omega (arith, few) }

pub refuse_plainly-requires-clause-client : goal.refuse_plainly-requires-clause-client
refuse_plainly-requires-clause-client g c =
    let one = c.read_counters-epoch.ensures in
    let two = c.purge_and_note.ensures in
    coe 1 0 (i. IsClientOf FitsShard CoreShardStands ShardAnswerSays ((two.opening ∙ one.opening) i) ((two.number ∙ one.number) i) c.args.session.now.number)
    c.requires.client

pub refuse_plainly-requires-clause-session : goal.refuse_plainly-requires-clause-session
refuse_plainly-requires-clause-session g c =
    let one = c.read_counters-epoch.ensures in
    let two = c.purge_and_note.ensures in
    coe 1 0 (i. IsSessionOf FitsShard CoreShardStands ShardAnswerSays ((two.opening ∙ one.opening) i) c.args.session.now.number) c.requires.session

pub refuse_plainly-requires-clause-holds : goal.refuse_plainly-requires-clause-holds
refuse_plainly-requires-clause-holds g c =
    let old = c.args.caller.now in
    let opening = g.P.CellCaller.opening in
    let number = g.P.CellCaller.number in
    let own = g.P.CellCaller.own in
    let session = c.args.session.now in
    let mid = c.read_counters-epoch.new.caller in
    let then = c.purge_and_note.new.caller in
    let did = c.read_counters-epoch.ensures in
    holds-on FitsShard CoreShardStands ShardAnswerSays (opening old) (number old) session.number (own old) (opening then) (number then) (own then) (mode_of session.mode)
    (same-then session.number (opening old) (number old) (own old) (opening mid) (number mid) (own mid) (opening then) (number then) (own then)
    did.same c.purge_and_note.ensures.same) c.requires.holds

pub returns-else-purge_and_note-clause-executed : goal.returns-else-purge_and_note-clause-executed
returns-else-purge_and_note-clause-executed g c =
    let old = c.args.caller.now in
    let opening = g.P.CellCaller.opening in
    let number = g.P.CellCaller.number in
    let own = g.P.CellCaller.own in
    let session = c.args.session.now in
    let mid = c.purge_and_note.new.caller in
    let new = c.refuse_plainly.new.caller in
    let did = c.purge_and_note.ensures in
    let before = c.read_counters-epoch.new.caller in
    let read = c.read_counters-epoch.ensures in
    let refused = entry.Refused session.number (session.statements + 1) 16 ∷ [] in
    let first = (goes-on (opening old) (number old) session.number (own old) (own before) (own mid) [] []
    (left-by-call FitsShard CoreShardStands ShardAnswerSays (opening old) (number old) session.number c.requires.client (own old) (own before) 0
    call.Counters (answer.Counted c.read_counters-epoch.result) read.own (λ o log run es later are. tt) (λ k. tt))
    (coe 0 1 (i. LeavesOverShards (read.opening i) (read.number i) session.number (own before) (own mid) [])
    (OnFalse_at c.if-purge_and_note.false c.purge_and_note.ensures.stopped))) in
    if-refused FitsShard CoreShardStands ShardAnswerSays (opening old) (number old) session (own old) (own new) c.refuse_plainly.result refusal.NoMemory
    (ExecutesInCore FitsShard CoreShardStands ShardAnswerSays (opening old) (number old) (Says Purge) session (own old) (counted session)
    (own new)) c.refuse_plainly.ensures.said
    (then-refused FitsShard CoreShardStands ShardAnswerSays (opening old) (number old) session.number (own old) (own new) (own mid) refused c.refuse_plainly.result first
    (coe 0 1 (i. IfReplied c.refuse_plainly.result (λ (said : Reply). LeavesOverShards ((did.opening ∙ read.opening) i) ((did.number ∙ read.number) i) session.number (own mid) (own new)
    refused)) c.refuse_plainly.ensures.left))
    (λ left. refuses-memory FitsShard CoreShardStands ShardAnswerSays (opening old) (number old) session (own old) (own new) (Says Purge) left)

pub returns-else-purge_and_note-clause-stopped : goal.returns-else-purge_and_note-clause-stopped
returns-else-purge_and_note-clause-stopped g c =
    let old = c.args.caller.now in
    let opening = g.P.CellCaller.opening in
    let number = g.P.CellCaller.number in
    let own = g.P.CellCaller.own in
    let session = c.args.session.now in
    let mid = c.purge_and_note.new.caller in
    let new = c.refuse_plainly.new.caller in
    let did = c.purge_and_note.ensures in
    let before = c.read_counters-epoch.new.caller in
    let read = c.read_counters-epoch.ensures in
    let refused = entry.Refused session.number (session.statements + 1) 16 ∷ [] in
    let first = (goes-on (opening old) (number old) session.number (own old) (own before) (own mid) [] []
    (left-by-call FitsShard CoreShardStands ShardAnswerSays (opening old) (number old) session.number c.requires.client (own old) (own before) 0
    call.Counters (answer.Counted c.read_counters-epoch.result) read.own (λ o log run es later are. tt) (λ k. tt))
    (coe 0 1 (i. LeavesOverShards (read.opening i) (read.number i) session.number (own before) (own mid) [])
    (OnFalse_at c.if-purge_and_note.false c.purge_and_note.ensures.stopped))) in
    then-stopped FitsShard CoreShardStands ShardAnswerSays (opening old) (number old) session.number (own old) (own new) (own mid) c.refuse_plainly.result first
    (coe 0 1 (i. OnStopped c.refuse_plainly.result (LeavesOverShards ((did.opening ∙ read.opening) i) ((did.number ∙ read.number) i) session.number (own mid) (own new) []))
    c.refuse_plainly.ensures.stopped)

pub returns-else-purge_and_note-clause-plain : goal.returns-else-purge_and_note-clause-plain
returns-else-purge_and_note-clause-plain g c =
    let old = c.args.caller.now in
    let opening = g.P.CellCaller.opening in
    let number = g.P.CellCaller.number in
    let own = g.P.CellCaller.own in
    let session = c.args.session.now in
    let mid = c.purge_and_note.new.caller in
    let new = c.refuse_plainly.new.caller in
    let did = c.purge_and_note.ensures in
    let before = c.read_counters-epoch.new.caller in
    let read = c.read_counters-epoch.ensures in
    let refused = entry.Refused session.number (session.statements + 1) 16 ∷ [] in
    let first = (goes-on (opening old) (number old) session.number (own old) (own before) (own mid) [] []
    (left-by-call FitsShard CoreShardStands ShardAnswerSays (opening old) (number old) session.number c.requires.client (own old) (own before) 0
    call.Counters (answer.Counted c.read_counters-epoch.result) read.own (λ o log run es later are. tt) (λ k. tt))
    (coe 0 1 (i. LeavesOverShards (read.opening i) (read.number i) session.number (own before) (own mid) [])
    (OnFalse_at c.if-purge_and_note.false c.purge_and_note.ensures.stopped))) in
    either-plain FitsShard CoreShardStands ShardAnswerSays (opening old) (number old) session.number (own old) (own new) refused c.refuse_plainly.result
    (then-refused FitsShard CoreShardStands ShardAnswerSays (opening old) (number old) session.number (own old) (own new) (own mid) refused c.refuse_plainly.result first
    (coe 0 1 (i. IfReplied c.refuse_plainly.result (λ (said : Reply). LeavesOverShards ((did.opening ∙ read.opening) i) ((did.number ∙ read.number) i) session.number (own mid) (own new)
    refused)) c.refuse_plainly.ensures.left))
    (then-stopped FitsShard CoreShardStands ShardAnswerSays (opening old) (number old) session.number (own old) (own new) (own mid) c.refuse_plainly.result first
    (coe 0 1 (i. OnStopped c.refuse_plainly.result (LeavesOverShards ((did.opening ∙ read.opening) i) ((did.number ∙ read.number) i) session.number (own mid) (own new) []))
    c.refuse_plainly.ensures.stopped))

pub returns-else-purge_and_note-clause-more : goal.returns-else-purge_and_note-clause-more
returns-else-purge_and_note-clause-more g c =
    let few = c.requires.counted in
    record { number = refl; statements = refl; every = refl; counted = omega (arith, few) }
