use Rattle.std.proofs.Common.{ℕ, List, [], ◌∷◌, append-nil, sym, subst}
use mathlib.Core.List.{IsPrefix}
use Rattle.core_changes.proofs.Failing.{holds-failed}
use Rattle.core_program.specs.CoreFits.{CoreEntry}
use Rattle.core_states.proofs.LeftCalls.{left-nothing}
use Rattle.core_states.specs.LeftBehind.{GoOnByCalls, IsPlainCall}
use Rattle.core_states.specs.StandingInCore.{HoldsForMode}
use Rattle.cube_journal.specs.declared.journal_entry.JournalEntry.TheVariants as entry
use Rattle.linked_shards.specs.CellShards.{CoreShardStands}
use Rattle.session_replies.specs.Modes.{mode_of}
use Rattle.session_replies.specs.declared.mode.SessionMode.{SessionMode}
use Rattle.shard_events.specs.ShardsInRuns.{FitsShard, ShardAnswerSays}
use Rattle.shard_statements.specs.OverShards.{LeavesOverShards}
use Rattle.core_changes.proofs.failures.fail_change.Goals as goal

pub take_back-requires-clause-some : goal.take_back-requires-clause-some
take_back-requires-clause-some g c = c.requires.served.some

pub take_back-requires-clause-client : goal.take_back-requires-clause-client
take_back-requires-clause-client g c = c.requires.served.client

pub take_back-requires-clause-session : goal.take_back-requires-clause-session
take_back-requires-clause-session g c = c.requires.served.is_session

pub take_back-requires-clause-mails : goal.take_back-requires-clause-mails
take_back-requires-clause-mails g c = c.requires.served.mails

pub returns-in-Ok-clause-becomes : goal.returns-in-Ok-clause-becomes
returns-in-Ok-clause-becomes g c = λ i. record {
  number = c.args.session.now.number;
  mode = c.failed_mode-session.ensures i;
  statements = c.args.session.now.statements;
  commits = c.args.session.now.commits;
  round_every = c.args.session.now.round_every;
}

pub returns-in-Ok-clause-holds : goal.returns-in-Ok-clause-holds
returns-in-Ok-clause-holds g c =
    let new = c.take_back.new.caller in
    let session = c.args.session.now in
    subst (λ (m : SessionMode). HoldsForMode FitsShard CoreShardStands ShardAnswerSays (g.P.CellCaller.opening new)
    (g.P.CellCaller.number new) session.number (g.P.CellCaller.own new) (mode_of m)) (sym c.failed_mode-session.ensures)
    (holds-failed (g.P.CellCaller.opening new) (g.P.CellCaller.number new) session.number (g.P.CellCaller.own new)
    session.mode c.in-Ok.ensures.holds)

pub returns-in-Ok-clause-left : goal.returns-in-Ok-clause-left
returns-in-Ok-clause-left g c =
    let old = c.args.caller.now in
    let session = c.args.session.now in
    subst (λ (e : ℕ). LeavesOverShards (g.P.CellCaller.opening old) (g.P.CellCaller.number old) session.number
    (g.P.CellCaller.own old) (g.P.CellCaller.own c.take_back.new.caller)
    (entry.Aborted session.number session.statements e c.args.cause ∷ [])) c.in-Ok.ensures.epoch c.in-Ok.ensures.left

pub returns-in-Ok-clause-more : goal.returns-in-Ok-clause-more
returns-in-Ok-clause-more g c = c.in-Ok.ensures.left.more

pub returns-in-Ok-clause-plain : goal.returns-in-Ok-clause-plain
returns-in-Ok-clause-plain g c = c.in-Ok.ensures.left.plain

pub returns-in-Err-clause-more : goal.returns-in-Err-clause-more
returns-in-Err-clause-more g c =
    let old = c.args.caller.now in
    subst (λ (l : List CoreEntry). IsPrefix (g.P.CellCaller.own old) l) (sym c.in-Err.ensures.err)
    ([], append-nil (g.P.CellCaller.own old))

pub returns-in-Err-clause-plain : goal.returns-in-Err-clause-plain
returns-in-Err-clause-plain g c =
    let old = c.args.caller.now in
    subst (λ (l : List CoreEntry). GoOnByCalls FitsShard CoreShardStands ShardAnswerSays (g.P.CellCaller.opening old)
    (g.P.CellCaller.number old) c.args.session.now.number IsPlainCall (g.P.CellCaller.own old) l)
    (sym c.in-Err.ensures.err)
    (left-nothing FitsShard CoreShardStands ShardAnswerSays (g.P.CellCaller.opening old) (g.P.CellCaller.number old)
    c.args.session.now.number (g.P.CellCaller.own old)).plain
