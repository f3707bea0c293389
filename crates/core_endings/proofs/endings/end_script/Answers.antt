use Rattle.std.proofs.Common.{◌≡◌, ◌+◌, List, [], ◌∷◌, ◌++◌, refl, sym, subst}
use Rattle.std.specs.Prelude.{IfSome}
use Rattle.core_program.specs.ClientCalls.{desk_entry}
use Rattle.core_cells.specs.declared.desk.DeskAnswer.TheVariants as answer
use Rattle.core_cells.specs.declared.desk.DeskCall.TheVariants as call
use Rattle.core_endings.proofs.ScriptEnding.{with-reader, without-reader}
use Rattle.core_endings.specs.ScriptEnds.{HoldsReaderUnder}
use Rattle.core_program.specs.CoreFits.{CoreEntry}
use Rattle.core_program.specs.Knowing.{IsSessionOf}
use Rattle.cube_journal.specs.declared.journal_entry.JournalEntry.TheVariants as entry
use Rattle.cube_run.specs.StatementEntries.{transaction_end}
use Rattle.linked_shards.specs.CellShards.{CoreShardStands}
use Rattle.scripted_pasts.specs.QuietCalls.{LeavesQuietly}
use Rattle.session_replies.specs.Modes.{mode_of}
use Rattle.session_watches.specs.KnownReaders.{HoldersHave}
use Rattle.shard_events.specs.ShardsInRuns.{FitsShard, ShardAnswerSays}
use Rattle.watch_holds.specs.HolderStates.{OneReader}
use Rattle.core_endings.proofs.endings.end_script.Goals as goal

pub close_holder-requires-clause-session : goal.close_holder-requires-clause-session
close_holder-requires-clause-session g c =
    coe 1 0 (i. IsSessionOf FitsShard CoreShardStands ShardAnswerSays (c.in_ok-end_transaction.ensures.opening i) c.args.session.now.number)
    c.requires.served.is_session

pub close_holder-requires-clause-reads : goal.close_holder-requires-clause-reads
close_holder-requires-clause-reads g c =
    let cells = g.P.CellCaller.opening c.args.caller.now in
    let caller = g.P.CellCaller.number c.args.caller.now in
    let session = c.args.session.now.number in
    let own = g.P.CellCaller.own c.args.caller.now in
    let mid = g.P.CellCaller.own c.end_transaction.new.caller in
    let did = c.in_ok-end_transaction.ensures in
    let held : HoldsReaderUnder cells caller session own c.in-Some.holder =
    coe 0 1 (i. IfSome (c.in-Some.is i) (HoldsReaderUnder cells caller session own)) c.requires.reader
    in
    let kept =
    c.other_calls_leave_the_holders.ensures.holders cells caller session own mid did.left.more
    (c.other_calls_leave_the_holders.ensures.plain cells caller session own mid did.left.plain)
    (OneReader c.in-Some.holder held.epoch) held.reader
    in (
      OneReader c.in-Some.holder held.epoch,
      refl,
      coe 1 0 (i. HoldersHave FitsShard CoreShardStands ShardAnswerSays (did.opening i) (did.number i) session mid
          (OneReader c.in-Some.holder held.epoch)) kept,
    )

pub returns-in-Some-clause-ended : goal.returns-in-Some-clause-ended
returns-in-Some-clause-ended g c =
    let cells = g.P.CellCaller.opening c.args.caller.now in
    let caller = g.P.CellCaller.number c.args.caller.now in
    let session = c.args.session.now.number in
    let own = g.P.CellCaller.own c.args.caller.now in
    let mid = g.P.CellCaller.own c.end_transaction.new.caller in
    let now = g.P.CellCaller.own c.close_holder.new.caller in
    let statement = c.args.session.now.statements + 1 in
    let mode = mode_of c.args.session.now.mode in
    let holder = c.in-Some.holder in
    let did = c.in_ok-end_transaction.ensures in
    let is : now ≡ mid ++ desk_entry caller (call.CloseRead holder statement) answer.Done ∷ [] =
    coe 0 1 (i. now ≡ mid ++ desk_entry (did.number i) (call.CloseRead holder statement) answer.Done ∷ [])
    c.close_holder.ensures.own
    in
    with-reader (λ added. LeavesQuietly FitsShard CoreShardStands ShardAnswerSays cells caller session own now added)
    session statement mode c.args.holder holder c.in-Some.is
    (c.quiet_calls_leave_entries.ensures.then cells caller session own mid now (transaction_end session statement mode)
    (entry.ReadEnd holder statement ∷ [])
    (c.quiet_calls_leave_entries.ensures.plain cells caller session own mid (transaction_end session statement mode) did.left)
    (subst (λ (l : List CoreEntry). LeavesQuietly FitsShard CoreShardStands ShardAnswerSays cells caller session mid l
    (entry.ReadEnd holder statement ∷ [])) (sym is)
    (c.quiet_calls_leave_entries.ensures.closed cells caller session holder statement mid c.requires.served.client)))

pub returns-in_default-clause-ended : goal.returns-in_default-clause-ended
returns-in_default-clause-ended g c =
    let cells = g.P.CellCaller.opening c.args.caller.now in
    let caller = g.P.CellCaller.number c.args.caller.now in
    let session = c.args.session.now.number in
    let own = g.P.CellCaller.own c.args.caller.now in
    let mid = g.P.CellCaller.own c.end_transaction.new.caller in
    let statement = c.args.session.now.statements + 1 in
    let mode = mode_of c.args.session.now.mode in
    without-reader (λ added. LeavesQuietly FitsShard CoreShardStands ShardAnswerSays cells caller session own mid added)
    session statement mode c.args.holder c.in_default.is
    (c.quiet_calls_leave_entries.ensures.plain cells caller session own mid (transaction_end session statement mode)
    c.in_ok-end_transaction.ensures.left)
