use Rattle.std.proofs.Common.{◌≡◌, ◌∙◌, ◌+◌, ◌++◌, [], ◌∷◌}
use Rattle.core_program.specs.ClientCalls.{desk_entry}
use Rattle.core_cells.specs.declared.desk.DeskAnswer.TheVariants as answer
use Rattle.core_cells.specs.declared.desk.DeskCall.TheVariants as call
use Rattle.core_events.specs.Clients.{calls_of, is_lost_to_disk, state_from_calls}
use Rattle.core_program.specs.Flushing.{IsFlusherOf}
use Rattle.flush_loop.specs.MadeRounds.{KnowsBetween}
use Rattle.flush_round.proofs.StoreFollows.{told-before}
use Rattle.flush_round.specs.KeptRounds.{HoldsAfterEnd}
use Rattle.linked_shards.specs.CellShards.{CoreShardStands}
use Rattle.round_copies.specs.WithinRounds.{StaysWithinRound}
use Rattle.shard_events.specs.ShardsInRuns.{FitsShard, ShardAnswerSays}
use Rattle.stored_rounds.proofs.ClosedRounds.{ends-so, holds-so}
use Rattle.stored_rounds.specs.OwnKnowledge.{IsRoundOfRuns}
use Rattle.stored_rounds.specs.RoundsInStore.{EndsAs, result_of_end}
use Rattle.stored_rounds.specs.declared.stored.StoredRounds.{StoredRounds}
use Rattle.stored_rounds.proofs.stored.StoredRounds.keep_and_close.Goals as goal

pub keep_round-how-requires-clause-told : goal.keep_round-how-requires-clause-told
keep_round-how-requires-clause-told g c = λ o log run es later are.
    let kept = c.requires.ready.0 in
    let ready = c.requires.ready.1 in
    told-before c.args.self.now.store kept ready.takes.at.store
    (state_from_calls o (c.args.size.now.sessions + 1) (calls_of (c.args.size.now.sessions + 1) es))
    (ready.by_calls.told o log run es later are)

pub keep_round-how-requires-clause-ready : goal.keep_round-how-requires-clause-ready
keep_round-how-requires-clause-ready g c = (c.requires.ready.0, c.requires.ready.1.takes)

pub close_round-requires-clause-flusher : goal.close_round-requires-clause-flusher
close_round-requires-clause-flusher g c =
    let did = c.keep_round-how.ensures in
    coe 1 0
    (i. IsFlusherOf FitsShard CoreShardStands ShardAnswerSays (did.opening i) (did.number i) (c.args.size.now.sessions + 1)
    c.args.size.now.shards) c.requires.flusher

pub close_round-requires-clause-within : goal.close_round-requires-clause-within
close_round-requires-clause-within g c = (c.args.span.from, c.keep_round-how.ensures.open)

pub returns-clause-closes : goal.returns-clause-closes
returns-clause-closes g c =
    let first = c.args.caller.now in
    let mid = c.keep_round-how.new.caller in
    let now = c.close_round.new.caller in
    let client = c.args.size.now.sessions + 1 in
    let did = c.keep_round-how.ensures in
    let closed = c.close_round.ensures in
    record {
      last = g.P.CellCaller.own mid;
      more = did.more;
      within = coe 0 1
          (i. StaysWithinRound (did.opening i) (did.number i) client (g.P.CellCaller.own first) (g.P.CellCaller.own mid)) did.within;
      whole = coe 0 1
          (i. g.P.CellCaller.own now ≡ g.P.CellCaller.own mid
          ++ desk_entry (did.number i) (call.RoundClose c.args.span.epoch c.keep_round-how.result) answer.Done ∷ []) closed.own;
    }

pub returns-clause-kept : goal.returns-clause-kept
returns-clause-kept g c =
    let cells = g.P.CellCaller.opening in
    let number = g.P.CellCaller.number in
    let own = g.P.CellCaller.own in
    let view = g.D.Disk.view in
    let first = c.args.caller.now in
    let mid = c.keep_round-how.new.caller in
    let now = c.close_round.new.caller in
    let client = c.args.size.now.sessions + 1 in
    let how = c.keep_round-how.result in
    let did = c.keep_round-how.ensures in
    let closed = c.close_round.ensures in
    let m = c.args.self.now in
    let new : StoredRounds _ = record m {
      store = c.keep_round-how.new.store;
      first = c.keep_round-how.new.disk;
      second = c.keep_round-how.new.other;
    } in
    λ begun kept ready rounds counts. holds-so (cells first) (number first) client c.args.size.now.shards c.requires.flusher view c.args.span kept m new
    (own first) (own mid) ready did.more
    (coe 0 1 (i. StaysWithinRound (did.opening i) (did.number i) client (own first) (own mid)) did.within)
    did.first_still did.second_still begun rounds counts
    (record { first_count = did.first_count; second_count = did.second_count }) how (own now)
    (coe 0 1
    (i. own now ≡ own mid ++ desk_entry (did.number i) (call.RoundClose c.args.span.epoch how) answer.Done ∷ []) closed.own)
    (coe 0 1
    (i. HoldsAfterEnd (did.opening i) (did.number i) client (own first) (own mid) m.store new.store kept c.args.span (view m.first) (view m.second)
    (view new.first) (view new.second) how) (did.kept kept ready.takes))
    (λ lost. let same = did.memory lost in λ i. record m { store = same.0 i; first = same.1 i; second = same.2 i }) did.failed
    (coe 0 1
    (i. KnowsBetween FitsShard CoreShardStands ShardAnswerSays ((closed.opening ∙ did.opening) i) ((closed.number ∙ did.number) i) client
    (is_lost_to_disk how) (own now)) closed.between)

pub returns-clause-ends : goal.returns-clause-ends
returns-clause-ends g c =
    let cells = g.P.CellCaller.opening in
    let number = g.P.CellCaller.number in
    let own = g.P.CellCaller.own in
    let view = g.D.Disk.view in
    let first = c.args.caller.now in
    let mid = c.keep_round-how.new.caller in
    let client = c.args.size.now.sessions + 1 in
    let how = c.keep_round-how.result in
    let did = c.keep_round-how.ensures in
    let closed = c.close_round.ensures in
    let now = c.close_round.new.caller in
    let m = c.args.self.now in
    let new : StoredRounds _ = record m {
      store = c.keep_round-how.new.store;
      first = c.keep_round-how.new.disk;
      second = c.keep_round-how.new.other;
    } in
    let kept = c.requires.ready.0 in (
      kept,
      coe 1 0
          (i. EndsAs view (IsRoundOfRuns ((closed.opening ∙ did.opening) i) ((closed.number ∙ did.number) i) client (own now))
          (result_of_end c.args.span.epoch how) kept m new)
          (ends-so (cells first) (number first) client c.args.size.now.shards c.requires.flusher view c.args.span kept m new (own first)
          (own mid) c.requires.ready.1 did.more
          (coe 0 1 (i. StaysWithinRound (did.opening i) (did.number i) client (own first) (own mid)) did.within)
          did.first_still did.second_still how (own now)
          (coe 0 1
          (i. own now ≡ own mid ++ desk_entry (did.number i) (call.RoundClose c.args.span.epoch how) answer.Done ∷ []) closed.own)
          (coe 0 1
          (i. HoldsAfterEnd (did.opening i) (did.number i) client (own first) (own mid) m.store new.store kept c.args.span (view m.first)
          (view m.second) (view new.first) (view new.second) how) (did.kept kept c.requires.ready.1.takes))
          (λ lost. let same = did.memory lost in λ i. record m { store = same.0 i; first = same.1 i; second = same.2 i }) did.failed),
    )
