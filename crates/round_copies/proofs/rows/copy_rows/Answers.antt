use Rattle.std.proofs.Common.{◌≡◌, ◌∙◌, List, length, map, All, ap, sym, subst}
use Rattle.std.proofs.lemmas.Result.{IfOk-weaker}
use Rattle.std.proofs.lemmas.List.{length-map}
use Rattle.core_program.specs.Knowing.{Knows}
use Rattle.cube_core.specs.declared.shard.ShardCall.{ShardCall}
use Rattle.core_program.proofs.FlusherCalls.{is-client}
use Rattle.cube_core.specs.declared.shard.ShardCall.TheVariants as call
use Rattle.job_groups.specs.AskedEach.{AreOfOneKind, MayAskEach}
use Rattle.round_copies.proofs.CopyTurns.{one-kind}
use Rattle.job_groups.specs.EachPosted.{LearnsOfEach}
use Rattle.linked_shards.specs.CellShards.{CoreShardStands}
use Rattle.round_copies.proofs.CopiedRows.{copies-open, copies-rows, copies-sound, copies-told, copies-within, may-copy-each}
use Rattle.round_copies.specs.CopyAnswers.{copy_answer}
use Rattle.round_copies.specs.RoundCopies.{HasRows, IsSoundCopy, IsToldOf, IsWithin, first_epoch}
use Rattle.round_copies.specs.WithinRounds.{HasHistory, KnowsOfFlusher, StaysWithinRound}
use Rattle.shard_events.specs.ShardsInRuns.{FitsShard, ShardAnswerSays}
use Rattle.round_copies.proofs.rows.copy_rows.Goals as goal

pub ask_each_shard-answers-requires-clause-may : goal.ask_each_shard-answers-requires-clause-may
ask_each_shard-answers-requires-clause-may g c =
    let cells = g.P.CellCaller.opening c.args.caller.now in
    let caller = g.P.CellCaller.number c.args.caller.now in
    let own = g.P.CellCaller.own c.args.caller.now in
    subst
    (λ (l : List ShardCall). Knows FitsShard CoreShardStands ShardAnswerSays cells caller c.args.client own (MayAskEach FitsShard c.args.client l))
    (sym c.in_ok-calls.ensures)
    (may-copy-each cells caller c.args.client c.args.size.now.shards c.requires.flusher c.requires.some c.args.span own c.requires.round)

pub ask_each_shard-answers-requires-clause-client : goal.ask_each_shard-answers-requires-clause-client
ask_each_shard-answers-requires-clause-client g c =
    is-client FitsShard CoreShardStands ShardAnswerSays (g.P.CellCaller.opening c.args.caller.now)
    (g.P.CellCaller.number c.args.caller.now) c.args.client c.args.size.now.shards c.requires.flusher

pub ask_each_shard-answers-requires-clause-kind : goal.ask_each_shard-answers-requires-clause-kind
ask_each_shard-answers-requires-clause-kind g c =
    subst (λ (l : List ShardCall). AreOfOneKind l) (sym c.in_ok-calls.ensures)
    (one-kind c.args.size.now.shards (call.CopyRound (first_epoch c.args.span) c.args.span.epoch))

pub returns-clause-within : goal.returns-clause-within
returns-clause-within g c =
    let cells = g.P.CellCaller.opening c.args.caller.now in
    let caller = g.P.CellCaller.number c.args.caller.now in
    let own = g.P.CellCaller.own c.args.caller.now in
    let now = g.P.CellCaller.own c.ask_each_shard-answers.new.caller in
    let took = c.ask_each_shard-answers.ensures in
    let answers = c.ask_each_shard-answers.result.items in
    coe 1 0 (i. StaysWithinRound (took.opening i) (took.number i) c.args.client own now)
    (copies-within cells caller c.args.client c.args.size.now.shards c.requires.flusher c.requires.some c.args.span own now answers
    took.answers took.more
    (subst (λ (l : List ShardCall). LearnsOfEach FitsShard CoreShardStands ShardAnswerSays cells caller c.args.client l answers own now)
    c.in_ok-calls.ensures took.learns))

pub returns-clause-open : goal.returns-clause-open
returns-clause-open g c =
    let cells = g.P.CellCaller.opening c.args.caller.now in
    let caller = g.P.CellCaller.number c.args.caller.now in
    let own = g.P.CellCaller.own c.args.caller.now in
    let now = g.P.CellCaller.own c.ask_each_shard-answers.new.caller in
    let took = c.ask_each_shard-answers.ensures in
    let answers = c.ask_each_shard-answers.result.items in
    coe 1 0 (i. KnowsOfFlusher (took.opening i) (took.number i) c.args.client now (IsWithin c.args.span))
    (copies-open cells caller c.args.client c.args.size.now.shards c.requires.flusher c.requires.some c.args.span own now answers
    took.answers took.more
    (subst (λ (l : List ShardCall). LearnsOfEach FitsShard CoreShardStands ShardAnswerSays cells caller c.args.client l answers own now)
    c.in_ok-calls.ensures took.learns) c.requires.round)

pub returns-clause-told : goal.returns-clause-told
returns-clause-told g c cubes counts knows =
    let cells = g.P.CellCaller.opening c.args.caller.now in
    let caller = g.P.CellCaller.number c.args.caller.now in
    let own = g.P.CellCaller.own c.args.caller.now in
    let now = g.P.CellCaller.own c.ask_each_shard-answers.new.caller in
    let took = c.ask_each_shard-answers.ensures in
    let answers = c.ask_each_shard-answers.result.items in
    coe 1 0 (i. KnowsOfFlusher (took.opening i) (took.number i) c.args.client now (λ o k. IsToldOf cubes counts k))
    (copies-told cells caller c.args.client c.args.size.now.shards c.requires.flusher c.requires.some c.args.span own now answers
    took.answers took.more
    (subst (λ (l : List ShardCall). LearnsOfEach FitsShard CoreShardStands ShardAnswerSays cells caller c.args.client l answers own now)
    c.in_ok-calls.ensures took.learns) cubes counts knows)

pub returns-clause-sound : goal.returns-clause-sound
returns-clause-sound g c =
    let cells = g.P.CellCaller.opening c.args.caller.now in
    let caller = g.P.CellCaller.number c.args.caller.now in
    let own = g.P.CellCaller.own c.args.caller.now in
    let now = g.P.CellCaller.own c.ask_each_shard-answers.new.caller in
    let took = c.ask_each_shard-answers.ensures in
    let answers = c.ask_each_shard-answers.result.items in
    IfOk-weaker c.copies_in.result (λ copies. answers ≡ map copy_answer copies.items) (λ copies. All IsSoundCopy copies.items)
    (λ copies same.
    copies-sound cells caller c.args.client c.args.size.now.shards c.requires.flusher c.requires.some c.args.span own now answers
    took.answers took.more
    (subst (λ (l : List ShardCall). LearnsOfEach FitsShard CoreShardStands ShardAnswerSays cells caller c.args.client l answers own now)
    c.in_ok-calls.ensures took.learns) copies.items same
    (sym (ap length same ∙ length-map copies.items copy_answer) ∙ took.answers)
    (coe 0 1 (i. HasHistory (took.opening i) (took.number i) now) took.history))
    c.copies_in.ensures

pub returns-clause-copied : goal.returns-clause-copied
returns-clause-copied g c =
    let cells = g.P.CellCaller.opening c.args.caller.now in
    let caller = g.P.CellCaller.number c.args.caller.now in
    let own = g.P.CellCaller.own c.args.caller.now in
    let now = g.P.CellCaller.own c.ask_each_shard-answers.new.caller in
    let took = c.ask_each_shard-answers.ensures in
    let answers = c.ask_each_shard-answers.result.items in
    IfOk-weaker c.copies_in.result (λ copies. answers ≡ map copy_answer copies.items)
    (λ copies. KnowsOfFlusher (g.P.CellCaller.opening c.ask_each_shard-answers.new.caller)
    (g.P.CellCaller.number c.ask_each_shard-answers.new.caller) c.args.client now (HasRows c.args.span copies.items))
    (λ copies same.
    coe 1 0 (i. KnowsOfFlusher (took.opening i) (took.number i) c.args.client now (HasRows c.args.span copies.items))
    (copies-rows cells caller c.args.client c.args.size.now.shards c.requires.flusher c.requires.some c.args.span own now answers
    took.answers took.more
    (subst (λ (l : List ShardCall). LearnsOfEach FitsShard CoreShardStands ShardAnswerSays cells caller c.args.client l answers own now)
    c.in_ok-calls.ensures took.learns) copies.items same
    (sym (ap length same ∙ length-map copies.items copy_answer) ∙ took.answers) c.requires.round))
    c.copies_in.ensures
