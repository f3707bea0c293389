use Rattle.std.proofs.Common.{◌≡◌, ◌≤◌, ◌∙◌, ◌+◌, ◌++◌, List, [], ◌∷◌, refl, sym, subst, arith}
use Rattle.board_callers.specs.Callers.{HasHistoryOf}
use Rattle.core_program.specs.ClientCalls.{HasFetched, LearnsByFetch, post_entry}
use Rattle.closing_calls.specs.ClosingCalls.{HasPurgedAll, MainKnows, MainStays}
use Rattle.closing_calls.proofs.MainPurges.{has-purged, may-purge-each, stays-after}
use Rattle.closing_calls.proofs.PurgeLoops.{all-learnt, may-fetch-next, may-post-next, none-fetched, none-posted, one-fetched, one-posted}
use Rattle.core_program.specs.Knowing.{Knows, MayFetchFrom, MayPostJob}
use Rattle.core_program.specs.CoreFits.{CoreEntry, FitsOwnCalls}
use Rattle.cube_core.specs.CoreSteps.{CoreStep}
use Rattle.cube_core.specs.declared.jobs.Work.TheVariants as work
use Rattle.cube_core.specs.declared.shard.ShardCall.TheVariants as call
use Rattle.linked_shards.specs.CellShards.{CoreShardStands, CoreShardStep}
use Rattle.session_groups.specs.ShardGroups.{HasAskedAll}
use Rattle.shard_events.specs.ShardsInRuns.{FitsShard, ShardAnswerSays}
use Rattle.closing_calls.proofs.purges.purge_all.Goals as goal

pub posts-init : goal.posts-init
posts-init g c = (
  c.requires.board,
  refl,
  refl,
  refl,
  none-posted (g.P.CellCaller.opening c.args.caller.now) c.args.size.now.shards c.args.epoch (g.P.CellCaller.own c.args.caller.now),
)

pub post_job-requires-clause-may : goal.post_job-requires-clause-may
post_job-requires-clause-may g c =
    let held = c.posts.invariant in
    let own = g.P.CellCaller.own in
    let cells = g.P.CellCaller.opening c.args.caller.now in
    let shards = c.args.size.now.shards in
    coe 1 0 (i. Knows FitsShard CoreShardStands ShardAnswerSays (held.1 i) ((held.2 ∙ c.requires.main) i) 0 (own c.posts.caller)
    (MayPostJob FitsShard 0 c.posts.number (record { session = 0; statement = 0; work = work.Shard (call.Purge c.args.epoch) })))
    (may-post-next cells shards c.args.epoch (own c.args.caller.now) c.posts.number (own c.posts.caller) held.4
    (may-purge-each cells c.requires.client shards c.requires.some c.requires.mails c.args.epoch (own c.args.caller.now) c.requires.ready c.requires.safe)
    c.posts-test.true)

pub posts-preserved : goal.posts-preserved
posts-preserved g c =
    let held = c.posts.invariant in
    let own = g.P.CellCaller.own in
    let cells = g.P.CellCaller.opening c.args.caller.now in
    let shards = c.args.size.now.shards in
    let did = c.post_job.ensures in (
      did.board,
      did.opening ∙ held.1,
      did.number ∙ held.2,
      did.others ∙ held.3,
      one-posted cells shards c.args.epoch (own c.args.caller.now) c.posts.number (own c.posts.caller) (own c.post_job.new.caller) held.4
          (may-purge-each cells c.requires.client shards c.requires.some c.requires.mails c.args.epoch (own c.args.caller.now) c.requires.ready
          c.requires.safe)
          c.posts-test.true c.requires.client c.requires.mails
          (did.own ∙ (λ i. own c.posts.caller ++ post_entry ((held.2 ∙ c.requires.main) i) 0 (2 + shards + c.posts.number)
          (record { session = 0; statement = 0; work = work.Shard (call.Purge c.args.epoch) }) ∷ [])),
    )

pub fetches-init : goal.fetches-init
fetches-init g c =
    let held = c.posts.invariant in
    let done = c.posts-test.false in
    let within = c.posts.auto.number-end in
    let some = c.requires.some in (
      held.0,
      held.1,
      held.2,
      held.3,
      none-fetched (g.P.CellCaller.opening c.args.caller.now) c.args.size.now.shards c.args.epoch (g.P.CellCaller.own c.args.caller.now)
          c.posts.number (g.P.CellCaller.own c.posts.caller) (omega (arith, done, within)) (omega (arith, done, within, some)) held.4,
      (λ le. absurd (omega (arith, le))),
    )

pub fetch_answer-requires-clause-may : goal.fetch_answer-requires-clause-may
fetch_answer-requires-clause-may g c =
    let held = c.fetches.invariant in
    let own = g.P.CellCaller.own in
    coe 1 0 (i. Knows FitsShard CoreShardStands ShardAnswerSays (held.1 i) ((held.2 ∙ c.requires.main) i) 0 (own c.fetches.caller)
    (MayFetchFrom 0 c.fetches.number))
    (may-fetch-next (g.P.CellCaller.opening c.args.caller.now) c.args.size.now.shards c.args.epoch (own c.args.caller.now) c.fetches.number
    (own c.fetches.caller) held.4 c.fetches-test.true)

pub fetches-preserved : goal.fetches-preserved
fetches-preserved g c =
    let held = c.fetches.invariant in
    let own = g.P.CellCaller.own in
    let shards = c.args.size.now.shards in
    let got = c.fetch_answer.ensures in
    let said = c.fetch_answer.result in
    let before = c.fetches.caller in
    let after = c.fetch_answer.new.caller in (
      got.board,
      got.opening ∙ held.1,
      got.number ∙ held.2,
      got.others ∙ held.3,
      one-fetched (g.P.CellCaller.opening c.args.caller.now) shards c.args.epoch (own c.args.caller.now) c.fetches.number (own before) (own after) said
          held.4 c.fetches-test.true
          (coe 0 1 (i. HasFetched ((held.2 ∙ c.requires.main) i) 0 (2 + shards + c.fetches.number) said (own before) (own after)) got.fetched)
          (coe 0 1 (i. LearnsByFetch FitsShard CoreShardStands ShardAnswerSays (held.1 i) 0 c.fetches.number said (own before) (own after)) got.learns),
      (λ le. got.history),
    )

pub returns-clause-asked : goal.returns-clause-asked
returns-clause-asked g c =
    let held = c.fetches.invariant in
    let done = c.fetches-test.false in
    let within = c.fetches.auto.number-end in
    let own = g.P.CellCaller.own in
    let all : c.fetches.number ≡ c.args.size.now.shards = omega (arith, done, within) in
    record {
      more = held.4.so_far.more;
      answers = held.4.answers;
      each = held.4.so_far.answered ∙ all;
      learns = all-learnt (g.P.CellCaller.opening c.args.caller.now) c.args.size.now.shards c.args.epoch (own c.args.caller.now) c.fetches.number
          (own c.fetches.caller) all held.4;
    }

pub returns-clause-purged : goal.returns-clause-purged
returns-clause-purged g c =
    let held = c.fetches.invariant in
    let done = c.fetches-test.false in
    let within = c.fetches.auto.number-end in
    let some = c.requires.some in
    let own = g.P.CellCaller.own in
    let cells = g.P.CellCaller.opening c.args.caller.now in
    let shards = c.args.size.now.shards in
    let all : c.fetches.number ≡ shards = omega (arith, done, within) in
    let one : 1 ≤ c.fetches.number = omega (arith, done, within, some) in
    coe 1 0 (i. MainKnows (held.1 i) (own c.fetches.caller) (HasPurgedAll c.args.epoch))
    (has-purged cells c.requires.client shards some c.requires.mails c.args.epoch (own c.args.caller.now) (own c.fetches.caller) held.4.answers
    (held.4.so_far.answered ∙ all) held.4.so_far.more
    (all-learnt cells shards c.args.epoch (own c.args.caller.now) c.fetches.number (own c.fetches.caller) all held.4)
    (coe 0 1 (i. HasHistoryOf (CoreStep CoreShardStep) (FitsOwnCalls FitsShard CoreShardStands ShardAnswerSays) (held.1 i)
    ((held.2 ∙ c.requires.main) i) (own c.fetches.caller)) (held.5 one)))

pub returns-clause-stays : goal.returns-clause-stays
returns-clause-stays g c =
    let held = c.fetches.invariant in
    let done = c.fetches-test.false in
    let within = c.fetches.auto.number-end in
    let some = c.requires.some in
    let own = g.P.CellCaller.own in
    let cells = g.P.CellCaller.opening c.args.caller.now in
    let shards = c.args.size.now.shards in
    let all : c.fetches.number ≡ shards = omega (arith, done, within) in
    let one : 1 ≤ c.fetches.number = omega (arith, done, within, some) in
    coe 1 0 (i. MainStays cells (own c.args.caller.now) (held.1 i) (own c.fetches.caller))
    (stays-after cells c.requires.client shards some c.requires.mails c.args.epoch (own c.args.caller.now) (own c.fetches.caller) held.4.answers
    (held.4.so_far.answered ∙ all) held.4.so_far.more
    (all-learnt cells shards c.args.epoch (own c.args.caller.now) c.fetches.number (own c.fetches.caller) all held.4)
    (coe 0 1 (i. HasHistoryOf (CoreStep CoreShardStep) (FitsOwnCalls FitsShard CoreShardStands ShardAnswerSays) (held.1 i)
    ((held.2 ∙ c.requires.main) i) (own c.fetches.caller)) (held.5 one)))
