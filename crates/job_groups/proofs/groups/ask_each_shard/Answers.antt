use Rattle.std.proofs.Common.{◌∙◌, ◌+◌, ℕ, List, [], ◌∷◌, ◌++◌, length, refl, sym, subst, arith}
use Rattle.core_program.specs.ClientCalls.{HasFetched, LearnsByFetch, post_entry}
use Rattle.core_program.specs.Knowing.{Knows, MayFetchFrom, MayPostJob, ServesClient}
use Rattle.cube_core.specs.declared.jobs.JobAnswer.{JobAnswer}
use Rattle.cube_core.specs.declared.jobs.Work.TheVariants as work
use Rattle.job_groups.proofs.GroupLoops.{FetchedSome, fetched-next, fetched-none, knows-each, knows-fetch, knows-post, learns-of-each, next-of, number-is, posted-next, posted-none, some-at}
use Rattle.job_groups.proofs.Waits.{all-differ, as-many, numbers_from}
use Rattle.job_groups.proofs.groups.ask_each_shard.Goals as goal

pub posts-init : goal.posts-init
posts-init g c = (
  c.requires.board,
  refl,
  refl,
  refl,
  refl,
  posted-none g.S.LinkedShard.fits g.S.LinkedShard.stands g.S.LinkedShard.says (g.P.CellCaller.opening c.args.caller.now) (g.P.CellCaller.number c.args.caller.now)
      c.args.client (numbers_from 0 (length c.args.calls.items)) c.args.calls.items (g.P.CellCaller.own c.args.caller.now),
)

pub post_job-requires-clause-may : goal.post_job-requires-clause-may
post_job-requires-clause-may g c =
    let held = c.posts.invariant in
    let own = g.P.CellCaller.own in
    let cells = g.P.CellCaller.opening c.args.caller.now in
    let caller = g.P.CellCaller.number c.args.caller.now in
    let low = c.posts-test.true in
    let all = c.requires.each in
    let removed = c.remove-call.ensures in
    let is =
    next-of c.args.calls.items c.posts.calls.items c.remove-call.new.self.items c.posts.number c.remove-call.result held.4
    (omega (arith, low, all)) removed.value removed.by_index.2
    in
    coe 1 0
    (i. Knows g.S.LinkedShard.fits g.S.LinkedShard.stands g.S.LinkedShard.says (held.1 i) (held.2 i) c.args.client (own c.posts.caller)
    (MayPostJob g.S.LinkedShard.fits c.args.client c.posts.number (record {
      session = c.args.client;
      statement = c.args.statement;
      work = work.Shard c.remove-call.result;
    })))
    (knows-post g.S.LinkedShard.fits g.S.LinkedShard.stands g.S.LinkedShard.says cells caller c.args.client (numbers_from 0 (length c.args.calls.items)) c.args.calls.items (own c.args.caller.now)
    c.requires.kind (all-differ 0 (length c.args.calls.items)) c.posts.number c.posts.number c.args.statement (own c.posts.caller) c.remove-call.result held.5
    (knows-each g.S.LinkedShard.fits g.S.LinkedShard.stands g.S.LinkedShard.says cells caller c.args.client c.args.calls.items
    (own c.args.caller.now) c.requires.may)
    (number-is (length c.args.calls.items) c.posts.number (omega (arith, low, all))) is.0)

pub posts-preserved : goal.posts-preserved
posts-preserved g c =
    let held = c.posts.invariant in
    let own = g.P.CellCaller.own in
    let cells = g.P.CellCaller.opening c.args.caller.now in
    let caller = g.P.CellCaller.number c.args.caller.now in
    let cell = 2 + c.args.size.now.shards + c.posts.number in
    let low = c.posts-test.true in
    let all = c.requires.each in
    let removed = c.remove-call.ensures in
    let took = c.post_job.ensures in
    let is =
    next-of c.args.calls.items c.posts.calls.items c.remove-call.new.self.items c.posts.number c.remove-call.result held.4
    (omega (arith, low, all)) removed.value removed.by_index.2
    in (
      took.board,
      took.opening ∙ held.1,
      took.number ∙ held.2,
      took.others ∙ held.3,
      is.1,
      posted-next g.S.LinkedShard.fits g.S.LinkedShard.stands g.S.LinkedShard.says cells caller c.args.client (numbers_from 0 (length c.args.calls.items)) c.args.calls.items (own c.args.caller.now)
          c.requires.kind (all-differ 0 (length c.args.calls.items)) c.posts.number c.posts.number cell c.args.statement (own c.posts.caller) (own c.post_job.new.caller) c.remove-call.result held.5
          (knows-each g.S.LinkedShard.fits g.S.LinkedShard.stands g.S.LinkedShard.says cells caller c.args.client c.args.calls.items
          (own c.args.caller.now) c.requires.may)
          (number-is (length c.args.calls.items) c.posts.number (omega (arith, low, all))) is.0
          (took.own ∙ (λ i. own c.posts.caller ++ post_entry (held.2 i) c.args.client cell (record {
            session = c.args.client;
            statement = c.args.statement;
            work = work.Shard c.remove-call.result;
          }) ∷ []))
          (λ o log es opens are. c.clients_learn_by_each_call.ensures.post cells caller c.args.client c.posts.number cell (own c.posts.caller)
          (record { session = c.args.client; statement = c.args.statement; work = work.Shard c.remove-call.result }) o log es c.requires.client
          (c.requires.mails.each c.posts.number low) opens are),
    )

pub fetches-init : goal.fetches-init
fetches-init g c =
    let held = c.posts.invariant in
    let own = g.P.CellCaller.own in
    let done = c.posts-test.false in
    let within = c.posts.auto.number-end in
    let all = c.requires.each in
    let some = c.requires.some in (
      held.0,
      held.1,
      held.2,
      held.3,
      c.requires.room,
      fetched-none g.S.LinkedShard.fits g.S.LinkedShard.stands g.S.LinkedShard.says (g.P.CellCaller.opening c.args.caller.now)
          (g.P.CellCaller.number c.args.caller.now) c.args.client (numbers_from 0 (length c.args.calls.items)) c.args.calls.items (own c.args.caller.now) c.posts.number c.args.answers.items
          (own c.posts.caller) (omega (arith, done, within, all) ∙ sym (as-many 0 (length c.args.calls.items))) (omega (arith, done, within, some))
          c.requires.empty held.5,
      (λ le. absurd (omega (arith, le))),
    )

pub fetch_answer-answer-requires-clause-may : goal.fetch_answer-answer-requires-clause-may
fetch_answer-answer-requires-clause-may g c =
    let held = c.fetches.invariant in
    let own = g.P.CellCaller.own in
    let low = c.fetches-test.true in
    let all = c.requires.each in
    coe 1 0
    (i. Knows g.S.LinkedShard.fits g.S.LinkedShard.stands g.S.LinkedShard.says (held.1 i) (held.2 i) c.args.client (own c.fetches.caller)
    (MayFetchFrom c.args.client c.fetches.number))
    (knows-fetch g.S.LinkedShard.fits g.S.LinkedShard.stands g.S.LinkedShard.says (g.P.CellCaller.opening c.args.caller.now)
    (g.P.CellCaller.number c.args.caller.now) c.args.client (numbers_from 0 (length c.args.calls.items)) c.args.calls.items (own c.args.caller.now) c.fetches.number c.fetches.number c.fetches.answers.items
    (own c.fetches.caller) held.5 (number-is (length c.args.calls.items) c.fetches.number (omega (arith, low, all))))

pub fetch_answer-answer-requires-clause-serves : goal.fetch_answer-answer-requires-clause-serves
fetch_answer-answer-requires-clause-serves g c =
    let held = c.fetches.invariant in
    coe 1 0
    (i. ServesClient g.S.LinkedShard.fits g.S.LinkedShard.stands g.S.LinkedShard.says (held.1 i) c.args.client c.fetches.number)
    (c.requires.mails.serve c.fetches.number c.fetches-test.true)

pub fetches-preserved : goal.fetches-preserved
fetches-preserved g c =
    let held = c.fetches.invariant in
    let own = g.P.CellCaller.own in
    let cells = g.P.CellCaller.opening c.args.caller.now in
    let caller = g.P.CellCaller.number c.args.caller.now in
    let cell = 2 + c.args.size.now.shards + c.fetches.number in
    let low = c.fetches-test.true in
    let all = c.requires.each in
    let got = c.fetch_answer-answer.ensures in
    let said = c.fetch_answer-answer.result in
    let there = some-at c.args.calls.items c.fetches.number (omega (arith, low, all)) in
    let room = held.4 in
    let same = c.push_reserved.ensures.capacity in (
      got.board,
      got.opening ∙ held.1,
      got.number ∙ held.2,
      got.others ∙ held.3,
      omega (arith, room, same),
      subst (λ (l : List JobAnswer). FetchedSome g.S.LinkedShard.fits g.S.LinkedShard.stands g.S.LinkedShard.says cells caller c.args.client
          (numbers_from 0 (length c.args.calls.items)) c.args.calls.items (own c.args.caller.now) (c.fetches.number + 1) l (own c.fetch_answer-answer.new.caller)) (sym c.push_reserved.ensures.items)
          (fetched-next g.S.LinkedShard.fits g.S.LinkedShard.stands g.S.LinkedShard.says cells caller c.args.client (numbers_from 0 (length c.args.calls.items)) c.args.calls.items (own c.args.caller.now)
          c.requires.kind (all-differ 0 (length c.args.calls.items)) c.fetches.number c.fetches.number cell c.fetches.answers.items (own c.fetches.caller)
          (own c.fetch_answer-answer.new.caller) there.0 said held.5
          (number-is (length c.args.calls.items) c.fetches.number (omega (arith, low, all))) there.1
          (subst (λ (n : ℕ). HasFetched n c.args.client cell said (own c.fetches.caller) (own c.fetch_answer-answer.new.caller)) held.2 got.fetched)
          (coe 0 1 (i. LearnsByFetch g.S.LinkedShard.fits g.S.LinkedShard.stands g.S.LinkedShard.says (held.1 i) c.args.client c.fetches.number said
          (own c.fetches.caller) (own c.fetch_answer-answer.new.caller)) got.learns)),
      (λ le. got.history),
    )

pub returns-clause-learns : goal.returns-clause-learns
returns-clause-learns g c =
    let held = c.fetches.invariant in
    let own = g.P.CellCaller.own in
    let done = c.fetches-test.false in
    let within = c.fetches.auto.number-end in
    let all = c.requires.each in
    learns-of-each g.S.LinkedShard.fits g.S.LinkedShard.stands g.S.LinkedShard.says (g.P.CellCaller.opening c.args.caller.now)
    (g.P.CellCaller.number c.args.caller.now) c.args.client c.args.calls.items (own c.args.caller.now) c.fetches.number c.fetches.answers.items
    (own c.fetches.caller) (omega (arith, done, within, all)) held.5

pub returns-clause-history : goal.returns-clause-history
returns-clause-history g c =
    let done = c.fetches-test.false in
    let within = c.fetches.auto.number-end in
    let some = c.requires.some in
    c.fetches.invariant.6 (omega (arith, done, within, some))
