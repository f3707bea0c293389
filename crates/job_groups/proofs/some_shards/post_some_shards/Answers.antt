use Rattle.std.proofs.Common.{◌∙◌, ◌+◌, ◌∷◌, [], ◌++◌, slice_index_or, refl, arith}
use Rattle.std.proofs.lemmas.Option.{slice_get-get_or}
use Rattle.core_program.specs.ClientCalls.{post_entry}
use Rattle.core_program.specs.Knowing.{Knows, MayPostJob}
use Rattle.cube_core.specs.declared.jobs.Work.TheVariants as work
use Rattle.job_groups.proofs.GroupLoops.{knows-post, learns-of-posts, next-of, posted-next, posted-none}
use Rattle.job_groups.proofs.some_shards.post_some_shards.Goals as goal

pub posts-init : goal.posts-init
posts-init g c = (
  c.requires.board,
  refl,
  refl,
  refl,
  refl,
  posted-none g.S.LinkedShard.fits g.S.LinkedShard.stands g.S.LinkedShard.says (g.P.CellCaller.opening c.args.caller.now) (g.P.CellCaller.number c.args.caller.now)
      c.args.client c.args.numbers.now c.args.calls.items (g.P.CellCaller.own c.args.caller.now),
)

pub post_job-requires-clause-may : goal.post_job-requires-clause-may
post_job-requires-clause-may g c =
    let held = c.posts.invariant in
    let own = g.P.CellCaller.own in
    let cells = g.P.CellCaller.opening c.args.caller.now in
    let caller = g.P.CellCaller.number c.args.caller.now in
    let low = c.posts-test.true in
    let number = slice_index_or c.args.numbers.now c.posts.place 0 in
    let all = c.requires.each in
    let removed = c.remove-call.ensures in
    let is =
    next-of c.args.calls.items c.posts.calls.items c.remove-call.new.self.items c.posts.place c.remove-call.result held.4
    (omega (arith, low, all)) removed.value removed.by_index.2
    in
    coe 1 0
    (i. Knows g.S.LinkedShard.fits g.S.LinkedShard.stands g.S.LinkedShard.says (held.1 i) (held.2 i) c.args.client (own c.posts.caller)
    (MayPostJob g.S.LinkedShard.fits c.args.client number (record {
      session = c.args.client;
      statement = c.args.statement;
      work = work.Shard c.remove-call.result;
    })))
    (knows-post g.S.LinkedShard.fits g.S.LinkedShard.stands g.S.LinkedShard.says cells caller c.args.client c.args.numbers.now c.args.calls.items (own c.args.caller.now)
    c.requires.kind c.requires.once c.posts.place number c.args.statement (own c.posts.caller) c.remove-call.result held.5
    c.requires.may
    (slice_get-get_or c.args.numbers.now c.posts.place 0 low) is.0)

pub posts-preserved : goal.posts-preserved
posts-preserved g c =
    let held = c.posts.invariant in
    let own = g.P.CellCaller.own in
    let cells = g.P.CellCaller.opening c.args.caller.now in
    let caller = g.P.CellCaller.number c.args.caller.now in
    let low = c.posts-test.true in
    let number = slice_index_or c.args.numbers.now c.posts.place 0 in
    let cell = 2 + c.args.size.now.shards + number in
    let all = c.requires.each in
    let removed = c.remove-call.ensures in
    let took = c.post_job.ensures in
    let is =
    next-of c.args.calls.items c.posts.calls.items c.remove-call.new.self.items c.posts.place c.remove-call.result held.4
    (omega (arith, low, all)) removed.value removed.by_index.2
    in (
      took.board,
      took.opening ∙ held.1,
      took.number ∙ held.2,
      took.others ∙ held.3,
      is.1,
      posted-next g.S.LinkedShard.fits g.S.LinkedShard.stands g.S.LinkedShard.says cells caller c.args.client c.args.numbers.now c.args.calls.items (own c.args.caller.now)
          c.requires.kind c.requires.once c.posts.place number cell c.args.statement (own c.posts.caller) (own c.post_job.new.caller) c.remove-call.result held.5
          c.requires.may
          (slice_get-get_or c.args.numbers.now c.posts.place 0 low) is.0
          (took.own ∙ (λ i. own c.posts.caller ++ post_entry (held.2 i) c.args.client cell (record {
            session = c.args.client;
            statement = c.args.statement;
            work = work.Shard c.remove-call.result;
          }) ∷ []))
          (λ o log es opens are. c.clients_learn_by_each_call.ensures.post cells caller c.args.client number cell (own c.posts.caller)
          (record { session = c.args.client; statement = c.args.statement; work = work.Shard c.remove-call.result }) o log es c.requires.client
          (c.requires.mails.each number (c.requires.below c.posts.place 0 low)) opens are),
    )

pub returns-clause-more : goal.returns-clause-more
returns-clause-more g c = c.posts.invariant.5.more

pub returns-clause-learns : goal.returns-clause-learns
returns-clause-learns g c =
    let held = c.posts.invariant in
    let own = g.P.CellCaller.own in
    let done = c.posts-test.false in
    let within = c.posts.auto.place-end in
    let some = c.requires.some in
    learns-of-posts g.S.LinkedShard.fits g.S.LinkedShard.stands g.S.LinkedShard.says (g.P.CellCaller.opening c.args.caller.now)
    (g.P.CellCaller.number c.args.caller.now) c.args.client c.args.numbers.now c.args.calls.items (own c.args.caller.now) c.posts.place
    (own c.posts.caller) (omega (arith, done, within, some)) (omega (arith, done, within)) held.5
