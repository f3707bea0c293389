use Rattle.std.proofs.Common.{◌∙◌, ◌+◌, ℕ, List, slice_index_or, refl, sym, subst, arith}
use Rattle.std.proofs.lemmas.Option.{slice_get-get_or}
use Rattle.core_program.specs.ClientCalls.{HasFetched, LearnsByFetch}
use Rattle.core_program.specs.Knowing.{Knows, MayFetchFrom, ServesClient}
use Rattle.cube_core.specs.declared.jobs.JobAnswer.{JobAnswer}
use Rattle.job_groups.proofs.FetchLoops.{FetchedFrom, fetched-from-next, fetched-from-none, knows-fetch-from, learns-of-fetches}
use Rattle.job_groups.proofs.some_shards.fetch_some_shards.Goals as goal

pub fetches-init : goal.fetches-init
fetches-init g c = (
  c.requires.board,
  refl,
  refl,
  refl,
  c.requires.room,
  fetched-from-none g.S.LinkedShard.fits g.S.LinkedShard.stands g.S.LinkedShard.says (g.P.CellCaller.opening c.args.caller.now)
      (g.P.CellCaller.number c.args.caller.now) c.args.client c.args.numbers.now (g.P.CellCaller.own c.args.caller.now) c.args.answers.items
      c.requires.empty c.requires.awaits,
)

pub fetch_answer-answer-requires-clause-may : goal.fetch_answer-answer-requires-clause-may
fetch_answer-answer-requires-clause-may g c =
    let held = c.fetches.invariant in
    let own = g.P.CellCaller.own in
    let low = c.fetches-test.true in
    let number = slice_index_or c.args.numbers.now c.fetches.place 0 in
    coe 1 0
    (i. Knows g.S.LinkedShard.fits g.S.LinkedShard.stands g.S.LinkedShard.says (held.1 i) (held.2 i) c.args.client (own c.fetches.caller)
    (MayFetchFrom c.args.client number))
    (knows-fetch-from g.S.LinkedShard.fits g.S.LinkedShard.stands g.S.LinkedShard.says (g.P.CellCaller.opening c.args.caller.now)
    (g.P.CellCaller.number c.args.caller.now) c.args.client c.args.numbers.now (own c.args.caller.now) c.fetches.place number c.fetches.answers.items
    (own c.fetches.caller) held.5 (slice_get-get_or c.args.numbers.now c.fetches.place 0 low))

pub fetch_answer-answer-requires-clause-serves : goal.fetch_answer-answer-requires-clause-serves
fetch_answer-answer-requires-clause-serves g c =
    let held = c.fetches.invariant in
    let number = slice_index_or c.args.numbers.now c.fetches.place 0 in
    coe 1 0
    (i. ServesClient g.S.LinkedShard.fits g.S.LinkedShard.stands g.S.LinkedShard.says (held.1 i) c.args.client number)
    (c.requires.mails.serve number (c.requires.below c.fetches.place 0 c.fetches-test.true))

pub fetches-preserved : goal.fetches-preserved
fetches-preserved g c =
    let held = c.fetches.invariant in
    let own = g.P.CellCaller.own in
    let cells = g.P.CellCaller.opening c.args.caller.now in
    let caller = g.P.CellCaller.number c.args.caller.now in
    let low = c.fetches-test.true in
    let number = slice_index_or c.args.numbers.now c.fetches.place 0 in
    let cell = 2 + c.args.size.now.shards + number in
    let got = c.fetch_answer-answer.ensures in
    let said = c.fetch_answer-answer.result in
    let room = held.4 in
    let same = c.push_reserved.ensures.capacity in (
      got.board,
      got.opening ∙ held.1,
      got.number ∙ held.2,
      got.others ∙ held.3,
      omega (arith, room, same),
      subst (λ (l : List JobAnswer). FetchedFrom g.S.LinkedShard.fits g.S.LinkedShard.stands g.S.LinkedShard.says cells caller c.args.client
          c.args.numbers.now (own c.args.caller.now) (c.fetches.place + 1) l (own c.fetch_answer-answer.new.caller)) (sym c.push_reserved.ensures.items)
          (fetched-from-next g.S.LinkedShard.fits g.S.LinkedShard.stands g.S.LinkedShard.says cells caller c.args.client c.args.numbers.now (own c.args.caller.now)
          c.requires.once c.fetches.place number cell c.fetches.answers.items (own c.fetches.caller)
          (own c.fetch_answer-answer.new.caller) said held.5
          (slice_get-get_or c.args.numbers.now c.fetches.place 0 low)
          (subst (λ (n : ℕ). HasFetched n c.args.client cell said (own c.fetches.caller) (own c.fetch_answer-answer.new.caller)) held.2 got.fetched)
          (coe 0 1 (i. LearnsByFetch g.S.LinkedShard.fits g.S.LinkedShard.stands g.S.LinkedShard.says (held.1 i) c.args.client number said
          (own c.fetches.caller) (own c.fetch_answer-answer.new.caller)) got.learns)),
    )

pub returns-clause-answers : goal.returns-clause-answers
returns-clause-answers g c =
    let done = c.fetches-test.false in
    let within = c.fetches.auto.place-end in
    let answered = c.fetches.invariant.5.answered in
    omega (arith, done, within, answered)

pub returns-clause-more : goal.returns-clause-more
returns-clause-more g c = c.fetches.invariant.5.more

pub returns-clause-learns : goal.returns-clause-learns
returns-clause-learns g c =
    let held = c.fetches.invariant in
    let own = g.P.CellCaller.own in
    let done = c.fetches-test.false in
    let within = c.fetches.auto.place-end in
    learns-of-fetches g.S.LinkedShard.fits g.S.LinkedShard.stands g.S.LinkedShard.says (g.P.CellCaller.opening c.args.caller.now)
    (g.P.CellCaller.number c.args.caller.now) c.args.client c.args.numbers.now (own c.args.caller.now) c.fetches.place
    c.fetches.answers.items (own c.fetches.caller) (omega (arith, done, within)) held.5
