use Rattle.std.proofs.Common.{◌∙◌, ◌+◌, refl, subst, sym}
use Rattle.mail_cell.specs.declared.answer.Taken.TheVariants.{Job, Empty, Closed}
use Rattle.flush_loop.proofs.FlushTurning.{kept-by-take, not-turned, turns-end, turns-idle, turns-on}
use Rattle.flush_loop.proofs.ServedFlushes.{more-and-more, one-more}
use Rattle.flush_loop.specs.FlushTurns.{LearnsOfLastRound, LearnsOfService}
use Rattle.flush_loop.specs.MadeRounds.{GoesOnKeeping, HoldsInRuns}
use Rattle.flusher_mail.specs.FlusherMail.{LearnsOfTake, take_entry}
use Rattle.flush_loop.proofs.flushes.flush_loop.Goals as goal

pub flushes-init : goal.flushes-init
flushes-init g c = (
  c.requires.board,
  refl,
  refl,
  refl,
  not-turned g.S.LinkedShard.fits g.S.LinkedShard.stands g.S.LinkedShard.says (g.P.CellCaller.opening c.args.caller.now)
      (g.P.CellCaller.number c.args.caller.now) (c.args.size.now.sessions + 1) c.args.size.now.shards (g.P.CellCaller.own c.args.caller.now),
  c.requires.free,
  c.requires.serves,
  (λ begun held. held),
  g.met.M.MakesRounds.stays c.args.maker.now,
)

pub take_flush-requires-clause-free : goal.take_flush-requires-clause-free
take_flush-requires-clause-free g c = λ o log run es later are. (c.flushes.invariant.5 o log run es later are).has

pub serve_flush-lost-requires-clause-taken : goal.serve_flush-lost-requires-clause-taken
serve_flush-lost-requires-clause-taken g c = c.in-Job.ensures.after c.flushes.lost c.flushes.invariant.5

pub make_last_round-requires-clause-free : goal.make_last_round-requires-clause-free
make_last_round-requires-clause-free g c = c.in-Closed.ensures.after c.flushes.lost c.flushes.invariant.5

pub serve_flush-lost-requires-clause-kept : goal.serve_flush-lost-requires-clause-kept
serve_flush-lost-requires-clause-kept g c =
    let F = g.S.LinkedShard.fits in
    let T = g.S.LinkedShard.stands in
    let A = g.S.LinkedShard.says in
    let own = g.P.CellCaller.own in
    let shards = c.args.size.now.shards in
    let client = c.args.size.now.sessions + 1 in
    let held = c.flushes.invariant in
    let took = c.in-Job.ensures in
    let before = c.flushes.caller in
    let after = c.take_flush.new.caller in
    let some = c.requires.kept in
    let kept = g.M.MakesRounds.has_kept some.0 c.flushes.maker in (
      some.0,
      coe 1 0 (i. HoldsInRuns F T A ((took.opening ∙ held.1) i) ((took.number ∙ held.2) i) client kept (own after))
          (kept-by-take F T A (g.P.CellCaller.opening c.args.caller.now) (g.P.CellCaller.number c.args.caller.now) client shards (Job c.in-Job.client c.in-Job.job) (own before)
          (own after) kept
          (one-more (own before) (own after) (take_entry (g.P.CellCaller.number before) (2 + shards + shards) (Job c.in-Job.client c.in-Job.job)) took.own)
          (coe 0 1 (i. LearnsOfTake F T A (held.1 i) (held.2 i) shards (Job c.in-Job.client c.in-Job.job) (own before) (own after)) took.learns)
          (held.7 some.0 some.1)),
    )

pub flushes-preserved-in-Job : goal.flushes-preserved-in-Job
flushes-preserved-in-Job g c =
    let F = g.S.LinkedShard.fits in
    let T = g.S.LinkedShard.stands in
    let A = g.S.LinkedShard.says in
    let own = g.P.CellCaller.own in
    let shards = c.args.size.now.shards in
    let client = c.args.size.now.sessions + 1 in
    let held = c.flushes.invariant in
    let took = c.in-Job.ensures in
    let did = c.serve_flush-lost.ensures in
    let before = c.flushes.caller in
    let mid = c.take_flush.new.caller in
    let after = c.serve_flush-lost.new.caller in
    let job = Job c.in-Job.client c.in-Job.job in (
      did.board,
      did.opening ∙ took.opening ∙ held.1,
      did.number ∙ took.number ∙ held.2,
      did.others ∙ took.others ∙ held.3,
      turns-on F T A (g.P.CellCaller.opening c.args.caller.now) (g.P.CellCaller.number c.args.caller.now) client shards c.flushes.lost
          c.serve_flush-lost.result c.in-Job.client c.in-Job.job (own c.args.caller.now) (own before) (own mid) (own after) held.4
          (one-more (own before) (own mid) (take_entry (g.P.CellCaller.number before) (2 + shards + shards) job) took.own)
          (coe 0 1 (i. LearnsOfTake F T A (held.1 i) (held.2 i) shards job (own before) (own mid)) took.learns)
          did.more
          (coe 0 1 (i. LearnsOfService F T A ((took.opening ∙ held.1) i) ((took.number ∙ held.2) i) client shards c.flushes.lost c.in-Job.client
          c.serve_flush-lost.result (own mid) (own after)) did.learns),
      did.free,
      did.serves,
      λ begun was. coe 0 1
          (i. GoesOnKeeping F T A ((took.opening ∙ held.1) i) ((took.number ∙ held.2) i) client g.M.MakesRounds.has_kept c.flushes.maker
          c.serve_flush-lost.new.maker (own mid) (own after)) did.kept begun
          (kept-by-take F T A (g.P.CellCaller.opening c.args.caller.now) (g.P.CellCaller.number c.args.caller.now) client shards job (own before)
          (own mid) (g.M.MakesRounds.has_kept begun c.flushes.maker)
          (one-more (own before) (own mid) (take_entry (g.P.CellCaller.number before) (2 + shards + shards) job) took.own)
          (coe 0 1 (i. LearnsOfTake F T A (held.1 i) (held.2 i) shards job (own before) (own mid)) took.learns) (held.7 begun was)),
      g.met.M.MakesRounds.goes_on c.args.maker.now c.flushes.maker c.serve_flush-lost.new.maker held.8 did.becomes,
    )

pub flushes-preserved : goal.flushes-preserved
flushes-preserved g c =
    let F = g.S.LinkedShard.fits in
    let T = g.S.LinkedShard.stands in
    let A = g.S.LinkedShard.says in
    let own = g.P.CellCaller.own in
    let shards = c.args.size.now.shards in
    let client = c.args.size.now.sessions + 1 in
    let held = c.flushes.invariant in
    let took = c.in-Empty.ensures in
    let before = c.flushes.caller in
    let after = c.take_flush.new.caller in
    let more = one-more (own before) (own after) (take_entry (g.P.CellCaller.number before) (2 + shards + shards) Empty) took.own in (
      took.board,
      took.opening ∙ held.1,
      took.number ∙ held.2,
      took.others ∙ held.3,
      turns-idle F T A (g.P.CellCaller.opening c.args.caller.now) (g.P.CellCaller.number c.args.caller.now) client shards c.flushes.lost
          (own c.args.caller.now) (own before) (own after) held.4 more
          (coe 0 1 (i. LearnsOfTake F T A (held.1 i) (held.2 i) shards Empty (own before) (own after)) took.learns),
      took.after c.flushes.lost held.5,
      subst (λ cells. g.M.MakesRounds.serves c.flushes.maker cells) (sym took.opening) held.6,
      λ begun was. kept-by-take F T A (g.P.CellCaller.opening c.args.caller.now) (g.P.CellCaller.number c.args.caller.now) client shards Empty
          (own before) (own after) (g.M.MakesRounds.has_kept begun c.flushes.maker) more
          (coe 0 1 (i. LearnsOfTake F T A (held.1 i) (held.2 i) shards Empty (own before) (own after)) took.learns) (held.7 begun was),
      held.8,
    )

pub returns-in-Closed-clause-more : goal.returns-in-Closed-clause-more
returns-in-Closed-clause-more g c =
    let own = g.P.CellCaller.own in
    let shards = c.args.size.now.shards in
    let before = c.flushes.caller in
    let mid = c.take_flush.new.caller in
    more-and-more (own c.args.caller.now) (own mid) (own c.make_last_round.new.caller)
    (more-and-more (own c.args.caller.now) (own before) (own mid) c.flushes.invariant.4.more
    (one-more (own before) (own mid) (take_entry (g.P.CellCaller.number before) (2 + shards + shards) Closed) c.in-Closed.ensures.own))
    c.make_last_round.ensures.more

pub returns-in-Closed-clause-learns : goal.returns-in-Closed-clause-learns
returns-in-Closed-clause-learns g c =
    let F = g.S.LinkedShard.fits in
    let T = g.S.LinkedShard.stands in
    let A = g.S.LinkedShard.says in
    let own = g.P.CellCaller.own in
    let shards = c.args.size.now.shards in
    let client = c.args.size.now.sessions + 1 in
    let held = c.flushes.invariant in
    let took = c.in-Closed.ensures in
    let last = c.make_last_round.ensures in
    let before = c.flushes.caller in
    let mid = c.take_flush.new.caller in
    let after = c.make_last_round.new.caller in
    turns-end F T A (g.P.CellCaller.opening c.args.caller.now) (g.P.CellCaller.number c.args.caller.now) client shards c.flushes.lost
    c.make_last_round.result (own c.args.caller.now) (own before) (own mid) (own after) held.4
    (one-more (own before) (own mid) (take_entry (g.P.CellCaller.number before) (2 + shards + shards) Closed) took.own)
    (coe 0 1 (i. LearnsOfTake F T A (held.1 i) (held.2 i) shards Closed (own before) (own mid)) took.learns) last.more
    (coe 0 1 (i. LearnsOfLastRound F T A ((took.opening ∙ held.1) i) ((took.number ∙ held.2) i) client shards c.flushes.lost c.make_last_round.result
    (own mid) (own after)) last.learns)

pub make_last_round-requires-clause-kept : goal.make_last_round-requires-clause-kept
make_last_round-requires-clause-kept g c =
    let F = g.S.LinkedShard.fits in
    let T = g.S.LinkedShard.stands in
    let A = g.S.LinkedShard.says in
    let own = g.P.CellCaller.own in
    let shards = c.args.size.now.shards in
    let client = c.args.size.now.sessions + 1 in
    let held = c.flushes.invariant in
    let took = c.in-Closed.ensures in
    let before = c.flushes.caller in
    let after = c.take_flush.new.caller in
    let some = c.requires.kept in
    let kept = g.M.MakesRounds.has_kept some.0 c.flushes.maker in (
      some.0,
      coe 1 0 (i. HoldsInRuns F T A ((took.opening ∙ held.1) i) ((took.number ∙ held.2) i) client kept (own after))
          (kept-by-take F T A (g.P.CellCaller.opening c.args.caller.now) (g.P.CellCaller.number c.args.caller.now) client shards Closed (own before)
          (own after) kept
          (one-more (own before) (own after) (take_entry (g.P.CellCaller.number before) (2 + shards + shards) Closed) took.own)
          (coe 0 1 (i. LearnsOfTake F T A (held.1 i) (held.2 i) shards Closed (own before) (own after)) took.learns)
          (held.7 some.0 some.1)),
    )

pub returns-in-Closed-clause-becomes : goal.returns-in-Closed-clause-becomes
returns-in-Closed-clause-becomes g c =
    g.met.M.MakesRounds.goes_on c.args.maker.now c.flushes.maker c.make_last_round.new.maker c.flushes.invariant.8 c.make_last_round.ensures.becomes

pub returns-in-Closed-clause-kept : goal.returns-in-Closed-clause-kept
returns-in-Closed-clause-kept g c =
    let F = g.S.LinkedShard.fits in
    let T = g.S.LinkedShard.stands in
    let A = g.S.LinkedShard.says in
    let own = g.P.CellCaller.own in
    let shards = c.args.size.now.shards in
    let client = c.args.size.now.sessions + 1 in
    let held = c.flushes.invariant in
    let took = c.in-Closed.ensures in
    let last = c.make_last_round.ensures in
    let before = c.flushes.caller in
    let mid = c.take_flush.new.caller in
    let after = c.make_last_round.new.caller in
    λ begun was. coe 0 1
    (i. GoesOnKeeping F T A ((took.opening ∙ held.1) i) ((took.number ∙ held.2) i) client g.M.MakesRounds.has_kept c.flushes.maker
    c.make_last_round.new.maker (own mid) (own after)) last.kept begun
    (kept-by-take F T A (g.P.CellCaller.opening c.args.caller.now) (g.P.CellCaller.number c.args.caller.now) client shards Closed (own before) (own mid)
    (g.M.MakesRounds.has_kept begun c.flushes.maker)
    (one-more (own before) (own mid) (take_entry (g.P.CellCaller.number before) (2 + shards + shards) Closed) took.own)
    (coe 0 1 (i. LearnsOfTake F T A (held.1 i) (held.2 i) shards Closed (own before) (own mid)) took.learns) (held.7 begun was))
