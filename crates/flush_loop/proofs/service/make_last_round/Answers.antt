use Rattle.std.proofs.Common.{◌+◌, Bool, false, Some, sym, subst}
use Rattle.core_events.specs.Cells.{Free}
use Rattle.core_program.specs.Flushing.{KnowsPart}
use Rattle.flush_loop.proofs.ServedFlushes.{after-own-round, between-known, last-made}
use Rattle.flush_loop.specs.FlushTurns.{LearnsOfLastRound}
use Rattle.flush_loop.specs.MadeRounds.{KnowsBetween}
use Rattle.flush_loop.specs.RoundResults.{loses_store}
use Rattle.flusher_mail.specs.FlusherMail.{HasNoFlush}
use Rattle.flush_loop.proofs.service.make_last_round.Goals as goal

pub returns-then-lost-clause-free : goal.returns-then-lost-clause-free
returns-then-lost-clause-free g c =
    subst (λ (b : Bool). KnowsPart g.S.LinkedShard.fits g.S.LinkedShard.stands g.S.LinkedShard.says (g.P.CellCaller.opening c.args.caller.now)
    (g.P.CellCaller.number c.args.caller.now) (g.P.CellCaller.own c.args.caller.now) (HasNoFlush b)) c.if-lost.true c.requires.free

pub make_round-requires-clause-between : goal.make_round-requires-clause-between
make_round-requires-clause-between g c =
    let F = g.S.LinkedShard.fits in
    let T = g.S.LinkedShard.stands in
    let A = g.S.LinkedShard.says in
    let cells = g.P.CellCaller.opening c.args.caller.now in
    let number = g.P.CellCaller.number c.args.caller.now in
    let own = g.P.CellCaller.own c.args.caller.now in
    between-known F T A cells number (c.args.size.now.sessions + 1) c.args.size.now.shards c.requires.flusher Free false own
    (subst (λ (b : Bool). KnowsPart F T A cells number own (HasNoFlush b)) c.if-lost.false c.requires.free)

pub returns-clause-learns : goal.returns-clause-learns
returns-clause-learns g c =
    let F = g.S.LinkedShard.fits in
    let T = g.S.LinkedShard.stands in
    let A = g.S.LinkedShard.says in
    let cells = g.P.CellCaller.opening c.args.caller.now in
    let number = g.P.CellCaller.number c.args.caller.now in
    let client = c.args.size.now.sessions + 1 in
    let own = g.P.CellCaller.own c.args.caller.now in
    let now = g.P.CellCaller.own c.make_round.new.caller in
    subst (λ (b : Bool). LearnsOfLastRound F T A cells number client c.args.size.now.shards b (Some c.make_round.result) own now) (sym c.if-lost.false)
    (last-made F T A cells number client c.args.size.now.shards c.make_round.result own now c.make_round.ensures.learns)

pub returns-clause-free : goal.returns-clause-free
returns-clause-free g c =
    let F = g.S.LinkedShard.fits in
    let T = g.S.LinkedShard.stands in
    let A = g.S.LinkedShard.says in
    let cells = g.P.CellCaller.opening c.args.caller.now in
    let number = g.P.CellCaller.number c.args.caller.now in
    let client = c.args.size.now.sessions + 1 in
    let own = g.P.CellCaller.own c.args.caller.now in
    let now = g.P.CellCaller.own c.make_round.new.caller in
    let made = c.make_round.ensures in
    let result = c.make_round.result in
    coe 1 0 (i. KnowsPart F T A (made.opening i) (made.number i) now (HasNoFlush (loses_store result)))
    (after-own-round F T A cells number client c.args.size.now.shards c.requires.flusher result own now made.more made.learns
    (coe 0 1 (i. KnowsBetween F T A (made.opening i) (made.number i) client (loses_store result) now) made.between) Free
    (subst (λ (b : Bool). KnowsPart F T A cells number own (HasNoFlush b)) c.if-lost.false c.requires.free))

pub returns-then-lost-clause-kept : goal.returns-then-lost-clause-kept
returns-then-lost-clause-kept g c = λ begun held. held
