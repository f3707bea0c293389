use Rattle.std.proofs.Common.{◌+◌, Bool, true, sym, subst}
use Rattle.core_program.specs.Flushing.{KnowsPart}
use Rattle.flush_loop.proofs.ServedFlushes.{kept-by-refusal}
use Rattle.flush_loop.specs.FlushTurns.{LearnsOfService}
use Rattle.flusher_mail.specs.FlusherMail.{HasFlush}
use Rattle.flush_loop.proofs.service.serve_flush.Goals as goal

pub refuse_flush-requires-clause-taken : goal.refuse_flush-requires-clause-taken
refuse_flush-requires-clause-taken g c =
    subst (λ (b : Bool). KnowsPart g.S.LinkedShard.fits g.S.LinkedShard.stands g.S.LinkedShard.says (g.P.CellCaller.opening c.args.caller.now)
    (g.P.CellCaller.number c.args.caller.now) (g.P.CellCaller.own c.args.caller.now) (HasFlush c.args.to b)) c.if-lost.true c.requires.taken

pub returns-then-lost-clause-learns : goal.returns-then-lost-clause-learns
returns-then-lost-clause-learns g c =
    let cells = g.P.CellCaller.opening c.args.caller.now in
    let number = g.P.CellCaller.number c.args.caller.now in
    let own = g.P.CellCaller.own c.args.caller.now in
    let now = g.P.CellCaller.own c.refuse_flush.new.caller in
    subst (λ (b : Bool). LearnsOfService g.S.LinkedShard.fits g.S.LinkedShard.stands g.S.LinkedShard.says cells number (c.args.size.now.sessions + 1)
    c.args.size.now.shards b c.args.to true own now) (sym c.if-lost.true) c.refuse_flush.ensures.learns

pub returns-then-lost-clause-kept : goal.returns-then-lost-clause-kept
returns-then-lost-clause-kept g c =
    let F = g.S.LinkedShard.fits in
    let T = g.S.LinkedShard.stands in
    let A = g.S.LinkedShard.says in
    let cells = g.P.CellCaller.opening c.args.caller.now in
    let number = g.P.CellCaller.number c.args.caller.now in
    let client = c.args.size.now.sessions + 1 in
    let own = g.P.CellCaller.own c.args.caller.now in
    let now = g.P.CellCaller.own c.refuse_flush.new.caller in
    let did = c.refuse_flush.ensures in
    λ begun held. kept-by-refusal F T A cells number client c.args.size.now.shards c.args.to own now
    (g.M.MakesRounds.has_kept begun c.args.maker.now) did.more did.learns held

pub make_asked_round-requires-clause-taken : goal.make_asked_round-requires-clause-taken
make_asked_round-requires-clause-taken g c =
    subst (λ (b : Bool). KnowsPart g.S.LinkedShard.fits g.S.LinkedShard.stands g.S.LinkedShard.says (g.P.CellCaller.opening c.args.caller.now)
    (g.P.CellCaller.number c.args.caller.now) (g.P.CellCaller.own c.args.caller.now) (HasFlush c.args.to b)) c.if-lost.false c.requires.taken

pub returns-clause-learns : goal.returns-clause-learns
returns-clause-learns g c =
    let cells = g.P.CellCaller.opening c.args.caller.now in
    let number = g.P.CellCaller.number c.args.caller.now in
    let own = g.P.CellCaller.own c.args.caller.now in
    let now = g.P.CellCaller.own c.make_asked_round.new.caller in
    subst (λ (b : Bool). LearnsOfService g.S.LinkedShard.fits g.S.LinkedShard.stands g.S.LinkedShard.says cells number (c.args.size.now.sessions + 1)
    c.args.size.now.shards b c.args.to c.make_asked_round.result own now) (sym c.if-lost.false) c.make_asked_round.ensures.learns
