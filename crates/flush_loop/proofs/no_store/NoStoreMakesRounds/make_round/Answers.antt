use Rattle.std.proofs.Common.{◌∙◌, ◌+◌, ◌++◌, false, append-nil, None, Some, sym}
use Rattle.flush_loop.proofs.OpenedAndClosed.{plain-round}
use Rattle.flush_loop.proofs.LostNone.{none-lost}
use Rattle.flush_loop.specs.MadeRounds.{KnowsBetween, LearnsOfOwnRound}
use Rattle.flush_loop.specs.PlainRounds.{closing_entries}
use Rattle.flush_loop.proofs.no_store.NoStoreMakesRounds.make_round.Goals as goal

pub returns-in-None-clause-learns : goal.returns-in-None-clause-learns
returns-in-None-clause-learns g c =
    let own = g.P.CellCaller.own in
    let mid = own c.open_round.new.caller in
    plain-round g.S.LinkedShard.fits g.S.LinkedShard.stands g.S.LinkedShard.says (g.P.CellCaller.opening c.args.caller.now)
    (g.P.CellCaller.number c.args.caller.now) (c.args.size.now.sessions + 1) c.args.size.now.shards c.requires.flusher None
    (own c.args.caller.now) mid mid c.in-None.ensures.own (sym (append-nil mid))

pub returns-in-Some-clause-learns : goal.returns-in-Some-clause-learns
returns-in-Some-clause-learns g c =
    let F = g.S.LinkedShard.fits in
    let T = g.S.LinkedShard.stands in
    let A = g.S.LinkedShard.says in
    let cells = g.P.CellCaller.opening c.args.caller.now in
    let number = g.P.CellCaller.number c.args.caller.now in
    let client = c.args.size.now.sessions + 1 in
    let own = g.P.CellCaller.own in
    let old = own c.args.caller.now in
    let mid = own c.open_round.new.caller in
    let now = own c.close_as_safe.new.caller in
    let asked = c.in-Some.asked in
    let opened = c.in-Some.ensures in
    let closed = c.close_as_safe.ensures in
    coe 1 0 (i. LearnsOfOwnRound F T A cells number client (closed.result i) old now)
    (plain-round F T A cells number client c.args.size.now.shards c.requires.flusher (Some asked) old mid now opened.own
    (closed.own ∙ (λ i. mid ++ closing_entries (opened.number i) (Some asked))))

pub returns-in-None-clause-kept : goal.returns-in-None-clause-kept
returns-in-None-clause-kept g c =
    let F = g.S.LinkedShard.fits in
    let T = g.S.LinkedShard.stands in
    let A = g.S.LinkedShard.says in
    let client = c.args.size.now.sessions + 1 in
    let opened = c.in-None.ensures in
    let mid = g.P.CellCaller.own c.open_round.new.caller in λ begun held. record {
      kept = held.kept;
      in_runs = none-lost F T A (g.P.CellCaller.opening c.args.caller.now) (g.P.CellCaller.number c.args.caller.now) client
          c.args.size.now.shards c.requires.flusher mid
          (coe 0 1 (i. KnowsBetween F T A (opened.opening i) (opened.number i) client false mid) opened.knows);
    }

pub returns-in-Some-clause-kept : goal.returns-in-Some-clause-kept
returns-in-Some-clause-kept g c =
    let F = g.S.LinkedShard.fits in
    let T = g.S.LinkedShard.stands in
    let A = g.S.LinkedShard.says in
    let client = c.args.size.now.sessions + 1 in
    let opened = c.in-Some.ensures in
    let closed = c.close_as_safe.ensures in
    let now = g.P.CellCaller.own c.close_as_safe.new.caller in
    let opening_is = closed.opening ∙ opened.opening in
    let number_is = closed.number ∙ opened.number in λ begun held. record {
      kept = held.kept;
      in_runs = none-lost F T A (g.P.CellCaller.opening c.args.caller.now) (g.P.CellCaller.number c.args.caller.now) client
          c.args.size.now.shards c.requires.flusher now
          (coe 0 1 (i. KnowsBetween F T A (opening_is i) (number_is i) client false now) closed.between);
    }
