use Rattle.std.proofs.Common.{refl, arith}
use Rattle.core_watches.proofs.KeptOn.{still-or-none}
use Rattle.core_watches.proofs.RefusedByWatch.{by-watch}
use Rattle.core_watches.proofs.statements.refuse_by_watch.Goals as goal

pub returns-clause-more : goal.returns-clause-more
returns-clause-more g c =
    let few = c.requires.counted in
    record { number = refl; statements = refl; every = refl; counted = omega (arith, few) }

pub returns-clause-keeps : goal.returns-clause-keeps
returns-clause-keeps g c =
    let own = g.P.CellCaller.own in
    let before = c.args.caller.now in
    let after = c.refuse_so.new.caller in
    let said = c.refuse_so.ensures in
    still-or-none (g.P.CellCaller.opening before) (g.P.CellCaller.opening after) (g.P.CellCaller.number before)
    (g.P.CellCaller.number after) c.args.session.now.number said.opening said.number (own before) (own after) said.prefix
    said.holders

pub returns-clause-performed : goal.returns-clause-performed
returns-clause-performed g c =
    let own = g.P.CellCaller.own in
    let before = c.args.caller.now in
    by-watch (g.P.CellCaller.opening before) (g.P.CellCaller.number before) c.args.session.now (own before)
    (own c.refuse_so.new.caller) c.args.refusal c.refuse_so.result c.refuse_so.ensures.refused
