use Rattle.std.proofs.Common.{◌+◌, refl, arith}
use Rattle.core_watches.proofs.EndedWatches.{show-replied}
use Rattle.core_watches.specs.KeptWatches.{kept_on_record}
use Rattle.core_watches.proofs.showing.show_kept.Goals as goal

pub returns-clause-more : goal.returns-clause-more
returns-clause-more g c =
    let few = c.requires.counted in
    record { number = refl; statements = refl; every = refl; counted = omega (arith, few) }

pub returns-clause-performed : goal.returns-clause-performed
returns-clause-performed g c =
    let own = g.P.CellCaller.own in
    let before = c.args.caller.now in
    let session = c.args.session.now in
    let kept = c.args.kept.now in
    show-replied (g.P.CellCaller.opening before) (g.P.CellCaller.number before) kept.watch.query.cube session
    (record session { statements = session.statements + 1 }) kept.cube (own before) (own c.show_counted.new.caller)
    (kept_on_record kept) (kept_on_record c.show_counted.new.kept) c.requires.may refl c.requires.keeps.watches
    c.show_counted.result c.show_counted.ensures.ends
