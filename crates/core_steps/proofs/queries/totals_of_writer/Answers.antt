use Rattle.std.proofs.lemmas.Option.{IfSome_then}
use Rattle.core_steps.proofs.queries.totals_of_writer.Goals as goal

pub totals_seen-requires-clause-holds : goal.totals_seen-requires-clause-holds
totals_seen-requires-clause-holds g c =
    let before = c.args.caller.now in
    c.snapshot_holders_are_ready.ensures.writer (g.P.CellCaller.opening before) (g.P.CellCaller.number before)
    c.args.session (g.P.CellCaller.own before) c.args.writer.now c.requires.holds

pub returns-clause-holds : goal.returns-clause-holds
returns-clause-holds g c =
    IfSome_then c.totals_seen.result c.totals_seen.ensures.same
    (λ totals same. same.writer c.args.writer.now c.requires.holds)
