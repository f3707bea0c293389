use Rattle.loaded_batches.proofs.LoadingMoments.{fetches-add-none, loading-by-fetches, none-by-fetches}
use Rattle.loaded_batches.proofs.putting.fetch_told.Goals as goal

pub returns-clause-goes : goal.returns-clause-goes
returns-clause-goes g c = λ cube epoch.
    loading-by-fetches (g.P.CellCaller.opening c.args.caller.now) (g.P.CellCaller.number c.args.caller.now)
    c.args.session cube epoch c.args.out.shards.items c.fetch_rows.result (g.P.CellCaller.own c.args.caller.now)
    (g.P.CellCaller.own c.fetch_rows.new.caller) c.fetch_rows.ensures.more c.fetch_rows.ensures.learns

pub returns-clause-none : goal.returns-clause-none
returns-clause-none g c =
    none-by-fetches (g.P.CellCaller.opening c.args.caller.now) (g.P.CellCaller.number c.args.caller.now)
    c.args.session c.args.out.shards.items c.fetch_rows.result (g.P.CellCaller.own c.args.caller.now)
    (g.P.CellCaller.own c.fetch_rows.new.caller) c.fetch_rows.ensures.learns

pub returns-clause-adds : goal.returns-clause-adds
returns-clause-adds g c =
    fetches-add-none (g.P.CellCaller.opening c.args.caller.now) (g.P.CellCaller.number c.args.caller.now)
    c.args.session c.args.out.shards.items c.fetch_rows.result (g.P.CellCaller.own c.args.caller.now)
    (g.P.CellCaller.own c.fetch_rows.new.caller) c.fetch_rows.ensures.learns
