use Rattle.loaded_batches.proofs.AddedBatches.{posted-by-posts}
use Rattle.loaded_batches.proofs.LoadingMoments.{loading-by-posts, none-by-posts}
use Rattle.loaded_batches.proofs.ToldRows.{may-put, rows-of-cube}
use Rattle.loaded_batches.proofs.putting.post_told.Goals as goal

pub post_rows-requires-clause-rows : goal.post_rows-requires-clause-rows
post_rows-requires-clause-rows g c =
    rows-of-cube c.args.cube.now c.shared_shape-shape.result.now c.args.rows.dims c.args.rows.width c.args.rows.rows
    c.shared_shape-shape.ensures.value c.requires.width c.rows_have_widths.ensures c.requires.inside

pub post_rows-requires-clause-may : goal.post_rows-requires-clause-may
post_rows-requires-clause-may g c =
    may-put (g.P.CellCaller.opening c.args.caller.now) (g.P.CellCaller.number c.args.caller.now) c.args.session
    c.args.size.now.shards c.args.place (g.P.CellCaller.own c.args.caller.now) c.args.cube.now
    c.shared_shape-shape.result.now c.args.rows.rows c.requires.some c.requires.mails c.requires.into
    c.shared_shape-shape.ensures.value c.shared_shape-shape.ensures.sound c.requires.told

pub returns-clause-goes : goal.returns-clause-goes
returns-clause-goes g c =
    loading-by-posts (g.P.CellCaller.opening c.args.caller.now) (g.P.CellCaller.number c.args.caller.now)
    c.args.session c.args.place c.args.writer.now.epoch c.args.size.now.shards c.shared_shape-shape.result.now
    c.args.rows.rows (g.P.CellCaller.own c.args.caller.now) (g.P.CellCaller.own c.post_rows.new.caller)
    c.post_rows.result c.post_rows.ensures.more c.post_rows.ensures.learns c.post_rows.ensures.err

pub returns-clause-none : goal.returns-clause-none
returns-clause-none g c =
    none-by-posts (g.P.CellCaller.opening c.args.caller.now) (g.P.CellCaller.number c.args.caller.now) c.args.session
    c.args.place c.args.writer.now.epoch c.args.size.now.shards c.shared_shape-shape.result.now c.args.rows.rows
    (g.P.CellCaller.own c.args.caller.now) (g.P.CellCaller.own c.post_rows.new.caller) c.post_rows.result
    c.post_rows.ensures.learns c.post_rows.ensures.err

pub returns-clause-posted : goal.returns-clause-posted
returns-clause-posted g c =
    let cells = g.P.CellCaller.opening c.args.caller.now in
    let caller = g.P.CellCaller.number c.args.caller.now in
    let own = g.P.CellCaller.own c.args.caller.now in
    let now = g.P.CellCaller.own c.post_rows.new.caller in
    let shape = c.shared_shape-shape.result.now in
    let epoch = c.args.writer.now.epoch in
    posted-by-posts cells caller c.args.session c.args.place epoch c.args.size.now.shards shape c.args.rows.rows own now
    c.post_rows.result c.post_rows.ensures.learns
    (λ learns.
    c.posted_rows_are_operations.ensures.posts cells caller c.args.session c.args.size.now.shards c.args.place epoch
    shape c.args.rows.rows own now learns)
    (λ d lists stored come.
    c.posted_rows_stand_for_rows.ensures shape.shape.sizes c.args.size.now.shards c.args.place epoch c.args.rows.rows d
    lists stored c.requires.some come)
