use Rattle.std.proofs.Common.{subst}
use Rattle.std.specs.Prelude.{IfOk}
use Rattle.cube_values.specs.declared.shape.CubeShape.{CubeShape}
use Rattle.inserted_rows.proofs.PutRows.{may_put, more_is_prefix, rows_of_its_cube}
use Rattle.session_batches.specs.PutRows.{LearnsOfRows}
use Rattle.inserted_rows.proofs.putting.put_told_rows.Goals as goal

pub put_rows-requires-clause-client : goal.put_rows-requires-clause-client
put_rows-requires-clause-client g c = c.requires.client

pub put_rows-requires-clause-session : goal.put_rows-requires-clause-session
put_rows-requires-clause-session g c = c.requires.session

pub put_rows-requires-clause-mails : goal.put_rows-requires-clause-mails
put_rows-requires-clause-mails g c = c.requires.mails

pub put_rows-requires-clause-holds : goal.put_rows-requires-clause-holds
put_rows-requires-clause-holds g c = c.requires.holds

pub put_rows-requires-clause-rows : goal.put_rows-requires-clause-rows
put_rows-requires-clause-rows g c =
    rows_of_its_cube (g.P.CellCaller.own c.args.caller.now) c.args.place c.args.cube.now c.shared_shape-shape.result.now
    c.args.rows c.shared_shape-shape.ensures.value c.requires.rows c.len-rows.ensures.widths

pub put_rows-requires-clause-may : goal.put_rows-requires-clause-may
put_rows-requires-clause-may g c =
    let old = c.args.caller.now in
    may_put (g.P.CellCaller.opening old) (g.P.CellCaller.number old) c.args.session c.args.size.now.shards c.args.place
    (g.P.CellCaller.own old) c.args.cube.now c.shared_shape-shape.result.now c.args.rows c.requires.some c.requires.client
    c.requires.mails c.requires.storable c.requires.told c.shared_shape-shape.ensures.value
    c.shared_shape-shape.ensures.sound c.requires.rows

pub returns-clause-more : goal.returns-clause-more
returns-clause-more g c =
    more_is_prefix (g.P.CellCaller.own c.args.caller.now) (g.P.CellCaller.own c.put_rows.new.caller)
    c.put_rows.ensures.more

pub returns-clause-holds : goal.returns-clause-holds
returns-clause-holds g c = c.put_rows.ensures.holds

pub returns-clause-learns : goal.returns-clause-learns
returns-clause-learns g c =
    let old = c.args.caller.now in
    subst (λ (shape : CubeShape). IfOk c.put_rows.result (λ end. LearnsOfRows (g.P.CellCaller.opening old)
    (g.P.CellCaller.number old) c.args.session c.args.size.now.shards c.args.place shape c.args.writer.now.epoch
    c.args.rows.rows end (g.P.CellCaller.own old) (g.P.CellCaller.own c.put_rows.new.caller)))
    c.shared_shape-shape.ensures.value c.put_rows.ensures.learns
