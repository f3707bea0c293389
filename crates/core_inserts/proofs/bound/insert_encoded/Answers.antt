use Rattle.std.proofs.Common.{subst}
use Rattle.core_inserts.specs.InsertEnds.{full}
use Rattle.inserted_rows.specs.RowsInTheEnd.{AreEncodedRows}
use Rattle.inserted_rows.specs.declared.encoding.EncodedRows.{EncodedRows}
use Rattle.statement_check.specs.OwnParts.{inserted_rows}
use Rattle.core_inserts.proofs.bound.insert_encoded.Goals as goal

pub insert_batch-requires-clause-batch : goal.insert_batch-requires-clause-batch
insert_batch-requires-clause-batch g c =
    let old = c.args.caller.now in
    record {
      fits_it = c.requires.fits;
      rows =
          subst (λ (e : EncodedRows). AreEncodedRows (g.P.CellCaller.opening old) (g.P.CellCaller.number old)
          (g.P.CellCaller.own old) c.args.place c.args.cube.now (inserted_rows c.args.statement.now) e) c.in-Rows.is
          c.requires.rows;
    }

pub refuse_bound-requires-clause-why : goal.refuse_bound-requires-clause-why
refuse_bound-requires-clause-why g c =
    let old = c.args.caller.now in
    full c.in-Lacking.name c.requires.fits
    (subst (λ (e : EncodedRows). AreEncodedRows (g.P.CellCaller.opening old) (g.P.CellCaller.number old)
    (g.P.CellCaller.own old) c.args.place c.args.cube.now (inserted_rows c.args.statement.now) e) c.in-Lacking.is
    c.requires.rows)
