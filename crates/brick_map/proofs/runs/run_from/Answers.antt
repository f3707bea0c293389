use Rattle.std.proofs.Common.{◌≡◌, ◌∙◌, refl, sym, ap, subst, All, arith}
use Rattle.cube_values.specs.declared.row.CodedRow.{CodedRow}
use Rattle.cube_values.specs.Batches.{coded_row_at, rows_between}
use Rattle.brick_address.specs.Addresses.{brick_of}
use Rattle.brick_map.specs.Batches.{range_starts}
use Rattle.brick_map.proofs.BatchRuns.{between_first, between_next}
use Rattle.brick_map.proofs.Ranges.{one_brick, starts_of_starts}
use Rattle.brick_map.proofs.runs.run_from.Goals as goal

pub lie_in_ranges-requires-clause-starts : goal.lie_in_ranges-requires-clause-starts
lie_in_ranges-requires-clause-starts c =
    let sizes = c.args.shape.now.sizes in
    rw c.as_slice-sizes.ensures (ap (range_starts sizes) c.requires.starts
    ∙ starts_of_starts sizes (coded_row_at c.args.batch.now.rows c.args.from).coords c.requires.shape.sizes
    ∙ sym c.requires.starts)

pub rows-init : goal.rows-init
rows-init c =
    let rows = c.args.batch.now.rows in
    record {
      order = omega arith;
      within = omega (arith, c.requires.there, c.len-count.ensures.rows);
      same = between_first (λ row. brick_of c.args.shape.now.sizes row.coords ≡ c.number_at-number.result) c.args.from rows c.requires.there (sym c.number_at-number.ensures.value);
    }

pub rows-preserved : goal.rows-preserved
rows-preserved c =
    let l = c.rows in
    let rows = c.args.batch.now.rows in
    let sizes = c.args.shape.now.sizes in
    let here : range_starts sizes (coded_row_at rows l.to).coords ≡ c.args.starts.now = rw (c.as_slice-sizes.ensures, c.coords_of.ensures) at (c.lie_in_ranges.ensures.0 c.if-not-lie_in_ranges.false) in
    let alike = one_brick sizes (coded_row_at rows l.to).coords (coded_row_at rows c.args.from).coords c.requires.shape.sizes (here ∙ c.requires.starts) in
    let same : brick_of sizes (coded_row_at rows l.to).coords ≡ c.number_at-number.result = alike ∙ sym c.number_at-number.ensures.value in
    record {
      order = omega arith;
      within = omega arith;
      same = between_next (λ row. brick_of c.args.shape.now.sizes row.coords ≡ c.number_at-number.result) c.args.from l.to rows (omega arith) (omega (arith, c.len-count.ensures.rows)) l.invariant.same same;
    }

pub returns : goal.returns
returns c =
    let l = c.rows in
    let rows = c.args.batch.now.rows in
    let P : CodedRow → Type 0 = λ row. brick_of c.args.shape.now.sizes row.coords ≡ c.number_at-number.result in
    let last : l.to ≡ c.len-count.result = omega arith in
    record {
      begins = refl;
      some = omega arith;
      within = omega (arith, c.len-count.ensures.rows);
      brick = c.number_at-number.ensures.within;
      of_brick = subst (λ n. All P (rows_between c.args.from n rows)) last l.invariant.same;
    }
