use Rattle.std.proofs.Common.{◌≡◌, ◌+◌, ◌≤◌, [], get_or, length, drop, length-append, length-drop, subst, arith, rules, IsTrue}
use Rattle.std.proofs.lemmas.List.{length-take-le}
use Rattle.std.proofs.lemmas.List.Elements.{All-get_or}
use Rattle.brick_columns.specs.Rows.{BrickRow, IsBrickRow, offset_at, row_at}
use Rattle.brick_store.specs.Cuts.{AreClearedFrom, part_has_row}
use Rattle.brick_store.proofs.CellKeys.{offset_below}
use Rattle.brick_store.proofs.ClearedBits.{cleared_none, cleared_same, cleared_chunk}
use Rattle.brick_store.proofs.cuts.clear_dimension.Goals as goal

pub returns-then-has_range : goal.returns-then-has_range
returns-then-has_range c =
    let part = c.args.part.now in
    let start = get_or c.args.starts.now c.args.dim 0 in
    let columns = c.args.columns.now in
    let none : BrickRow = record { offsets = []; metrics = [] } in
    let yes : IsTrue c.has_range.result = search rules in
    cleared_same (part_has_row part start c.args.dim) columns.rows c.args.bits.now.bits (λ i h.
    let row = row_at columns.rows i in
    let fits = All-get_or (IsBrickRow columns.layout) columns.rows i none h c.requires.readable.fits in
    let below = offset_below columns.layout row c.args.dim fits (omega (arith, c.requires.dim, c.requires.readable.long)) in
    c.has_range.ensures yes (offset_at c.args.dim row) (omega (arith, below, c.range.ensures)))

pub chunks-init : goal.chunks-init
chunks-init c = record {
  within = omega arith;
  cleared = cleared_none (part_has_row c.args.part.now (get_or c.args.starts.now c.args.dim 0) c.args.dim) c.args.columns.now.rows 0 c.args.bits.now.bits;
  some = c.requires.some;
}

pub chunks-preserved : goal.chunks-preserved
chunks-preserved c =
    let l = c.chunks in
    let test = part_has_row c.args.part.now (get_or c.args.starts.now c.args.dim 0) c.args.dim in
    let rows = c.args.columns.now.rows in
    let from = c.next-from.result in
    let n = c.min-n.result in
    let new = c.clear_chunk.new.bits.bits in
    let within : n ≤ length l.offsets = omega arith in
    let long = length-take-le n l.offsets within in
    let cells : length c.clear_chunk.new.offsets ≡ n = omega (arith, long) in
    let chunk = subst (λ k. AreClearedFrom test rows from (from + k) l.bits.bits new) long c.clear_chunk.ensures in
    record {
      within = omega (arith, chunk.long);
      cleared = cleared_chunk test rows l.at from (from + n) c.args.bits.now.bits l.bits.bits new (omega arith) (omega arith) c.next-from.ensures.between l.invariant.cleared chunk;
      some = λ p. omega (arith, cells, within, length-append c.clear_chunk.new.offsets (drop n l.offsets), length-drop n l.offsets, l.invariant.some p);
    }

pub returns : goal.returns
returns c =
    let l = c.chunks in
    let test = part_has_row c.args.part.now (get_or c.args.starts.now c.args.dim 0) c.args.dim in
    let rows = c.args.columns.now.rows in
    let all : l.at ≡ length rows = omega (arith, l.invariant.within, l.invariant.cleared.long, c.requires.bits) in
    subst (λ n. AreClearedFrom test rows 0 n c.args.bits.now.bits l.bits.bits) all l.invariant.cleared
