use Rattle.std.proofs.Common.{take, sym, subst, arith}
use Rattle.std.specs.List.{items_where_true}
use Rattle.std.proofs.lemmas.List.{take_all}
use Rattle.brick_store.specs.Cells.{cell_count, HoldRows}
use Rattle.brick_store.proofs.CellHolds.{between_long}
use Rattle.brick_store.proofs.CellRuns.{run_more, few_chosen}
use Rattle.brick_store.proofs.scan.add_runs.Goals as goal

pub add_rows-requires-clause-held : goal.add_rows-requires-clause-held
add_rows-requires-clause-held c =
    let l = c.runs in
    let bits = c.args.bits.now.bits in
    let rows = c.args.columns.now.rows in
    (items_where_true (take l.at bits) (take l.at rows), l.invariant.held, omega (arith, few_chosen bits rows l.at (omega (arith, l.invariant.within)), c.requires.few))

pub runs-preserved : goal.runs-preserved
runs-preserved c =
    let l = c.runs in
    let bits = c.args.bits.now.bits in
    let rows = c.args.columns.now.rows in
    let from = c.next-from.result in
    let to = c.next-to.result in
    let more = run_more bits rows l.at from to (omega arith) (omega arith) (omega arith) c.requires.bits c.next-from.ensures.between c.next-to.ensures.between in
    let few = few_chosen bits rows l.at (omega (arith, l.invariant.within)) in
    record {
      within = omega arith;
      held = subst (λ rs. HoldRows c.args.columns.now.layout.ranges c.args.query.now (cell_count c.args.columns.now.layout.ranges c.args.query.now.group) rs c.add_rows.new.self) (sym more)
          (c.add_rows.ensures (items_where_true (take l.at bits) (take l.at rows)) (omega (arith, few, c.requires.few, between_long from to rows (omega arith) (omega arith))) l.invariant.held);
      numbers = omega arith;
      offsets = omega arith;
    }

pub returns : goal.returns
returns c =
    let l = c.runs in
    let bits = c.args.bits.now.bits in
    let rows = c.args.columns.now.rows in
    subst (λ rs. HoldRows c.args.columns.now.layout.ranges c.args.query.now (cell_count c.args.columns.now.layout.ranges c.args.query.now.group) rs l.dense)
    (λ t. items_where_true (take_all l.at bits (omega arith) t) (take_all l.at rows (omega arith) t)) l.invariant.held
