use Rattle.std.proofs.Common.{◌≡◌, ℕ, ◌+◌, length, set, get_or, sym, subst, ◌∙◌, arith, inl, inr}
use Rattle.std.proofs.lemmas.Bool.{cases_lt}
use Rattle.std.proofs.lemmas.List.{get_or_default, get_or-set_same, get_or-set_other}
use Rattle.cube_values.specs.declared.query.BoundItem.TheVariants.{Group}
use Rattle.brick_store.specs.Cells.{HasSmallTallies, TalliesMore, columns_between}
use Rattle.brick_store.specs.declared.cell_tallies.CellTallies.{CellTallies}
use Rattle.brick_store.specs.declared.cell_tallies.CellTallies.TheVariants.{Nothing}
use Rattle.brick_store.proofs.dense.add_items.Goals as goal

pub items-preserved : goal.items-preserved
items-preserved c =
    let l = c.items in
    let old = c.args.tallies.now in
    let tally = c.index-tallies-i.result in
    let new = c.add_item.new.tally in
    let ranges = c.args.columns.now.layout.ranges in
    let chunk = columns_between c.args.from (c.args.from + length c.args.cells.now) c.args.columns.now.rows in
    let here : get_or l.tallies l.i tally ≡ get_or old l.i Nothing = get_or_default l.tallies l.i tally Nothing (omega arith) ∙ l.invariant.rest l.i (omega arith) in
    record {
      front = λ k h.
          let item = get_or c.args.items.now k (Group 0) in
          elim (cases_lt k l.i) [
            | inl less ↦ subst (TalliesMore ranges c.args.group.now item chunk (get_or old k Nothing)) (sym (get_or-set_other l.tallies l.i k new Nothing (λ e. omega arith))) (l.invariant.front k less)
            | inr more ↦
                let same : l.i ≡ k = omega arith in
                subst (λ (j : ℕ). TalliesMore ranges c.args.group.now (get_or c.args.items.now j (Group 0)) chunk (get_or old j Nothing) (get_or (set l.tallies l.i new) j Nothing)) same
                (subst (λ (t : CellTallies). TalliesMore ranges c.args.group.now (get_or c.args.items.now l.i (Group 0)) chunk t (get_or (set l.tallies l.i new) l.i Nothing)) here
                (subst (TalliesMore ranges c.args.group.now (get_or c.args.items.now l.i (Group 0)) chunk (get_or l.tallies l.i tally)) (sym (get_or-set_same l.tallies l.i new Nothing (omega arith))) c.add_item.ensures))
          ];
      rest = λ k h. get_or-set_other l.tallies l.i k new Nothing (λ e. omega arith) ∙ l.invariant.rest k (omega arith);
    }

pub add_item-requires-clause-small : goal.add_item-requires-clause-small
add_item-requires-clause-small c =
    let l = c.items in
    let tally = c.index-tallies-i.result in
    let here : get_or l.tallies l.i tally ≡ get_or c.args.tallies.now l.i Nothing = get_or_default l.tallies l.i tally Nothing (omega arith) ∙ l.invariant.rest l.i (omega arith) in
    subst HasSmallTallies (sym here) (c.requires.small l.i Nothing (omega arith))
