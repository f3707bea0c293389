use Rattle.std.proofs.Common.{◌≡◌, ℕ, set, get_or, sym, subst, ◌∙◌, arith, inl, inr}
use Rattle.std.proofs.lemmas.Bool.{cases_lt}
use Rattle.std.proofs.lemmas.List.{get_or_default, get_or-set_same, get_or-set_other}
use Rattle.brick_store.specs.Cells.{HasSmallTallies}
use Rattle.brick_store.specs.CountedChunks.{TakesSums}
use Rattle.brick_store.specs.declared.cell_tallies.CellTallies.{CellTallies}
use Rattle.brick_store.specs.declared.cell_tallies.CellTallies.TheVariants.{Nothing}
use Rattle.brick_store.proofs.counted_chunks.take_each.Goals as goal

pub take_sums-requires-clause-small : goal.take_sums-requires-clause-small
take_sums-requires-clause-small c =
    let l = c.loop-tally in
    let i = l.tally-index in
    let tally = c.tally-item.result in
    let here : get_or l.tallies i tally ≡ get_or c.args.tallies.now i Nothing = get_or_default l.tallies i tally Nothing (omega arith) ∙ l.invariant.rest i (omega arith) in
    subst HasSmallTallies (sym here) (c.requires.small i Nothing (omega arith))

pub loop-tally-preserved : goal.loop-tally-preserved
loop-tally-preserved c =
    let l = c.loop-tally in
    let i = l.tally-index in
    let old = c.args.tallies.now in
    let words = c.args.words.now in
    let tally = c.tally-item.result in
    let new = c.take_sums.new.tally in
    let here : get_or l.tallies i tally ≡ get_or old i Nothing = get_or_default l.tallies i tally Nothing (omega arith) ∙ l.invariant.rest i (omega arith) in
    record {
      front = λ k h. elim (cases_lt k i) [
        | inl less ↦ subst (TakesSums words (get_or old k Nothing)) (sym (get_or-set_other l.tallies i k new Nothing (λ e. omega arith))) (l.invariant.front k less)
        | inr more ↦
            let same : i ≡ k = omega arith in
            subst (λ (j : ℕ). TakesSums words (get_or old j Nothing) (get_or (set l.tallies i new) j Nothing)) same
            (subst (λ (t : CellTallies). TakesSums words t (get_or (set l.tallies i new) i Nothing)) here
            (subst (TakesSums words (get_or l.tallies i tally)) (sym (get_or-set_same l.tallies i new Nothing (omega arith))) c.take_sums.ensures))
      ];
      rest = λ k h. get_or-set_other l.tallies i k new Nothing (λ e. omega arith) ∙ l.invariant.rest k (omega arith);
    }
