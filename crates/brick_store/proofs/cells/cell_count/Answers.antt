use Rattle.std.proofs.Common.{◌≡◌, ◌+◌, ◌/◌, ◌-◌, ◌<◌, ◌≤◌, length, drop, get_or, All, sym, subst, arith, ℕ}
use Rattle.std.proofs.Math.Nat.{mul-le-mul_left}
use Rattle.std.proofs.lemmas.Nat.{div-add-mod'}
use Rattle.std.proofs.lemmas.List.{drop_more}
use Rattle.std.proofs.lemmas.List.Elements.{All-cons}
use Rattle.brick_store.proofs.CellKeys.{count_joined}
use Rattle.brick_store.proofs.cells.cell_count.Goals as goal

pub dims-preserved : goal.dims-preserved
dims-preserved c =
    let l = c.dims in
    let ranges = c.args.columns.now.layout.ranges in
    let group = c.args.group.now in
    let j = length group - 1 - l.done in
    let r = c.from-range.result in
    let range : r ≡ get_or ranges (get_or group (length group - 1 - l.done) 0) 0 = omega arith in
    let some : 0 < r = omega arith in
    let few : l.cells ≤ c.args.most / r = omega arith in
    let front : length group - (l.done + 1) ≡ length group - 1 - l.done = omega arith in
    let back : length group - 1 - l.done + 1 ≡ length group - l.done = omega arith in
    let positive = λ (dim : ℕ). 0 < get_or ranges dim 0 in
    record {
      value = count_joined ranges group l.done r l.cells (omega arith) range l.invariant.value;
      few = omega (arith, mul-le-mul_left r few, div-add-mod' c.args.most r);
      some =
          subst (λ (i : ℕ). All positive (drop i group)) (sym front)
          (subst (All positive) (sym (drop_more group (length group - 1 - l.done) 0 (omega arith)))
          (All-cons positive (get_or group (length group - 1 - l.done) 0) (drop (length group - 1 - l.done + 1) group) (omega arith)
          (subst (λ (i : ℕ). All positive (drop i group)) (sym back) l.invariant.some)));
    }
