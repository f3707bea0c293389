use Rattle.std.proofs.Common.{◌≡◌, pos, get_or, FitsSigned, w64, subst, arith, rules, inl, inr}
use Rattle.std.proofs.lemmas.Bool.{cases_lt}
use Rattle.std.proofs.lemmas.List.{get_or_default}
use Rattle.brick_store.proofs.scan.all_fit.Goals as goal

pub numbers-preserved : goal.numbers-preserved
numbers-preserved c = λ k h.
    let l = c.numbers in
    elim (cases_lt k l.i) [
      | inl less ↦ l.invariant k less
      | inr more ↦
          let same : l.i ≡ k = omega arith in
          let here : FitsSigned w64 (get_or c.args.numbers.now l.i (pos 0)) = search rules in
          subst (λ j. FitsSigned w64 (get_or c.args.numbers.now j (pos 0))) same here
    ]

pub returns : goal.returns
returns c = λ k d h.
    let l = c.numbers in
    subst (FitsSigned w64) (get_or_default c.args.numbers.now k (pos 0) d h) (l.invariant k (omega arith))
