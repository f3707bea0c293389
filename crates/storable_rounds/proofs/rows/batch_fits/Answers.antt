use Rattle.std.proofs.Common.{◌≡◌, [], inl, inr, subst, arith}
use Rattle.std.proofs.lemmas.Bool.{cases_lt}
use Rattle.cube_values.specs.Batches.{coded_row_at}
use Rattle.following_rounds.specs.FollowingRounds.{HasStorableValues}
use Rattle.storable_rounds.proofs.ByIndex.{all-by-index}
use Rattle.storable_rounds.proofs.rows.batch_fits.Goals as goal

pub rows-preserved : goal.rows-preserved
rows-preserved c = λ k low.
    let l = c.rows in
    elim (cases_lt k l.i) [
      | inl less ↦ l.invariant k less
      | inr more ↦
          let same : l.i ≡ k = omega arith in
          subst (λ j. HasStorableValues (coded_row_at c.args.rows.now.rows j)) same c.row_fits.ensures
    ]

pub returns : goal.returns
returns c =
    all-by-index HasStorableValues c.args.rows.now.rows (record { coords = []; metrics = [] })
    (λ k low. c.rows.invariant k (omega arith))
