-- The two rows of a test and their totals.
use Rattle.std.proofs.Common.{◌<◌, ℤ, pos, [], ◌∷◌, All, FitsSigned, refl, arith, rules}
use Rattle.std.specs.Int.{w64}
use Rattle.std.proofs.lemmas.List.Elements.{All-nil, All-cons}
use Rattle.cube_values.specs.Queries.{IsSoundItem}
use Rattle.cube_values.specs.declared.query.BoundItem.TheVariants.{Count, Sum}
use Rattle.cube_values.specs.declared.row.CodedRow.{CodedRow}
use Rattle.agg_fold.specs.Coded.{IsQueryRow, HasKey}
use Rattle.agg_fold.specs.Tallies.{Fits, IsAdditive}
use Rattle.agg_fold.specs.Totals.{AreToldOf}
use Rattle.query_cases.specs.TwoRows.{count_and_sum, three_and_five}

fits_3 : FitsSigned w64 (pos 3)
fits_3 = search rules

fits_5 : FitsSigned w64 (pos 5)
fits_5 = search rules

fits_0 : FitsSigned w64 (pos 0)
fits_0 = search rules

row : (n : ℤ) → FitsSigned w64 n → IsQueryRow count_and_sum (record { coords = []; metrics = n ∷ [] })
row n fits = record {
  sound = record {
    span = refl;
    group = All-nil (λ dim. dim < 0);
    items = All-cons (IsSoundItem [] 1) Count (Sum 0 ∷ []) tt (All-cons (IsSoundItem [] 1) (Sum 0) [] (omega arith) (All-nil (IsSoundItem [] 1)));
  };
  inside = refl;
  fit = All-cons (Fits (n ∷ [])) Count (Sum 0 ∷ []) fits_0 (All-cons (Fits (n ∷ [])) (Sum 0) [] fits (All-nil (Fits (n ∷ []))));
}

abbrev three : CodedRow
three = record { coords = []; metrics = pos 3 ∷ [] }

abbrev five : CodedRow
five = record { coords = []; metrics = pos 5 ∷ [] }

pub two_told : AreToldOf count_and_sum [] (record { rows = 2; sums = pos 0 ∷ pos 8 ∷ []; least = pos 0 ∷ pos 0 ∷ []; greatest = pos 0 ∷ pos 0 ∷ [] }) three_and_five
two_told = record {
  count = refl;
  taken = All-cons (IsQueryRow count_and_sum) three (five ∷ []) (row (pos 3) fits_3) (All-cons (IsQueryRow count_and_sum) five [] (row (pos 5) fits_5) (All-nil (IsQueryRow count_and_sum)));
  keyed = All-cons (HasKey [] []) three (five ∷ []) refl (All-cons (HasKey [] []) five [] refl (All-nil (HasKey [] [])));
  tallied = refl;
}

pub both_additive : All IsAdditive count_and_sum.items
both_additive = All-cons IsAdditive Count (Sum 0 ∷ []) tt (All-cons IsAdditive (Sum 0) [] tt (All-nil IsAdditive))
