-- The tallies of what is told, item by item.
use Rattle.std.proofs.Common.{◌≡◌, ℕ, ◌+◌, ◌<◌, ◌≤◌, ℤ, List, [], ◌∷◌, ◌++◌, length, get_or, drop, sym, ap, ◌∙◌, append_assoc, arith}
use Rattle.std.proofs.lemmas.List.{drop_more, drop_all, append-nil}
use Rattle.cube_values.specs.declared.query.BoundItem.{BoundItem}
use Rattle.agg_fold.specs.declared.tally.Tally.{Tally}
use Rattle.agg_fold.specs.Tallies.{told_tally, told_tallies}

pub record AreLong (items : List BoundItem) (sums least greatest : List ℤ) : Type 0 where
  pub enough_sums : length items ≤ length sums
  pub enough_least : length items ≤ length least
  pub enough_greatest : length items ≤ length greatest

-- where each item has its tally, something is told for each
pub told_long : (items : List BoundItem) (sums least greatest : List ℤ) → length (told_tallies items sums least greatest) ≡ length items → AreLong items sums least greatest
told_long [] sums least greatest h = record { enough_sums = omega arith; enough_least = omega arith; enough_greatest = omega arith }
told_long (item ∷ items) [] least greatest h = absurd (omega arith)
told_long (item ∷ items) (s ∷ sums) [] greatest h = absurd (omega arith)
told_long (item ∷ items) (s ∷ sums) (l ∷ least) [] h = absurd (omega arith)
told_long (item ∷ items) (s ∷ sums) (l ∷ least) (g ∷ greatest) h =
    let rest = told_long items sums least greatest (omega arith) in
    record { enough_sums = omega (arith, rest.enough_sums); enough_least = omega (arith, rest.enough_least); enough_greatest = omega (arith, rest.enough_greatest) }

module _ (items : List BoundItem) (sums least greatest : List ℤ) (tallies : List Tally) (i : ℕ) where
  -- what is there, and what is told from an item on
  abbrev pub gathered : List Tally
  gathered = tallies ++ told_tallies (drop i items) (drop i sums) (drop i least) (drop i greatest)

  pub told_more : (new : List Tally) (tally : Tally) (item : BoundItem) (s l g : ℤ) → AreLong items sums least greatest → i < length items → new ≡ tallies ++ tally ∷ []
      → tally ≡ told_tally (get_or items i item) (get_or sums i s) (get_or least i l) (get_or greatest i g)
      → new ++ told_tallies (drop (i + 1) items) (drop (i + 1) sums) (drop (i + 1) least) (drop (i + 1) greatest) ≡ gathered
  told_more new tally item s l g long h e t =
      let rest = told_tallies (drop (i + 1) items) (drop (i + 1) sums) (drop (i + 1) least) (drop (i + 1) greatest) in
      ap (λ (ts : List Tally). ts ++ rest) e
      ∙ append_assoc tallies (tally ∷ []) rest
      ∙ ap (λ (x : Tally). tallies ++ x ∷ rest) t
      ∙ (λ k. tallies ++ told_tallies (sym (drop_more items i item h) k) (sym (drop_more sums i s (omega (arith, long.enough_sums))) k) (sym (drop_more least i l (omega (arith, long.enough_least))) k) (sym (drop_more greatest i g (omega (arith, long.enough_greatest))) k))

  pub told_all : length items ≤ i → tallies ≡ gathered
  told_all h = sym (append-nil tallies) ∙ (λ k. tallies ++ told_tallies (sym (drop_all i items h) k) (drop i sums) (drop i least) (drop i greatest))
