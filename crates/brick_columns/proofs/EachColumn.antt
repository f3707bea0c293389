-- What the step of a loop makes of one column, which was still as it had been.
use Rattle.std.proofs.Common.{◌≡◌, ℕ, ◌≤◌, Bool, List, [], ◌∷◌, ◌++◌, length, take, Vec, Global, vec_capacity, ap, ◌∙◌}
use Rattle.std.specs.List.{items_where_true}
use Rattle.std.specs.Vec.{with_items}
use Rattle.std.proofs.lemmas.List.{with_items_is}
use Rattle.brick_columns.specs.Lists.{IsGrown, IsPushed, IsSelection}

module _ {T : Type 0} (old column new : Vec T Global) (same : column ≡ old) where
  pub grown : new.items ≡ column.items → vec_capacity column ≤ vec_capacity new → IsGrown old new
  grown items memory = record { items = items ∙ ap (λ c. c.items) same; memory = rw same at memory }

  pub pushed : (item : T) → new.items ≡ column.items ++ item ∷ [] → vec_capacity new ≡ vec_capacity column → IsPushed old item new
  pushed item items memory = record {
    items = items ∙ ap (λ c. c.items ++ item ∷ []) same;
    memory = memory ∙ ap (λ c. vec_capacity c) same;
  }

  -- items that were moved to the front through a slice, and cut there
  pub kept : (bits : List Bool) (read items : List T) (n : ℕ) → read ≡ column.items → length items ≡ column.len → take n items ≡ items_where_true bits read → new.items ≡ take n (with_items column items).items → vec_capacity new ≡ vec_capacity column → IsSelection bits old new
  kept bits read items n was long front cut memory =
      let written = ap (take n) (with_items_is column items long) in
      record {
        items = cut ∙ written ∙ front ∙ ap (items_where_true bits) was ∙ ap (λ c. items_where_true bits c.items) same;
        memory = memory ∙ ap (λ c. vec_capacity c) same;
      }
