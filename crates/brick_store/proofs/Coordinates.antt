-- The coordinates of a row, one after another.
use Rattle.std.proofs.Common.{◌≡◌, ℕ, ◌+◌, ◌<◌, zero, suc, List, [], ◌∷◌, ◌++◌, length, take, set, get_or, min, refl, sym, ◌∙◌, arith}
use Rattle.std.specs.List.{zip}
use Rattle.std.proofs.lemmas.List.{length-map, take_more, take_more_set}
use Rattle.std.proofs.lemmas.Slice.Zip.{length-zip}
use Rattle.brick_store.specs.Whole.{coords_at_offsets}

pub coords_long : (starts offsets : List ℕ) → length (coords_at_offsets starts offsets) ≡ min (length starts) (length offsets)
coords_long starts offsets = length-map (zip starts offsets) (λ p. p.0 + p.1) ∙ length-zip starts offsets

pub coord_here : (starts offsets : List ℕ) (i d e : ℕ) → i < length starts → i < length offsets → get_or (coords_at_offsets starts offsets) i 0 ≡ get_or starts i d + get_or offsets i e
coord_here [] offsets i d e p q = absurd (omega arith)
coord_here (s ∷ starts) [] i d e p q = absurd (omega arith)
coord_here (s ∷ starts) (o ∷ offsets) zero d e p q = refl
coord_here (s ∷ starts) (o ∷ offsets) (suc i) d e p q = coord_here starts offsets i d e (omega arith) (omega arith)

-- a list that is written over with the items of another
pub written_more : {A : Type 0} (xs ys : List A) (i : ℕ) (d x : A) → i < length xs → i < length ys → take i xs ≡ take i ys → x ≡ get_or ys i d → take (i + 1) (set xs i x) ≡ take (i + 1) ys
written_more xs ys i d x p q front e =
    take_more_set xs i x p ∙ (λ t. front t ++ e t ∷ []) ∙ sym (take_more ys i d q)
