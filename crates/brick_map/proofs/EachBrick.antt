-- Passes over a list.
use Rattle.std.proofs.Common.{◌≡◌, List, [], ◌∷◌, map, refl}
use Rattle.std.specs.List.{AllZip}

-- each is what a change makes of the other
pub zip_mapped : {A : Type 0} (f : A → A) (xs ys : List A) → AllZip (λ x y. y ≡ f x) xs ys → ys ≡ map f xs
zip_mapped f [] [] h = refl
zip_mapped f [] (y ∷ ys) h = absurd h
zip_mapped f (x ∷ xs) [] h = absurd h
zip_mapped f (x ∷ xs) (y ∷ ys) h = λ t. h.0 t ∷ zip_mapped f xs ys h.1 t
