-- Two lists side by side, as a loop goes over them.
use Rattle.std.proofs.Common.{◌≡◌, ℕ, zero, suc, ◌+◌, ◌<◌, ◌≤◌, List, [], ◌∷◌, ◌++◌, length, take, get_or, refl, sym, ap, ◌∙◌, append_assoc, arith}
use Rattle.std.specs.List.{flat_map, zip, AllZip}
use Rattle.std.proofs.lemmas.List.{take_more, append-nil, take_all}
use Rattle.std.proofs.lemmas.Grind.{flat_map-append}
use Rattle.std.proofs.lemmas.Slice.Zip.{get_or-zip, length-zip}

-- One pair more was put.
pub pair_put : {A B : Type 0} (f : A × B → List ℕ) (ks : List A) (vs : List B) (i : ℕ) (d : A) (e : B) (before out new : List ℕ)
    → i < length ks → length vs ≡ length ks → d ≡ get_or ks i d → e ≡ get_or vs i e
    → out ≡ before ++ flat_map f (take i (zip ks vs)) → new ≡ out ++ f (d, e)
    → new ≡ before ++ flat_map f (take (i + 1) (zip ks vs))
pair_put f ks vs i d e before out new lt same d-is e-is so_far put =
    let there : i < length (zip ks vs) = omega (arith, length-zip ks vs) in
    let pair : get_or (zip ks vs) i (d, e) ≡ (get_or ks i d, get_or vs i e) = get_or-zip ks vs i (d, e) lt (omega arith) in
    let one : flat_map f (take (i + 1) (zip ks vs)) ≡ flat_map f (take i (zip ks vs)) ++ f (get_or ks i d, get_or vs i e) =
    ap (flat_map f) (take_more (zip ks vs) i (d, e) there)
    ∙ flat_map-append f (take i (zip ks vs)) (get_or (zip ks vs) i (d, e) ∷ [])
    ∙ ap (λ (b : List ℕ). flat_map f (take i (zip ks vs)) ++ b) (append-nil (f (get_or (zip ks vs) i (d, e))) ∙ ap f pair) in
    put ∙ (λ j. out ++ f (d-is j, e-is j)) ∙ ap (λ (b : List ℕ). b ++ f (get_or ks i d, get_or vs i e)) so_far
    ∙ append_assoc before (flat_map f (take i (zip ks vs))) (f (get_or ks i d, get_or vs i e))
    ∙ ap (λ (b : List ℕ). before ++ b) (sym one)

-- All pairs were put.
pub pairs_put : {A B : Type 0} (f : A × B → List ℕ) (ks : List A) (vs : List B) (i : ℕ) (before out : List ℕ)
    → length ks ≤ i → length vs ≡ length ks
    → out ≡ before ++ flat_map f (take i (zip ks vs)) → out ≡ before ++ flat_map f (zip ks vs)
pairs_put f ks vs i before out le same so_far =
    so_far ∙ ap (λ (z : _). before ++ flat_map f z) (take_all i (zip ks vs) (omega (arith, length-zip ks vs)))

pub zip_length : {A B : Type 0} (R : A → B → Type 0) (xs : List A) (ys : List B) → AllZip R xs ys → length xs ≡ length ys
zip_length R [] [] all = refl
zip_length R [] (y ∷ ys) all = absurd all
zip_length R (x ∷ xs) [] all = absurd all
zip_length R (x ∷ xs) (y ∷ ys) all = ap suc (zip_length R xs ys all.1)

-- What holds of each two holds of those at a place.
pub zip_at : {A B : Type 0} (R : A → B → Type 0) (xs : List A) (ys : List B) (i : ℕ) (d : A) (e : B) → AllZip R xs ys → i < length ys → R (get_or xs i d) (get_or ys i e)
zip_at R [] [] i d e all lt = absurd (omega arith)
zip_at R [] (y ∷ ys) i d e all lt = absurd all
zip_at R (x ∷ xs) [] i d e all lt = absurd all
zip_at R (x ∷ xs) (y ∷ ys) zero d e all lt = all.0
zip_at R (x ∷ xs) (y ∷ ys) (suc i) d e all lt = zip_at R xs ys i d e all.1 (omega arith)
