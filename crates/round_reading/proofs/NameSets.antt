-- Which names a set has, as names are added to it.
use Rattle.std.proofs.Common.{◌≡◌, Bool, true, false, cond, not, ◌||◌, ◌&&◌, IsUtf8, inl, inr, List, [], ◌∷◌, ◌++◌, ℕ, refl, sym, ap, ◌∙◌}
use Rattle.std.specs.Borrow.{Bor}
use Rattle.std.specs.HashSet.{HashSet, contains_by}
use Rattle.std.specs.List.{list_any}
use Rattle.std.specs.Str.{bytes_eq, is_utf8}
use Rattle.std.proofs.lemmas.Bool.{cases_Bool}
use Rattle.std.proofs.lemmas.Str.{IsUtf8-from_is_utf8, is_utf8-from_IsUtf8}
use Rattle.std.specs.declared.hash.FoldHasher.{FoldHasher}
use Rattle.std.specs.declared.hash.BuildHasherDefault.{BuildHasherDefault}
use Rattle.std.proofs.lemmas.List.Folds.{list_any-append}
use Rattle.std.proofs.lemmas.Slice.Eq.{bytes_eq-Decides}
use Rattle.round_reading.specs.KnownNames.{HasJust}
use Rattle.round_reading.specs.Payload.{is_new_name}

abbrev Names : Type 0
Names = HashSet (Bor (List ℕ)) (BuildHasherDefault FoldHasher)

same_test : (a b : Bool) → (a ≡ true → b ≡ true) → (b ≡ true → a ≡ true) → a ≡ b
same_test true b there back = sym (there refl)
same_test false true there back = back refl
same_test false false there back = refl

eq_swapped : (a b : List ℕ) → bytes_eq a b ≡ bytes_eq b a
eq_swapped a b =
    same_test (bytes_eq a b) (bytes_eq b a)
    (λ t. (bytes_eq-Decides b a).1 (sym ((bytes_eq-Decides a b).0 t)))
    (λ t. (bytes_eq-Decides a b).1 (sym ((bytes_eq-Decides b a).0 t)))

or_added : (first others : Bool) → cond first true others ≡ (others || (first || false))
or_added true true = refl
or_added true false = refl
or_added false true = refl
or_added false false = refl

-- A set with one name more.
pub name_added : (old new : Names) (names : List (List ℕ)) (key : Bor (List ℕ))
    → ((q : Bor (List ℕ)) → contains_by (λ k. bytes_eq q.now k.now) new ≡ cond (bytes_eq key.now q.now) true (contains_by (λ k. bytes_eq q.now k.now) old))
    → HasJust old names → HasJust new (names ++ key.now ∷ [])
name_added old new names key updates has q =
    updates q
    ∙ ap (λ b. cond (bytes_eq key.now q.now) true b) (has q)
    ∙ ap (λ b. cond b true (list_any (bytes_eq q.now) names)) (eq_swapped key.now q.now)
    ∙ or_added (bytes_eq q.now key.now) (list_any (bytes_eq q.now) names)
    ∙ sym (list_any-append (bytes_eq q.now) names (key.now ∷ []))

-- A text is new where the set had it not.
pub new_name : (names : List (List ℕ)) (name : List ℕ) (key : Bor (List ℕ)) (set : Names) (added : Bool) → key.now ≡ name → IsUtf8 name → HasJust set names
    → added ≡ not (contains_by (λ k. bytes_eq key.now k.now) set) → added ≡ is_new_name names name
new_name names name key set added same utf8 has is =
    is ∙ ap not (has key) ∙ ap (λ (n : List ℕ). not (list_any (bytes_eq n) names)) same
    ∙ sym (ap (λ b. b && not (list_any (bytes_eq name) names)) (is_utf8-from_IsUtf8 name utf8))

pub not_utf8 : (name : List ℕ) → (IsUtf8 name → ⊥) → is_utf8 name ≡ false
not_utf8 name other =
    elim (cases_Bool (is_utf8 name)) [
      | inl text ↦ absurd (other (IsUtf8-from_is_utf8 name text))
      | inr none ↦ none
    ]
