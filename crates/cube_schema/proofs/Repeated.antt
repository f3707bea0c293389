-- The first name that stands before already, as a loop over the names finds it.
use Rattle.std.proofs.Common.{◌≡◌, ℕ, suc, ◌+◌, ◌<◌, Bool, true, false, not, cond, ◌||◌, List, [], ◌∷◌, ◌++◌, length, take, drop, get_or, Some, None, refl, sym, ap, ◌∙◌, inl, inr}
use Rattle.std.specs.BTreeSet.{BTreeSet, contains_by, Updates}
use Rattle.std.specs.Borrow.{Bor}
use Rattle.std.specs.Cmp.Lexicographic.{slice_cmp}
use Rattle.std.specs.List.{list_any}
use Rattle.std.specs.Ordering.{nat_cmp}
use Rattle.std.specs.Str.{bytes_eq}
use Rattle.std.proofs.Math.Seq.{split_at}
use Rattle.std.proofs.lemmas.Bool.{cases_Bool}
use Rattle.std.proofs.lemmas.Bool.Decides.{same_from_decides}
use Rattle.std.proofs.lemmas.List.{take-map, map_more, get_or-map, length-map}
use Rattle.std.proofs.lemmas.List.Folds.{list_any-append}
use Rattle.std.proofs.lemmas.Map.Text.{is_eq-slice_cmp}
use Rattle.std.proofs.lemmas.Slice.Eq.{bytes_eq-Decides}
use Rattle.cube_language.specs.Cubes.{repeated_after, first_repeated}
use Rattle.cube_schema.specs.Repeats.{RepeatsAt, names_lent}

bytes_eq_comm : (a b : List ℕ) → bytes_eq a b ≡ bytes_eq b a
bytes_eq_comm a b =
    let ab = bytes_eq-Decides a b in
    let ba = bytes_eq-Decides b a in
    same_from_decides _ _ ab (λ t. sym (ba.0 t), λ e. ba.1 (sym e))

pub or_moved : (a b c : Bool) → (a || (b || c)) ≡ ((b || a) || c)
or_moved true true c = refl
or_moved true false c = refl
or_moved false true c = refl
or_moved false false c = refl

pub or_false : (b : Bool) → (b || false) ≡ b
or_false true = refl
or_false false = refl

-- Behind names that each stand once, a further name is the first to stand before already if it does so.
after-push : (before names : List (List ℕ)) (name : List ℕ) → repeated_after before names ≡ None
    → repeated_after before (names ++ name ∷ []) ≡ cond (list_any (bytes_eq name) names || list_any (bytes_eq name) before) (Some name) None
after-push before [] name apart = refl
after-push before (first ∷ names) name apart =
    elim (cases_Bool (list_any (bytes_eq first) before)) [
      | inl there ↦ let no = rw there at apart in absurd cc
      | inr new ↦ rw new (after-push (first ∷ before) names name (rw new at apart)
          ∙ ap (λ b. cond b (Some name) None) (or_moved (list_any (bytes_eq name) names) (bytes_eq name first) (list_any (bytes_eq name) before)))
    ]

-- Behind names that each stand once, a name that stands before already is the first to do so, whatever follows.
after-again : (before names : List (List ℕ)) (name : List ℕ) (more : List (List ℕ)) → repeated_after before names ≡ None → (list_any (bytes_eq name) names || list_any (bytes_eq name) before) ≡ true
    → repeated_after before (names ++ name ∷ more) ≡ Some name
after-again before [] name more apart again = rw again refl
after-again before (first ∷ names) name more apart again =
    elim (cases_Bool (list_any (bytes_eq first) before)) [
      | inl there ↦ let no = rw there at apart in absurd cc
      | inr new ↦ rw new (after-again (first ∷ before) names name more (rw new at apart) (or_moved (list_any (bytes_eq name) names) (bytes_eq name first) (list_any (bytes_eq name) before) ∙ again))
    ]

pub repeated-again : (names : List (List ℕ)) (name : List ℕ) (more : List (List ℕ)) → first_repeated names ≡ None → list_any (bytes_eq name) names ≡ true → first_repeated (names ++ name ∷ more) ≡ Some name
repeated-again names name more apart again = after-again [] names name more apart (or_false (list_any (bytes_eq name) names) ∙ again)

pub repeats-first : (names : List (List ℕ)) (place : ℕ) → RepeatsAt names place → first_repeated names ≡ Some (get_or names place [])
repeats-first names place repeats =
    ap first_repeated (split_at names place [] repeats.within)
    ∙ repeated-again (take place names) (get_or names place []) (drop (suc place) names) repeats.apart repeats.again

pub repeated-push : (names : List (List ℕ)) (name : List ℕ) → first_repeated names ≡ None → first_repeated (names ++ name ∷ []) ≡ cond (list_any (bytes_eq name) names) (Some name) None
repeated-push names name apart =
    after-push [] names name apart ∙ ap (λ b. cond b (Some name) None) (or_false (list_any (bytes_eq name) names))

-- A set of names has these, and no others.
abbrev pub HasNames : BTreeSet (Bor (List ℕ)) → List (List ℕ) → Type 0
HasNames set names = (q : Bor (List ℕ)) → contains_by (λ k. slice_cmp nat_cmp q.now k.now) set ≡ list_any (bytes_eq q.now) names

pub names_more : (names : List (Bor (List ℕ))) (i : ℕ) (d : Bor (List ℕ)) → i < length names → take (i + 1) (names_lent names) ≡ take i (names_lent names) ++ (get_or names i d).now ∷ []
names_more names i d lt =
    let f : Bor (List ℕ) → List ℕ = λ name. name.now in
    take-map f (i + 1) names ∙ map_more f names i d lt ∙ ap (λ xs. xs ++ (get_or names i d).now ∷ []) (sym (take-map f i names))

cond_or : (a b : Bool) → cond a true b ≡ (b || (a || false))
cond_or true true = refl
cond_or true false = refl
cond_or false true = refl
cond_or false false = refl

pub has-push : (before after : BTreeSet (Bor (List ℕ))) (names : List (List ℕ)) (key : Bor (List ℕ)) → HasNames before names → Updates (λ a b. slice_cmp nat_cmp a.now b.now) before after key true → HasNames after (names ++ key.now ∷ [])
has-push before after names key has updates = λ q.
    let test = is_eq-slice_cmp key.now q.now ∙ bytes_eq_comm key.now q.now in
    updates.0 q
    ∙ (λ i. cond (test i) true (has q i))
    ∙ cond_or (bytes_eq q.now key.now) (list_any (bytes_eq q.now) names)
    ∙ sym (list_any-append (bytes_eq q.now) names (key.now ∷ []))

-- A set of names has these, of which each stands once.
pub record HasDistinct (set : BTreeSet (Bor (List ℕ))) (names : List (List ℕ)) : Type 0 where
  pub has : HasNames set names
  pub apart : first_repeated names ≡ None

not_known : (new there : Bool) → new ≡ not there → new ≡ true → there ≡ false
not_known new true e t = absurd cc
not_known new false e t = refl

pub more_distinct : (before after : BTreeSet (Bor (List ℕ))) (names : List (Bor (List ℕ))) (i : ℕ) (d : Bor (List ℕ)) (new : Bool) → i < length names → HasDistinct before (take i (names_lent names))
    → new ≡ true → new ≡ not (contains_by (λ k. slice_cmp nat_cmp (get_or names i d).now k.now) before) → Updates (λ a b. slice_cmp nat_cmp a.now b.now) before after (get_or names i d) true → HasDistinct after (take (i + 1) (names_lent names))
more_distinct before after names i d new lt distinct is_new added updates =
    let absent = sym (distinct.has (get_or names i d)) ∙ not_known new _ added is_new in
    rw (names_more names i d lt) (record {
      has = has-push before after (take i (names_lent names)) (get_or names i d) distinct.has updates;
      apart = repeated-push (take i (names_lent names)) (get_or names i d).now distinct.apart ∙ ap (λ b. cond b (Some (get_or names i d).now) None) absent;
    })

known : (new there : Bool) → new ≡ not there → new ≡ false → there ≡ true
known new true e t = refl
known new false e t = absurd cc

pub stands_again : (before : BTreeSet (Bor (List ℕ))) (names : List (Bor (List ℕ))) (i : ℕ) (d : Bor (List ℕ)) (new : Bool) → i < length names → HasDistinct before (take i (names_lent names))
    → new ≡ false → new ≡ not (contains_by (λ k. slice_cmp nat_cmp (get_or names i d).now k.now) before) → RepeatsAt (names_lent names) i
stands_again before names i d new lt distinct is_old added =
    let there = sym (distinct.has (get_or names i d)) ∙ known new _ added is_old in
    let f : Bor (List ℕ) → List ℕ = λ name. name.now in
    let name : get_or (names_lent names) i [] ≡ (get_or names i d).now = get_or-map f names i d [] lt in
    record { within = rw (length-map names f) lt; apart = distinct.apart; again = rw name there }

-- The reference at the place is to the name that is the first to stand before already.
pub first-at : (refs : List (Bor (List ℕ))) (place : ℕ) (found : Bor (List ℕ)) → RepeatsAt (names_lent refs) place → found ≡ get_or refs place found → first_repeated (names_lent refs) ≡ Some found.now
first-at refs place found repeats is =
    let f : Bor (List ℕ) → List ℕ = λ name. name.now in
    let lt : place < length refs = rw (length-map refs f) at repeats.within in
    repeats-first (names_lent refs) place repeats ∙ ap Some (get_or-map f refs place found [] lt ∙ ap f (sym is))
