-- The order of keys by their values: lists that rise, and the distinct_values of runs.
use Rattle.std.proofs.Common.{◌≡◌, ◌⊎◌, inl, inr, Bool, true, false, cond, List, [], ◌∷◌, fold, refl, sym, ap, ◌∙◌, subst}
use Rattle.std.specs.Cmp.{IsTotalOrder}
use Rattle.std.specs.List.{AllByRecursion}
use Rattle.std.specs.Ordering.{is_lt, ordering_then, ordering_reverse, match_ordering}
use Rattle.std.specs.declared.cmp.Ordering.{Ordering}
use Rattle.std.specs.declared.cmp.Ordering.TheVariants.{Less, Equal, Greater}
use Rattle.std.proofs.lemmas.Bool.{false≢true}
use Rattle.std.proofs.lemmas.Cmp.{int_cmp_total, nat_list_cmp_total, lists_total, tied_itself, alike_right}
use Rattle.std.proofs.lemmas.Map.Lookups.{exact_bytes, exact_signed}
use Rattle.cube_values.specs.Answer.{with_key}
use Rattle.cube_values.specs.SameValues.{same_values}
use Rattle.cube_values.specs.Values.{value_cmp, values_cmp, values_eq}
use Rattle.cube_values.specs.declared.value.Value.{Value}
use Rattle.cube_values.specs.declared.value.Value.TheVariants.{Text, Int}
use Rattle.agg_fold.specs.Tables.{AreSorted, IsIn, distinct_values}

antisymm : (x y : Value) → value_cmp x y ≡ ordering_reverse (value_cmp y x)
antisymm (Int a) (Int b) = int_cmp_total.antisymm a b
antisymm (Text a) (Text b) = nat_list_cmp_total.antisymm a b
antisymm (Int a) (Text b) = refl
antisymm (Text a) (Int b) = refl

trans : (x y z : Value) → value_cmp x y ≡ Less → value_cmp y z ≡ Less → value_cmp x z ≡ Less
trans (Int a) (Int b) (Int c) h k = int_cmp_total.trans a b c h k
trans (Text a) (Text b) (Text c) h k = nat_list_cmp_total.trans a b c h k
trans (Int a) (Int b) (Text c) h k = refl
trans (Int a) (Text b) (Text c) h k = refl
trans (Int a) (Text b) (Int c) h k = absurd (cc)
trans (Text a) (Int b) z h k = absurd (cc)
trans (Text a) (Text b) (Int c) h k = absurd (cc)

congr : (x y z : Value) → value_cmp x y ≡ Equal → value_cmp x z ≡ value_cmp y z
congr (Int a) (Int b) (Int c) h = int_cmp_total.congr a b c h
congr (Text a) (Text b) (Text c) h = nat_list_cmp_total.congr a b c h
congr (Int a) (Int b) (Text c) h = refl
congr (Text a) (Text b) (Int c) h = refl
congr (Int a) (Text b) z h = absurd (cc)
congr (Text a) (Int b) z h = absurd (cc)

pub values_total : IsTotalOrder values_cmp
values_total = lists_total (record { antisymm = antisymm; trans = trans; congr = congr })

value_exact : (x y : Value) → value_cmp x y ≡ Equal → x ≡ y
value_exact (Int a) (Int b) h = ap Int (exact_signed a b h)
value_exact (Text a) (Text b) h = ap Text (exact_bytes a b h)
value_exact (Int a) (Text b) h = absurd (cc)
value_exact (Text a) (Int b) h = absurd (cc)

then_equal : (o p : Ordering) → ordering_then o p ≡ Equal → (o ≡ Equal) × (p ≡ Equal)
then_equal Less p h = absurd (cc)
then_equal Equal p h = (refl, h)
then_equal Greater p h = absurd (cc)

values_exact : (xs ys : List Value) → values_cmp xs ys ≡ Equal → xs ≡ ys
values_exact [] [] h = refl
values_exact [] (y ∷ ys) h = absurd (cc)
values_exact (x ∷ xs) [] h = absurd (cc)
values_exact (x ∷ xs) (y ∷ ys) h =
    let both = then_equal (value_cmp x y) (values_cmp xs ys) h in
    λ i. value_exact x y both.0 i ∷ values_exact xs ys both.1 i

-- ---- lists that rise

abbrev pub Rising : List (List Value) → Type 0
Rising [] = Unit {0}
Rising (v ∷ vs) = AllByRecursion (λ w. values_cmp v w ≡ Less) vs × Rising vs

pub in_all : {X : Type 0} (P : X → Type 0) (x : X) (xs : List X) → AllByRecursion P xs → IsIn x xs → P x
in_all P x [] h i = absurd i
in_all P x (y ∷ xs) h (inl e) = subst P (sym e) h.0
in_all P x (y ∷ xs) h (inr i) = in_all P x xs h.1 i

all_weaker : {X : Type 0} (P Q : X → Type 0) → ((x : X) → P x → Q x) → (xs : List X) → AllByRecursion P xs → AllByRecursion Q xs
all_weaker P Q f [] h = tt
all_weaker P Q f (x ∷ xs) h = (f x h.0, all_weaker P Q f xs h.1)

not_both : (v w : List Value) → values_cmp v w ≡ Less → values_cmp w v ≡ Less → ⊥
not_both v w h k = let e : Less ≡ Greater = sym h ∙ values_total.antisymm v w ∙ ap ordering_reverse k in absurd (cc)

pub not_itself : (v : List Value) → values_cmp v v ≡ Less → ⊥
not_itself v h = let e : Less ≡ Equal = sym h ∙ tied_itself values_total v in absurd (cc)

same_head : (v w : List Value) (vs ws : List (List Value)) → Rising (v ∷ vs) → Rising (w ∷ ws) → IsIn v (w ∷ ws) → IsIn w (v ∷ vs) → v ≡ w
same_head v w vs ws a b (inl e) k = e
same_head v w vs ws a b (inr i) (inl e) = sym e
same_head v w vs ws a b (inr i) (inr j) = absurd (not_both v w (in_all (λ u. values_cmp v u ≡ Less) w vs a.0 j) (in_all (λ u. values_cmp w u ≡ Less) v ws b.0 i))

in_tail : (u v w : List Value) (vs ws : List (List Value)) → Rising (v ∷ vs) → v ≡ w → IsIn u vs → IsIn u (w ∷ ws) → IsIn u ws
in_tail u v w vs ws a e i (inl k) = absurd (not_itself v (subst (λ (x : List Value). values_cmp v x ≡ Less) (k ∙ sym e) (in_all (λ x. values_cmp v x ≡ Less) u vs a.0 i)))
in_tail u v w vs ws a e i (inr k) = k

pub rising_same : (vs ws : List (List Value)) → Rising vs → Rising ws → ((u : List Value) → IsIn u vs → IsIn u ws) → ((u : List Value) → IsIn u ws → IsIn u vs) → vs ≡ ws
rising_same [] [] a b f g = refl
rising_same [] (w ∷ ws) a b f g = absurd (g w (inl refl))
rising_same (v ∷ vs) [] a b f g = absurd (f v (inl refl))
rising_same (v ∷ vs) (w ∷ ws) a b f g =
    let e : v ≡ w = same_head v w vs ws a b (f v (inl refl)) (g w (inl refl)) in
    λ i. e i ∷ rising_same vs ws a.1 b.1 (λ u k. in_tail u v w vs ws a e k (f u (inr k))) (λ u k. in_tail u w v ws vs b (sym e) k (g u (inr k))) i

-- ---- one key more

with_all : (P : List Value → Type 0) (ks : List (List Value)) (key : List Value) → AllByRecursion P ks → P key → AllByRecursion P (with_key ks key)
with_all P [] key h p = (p, tt)
with_all P (k ∷ ks) key h p = at (with_all P ks key h.1 p) (values_cmp key k)
  where
    at : AllByRecursion P (with_key ks key) → (o : Ordering) → AllByRecursion P (match_ordering o (key ∷ k ∷ ks) (k ∷ ks) (k ∷ with_key ks key))
    at rest Less = (p, h)
    at rest Equal = h
    at rest Greater = (h.0, rest)

with_rising : (ks : List (List Value)) (key : List Value) → Rising ks → Rising (with_key ks key)
with_rising [] key h = (tt, tt)
with_rising (k ∷ ks) key h = at (with_rising ks key h.1) (values_cmp key k) refl
  where
    at : Rising (with_key ks key) → (o : Ordering) → values_cmp key k ≡ o → Rising (match_ordering o (key ∷ k ∷ ks) (k ∷ ks) (k ∷ with_key ks key))
    at rest Less e = ((e, all_weaker (λ w. values_cmp k w ≡ Less) (λ w. values_cmp key w ≡ Less) (λ w l. values_total.trans key k w e l) ks h.0), h)
    at rest Equal e = h
    at rest Greater e = (with_all (λ w. values_cmp k w ≡ Less) ks key h.0 (values_total.antisymm k key ∙ ap ordering_reverse e), rest)

with_in : (u : List Value) (ks : List (List Value)) (key : List Value) → IsIn u (with_key ks key) → IsIn u ks ⊎ (u ≡ key)
with_in u [] key (inl e) = inr e
with_in u [] key (inr i) = absurd i
with_in u (k ∷ ks) key i = at (λ j. with_in u ks key j) (values_cmp key k) i
  where
    skip : IsIn u ks ⊎ (u ≡ key) → IsIn u (k ∷ ks) ⊎ (u ≡ key)
    skip (inl i) = inl (inr i)
    skip (inr e) = inr e

    at : (IsIn u (with_key ks key) → IsIn u ks ⊎ (u ≡ key)) → (o : Ordering) → IsIn u (match_ordering o (key ∷ k ∷ ks) (k ∷ ks) (k ∷ with_key ks key)) → IsIn u (k ∷ ks) ⊎ (u ≡ key)
    at rest Less (inl e) = inr e
    at rest Less (inr i) = inl i
    at rest Equal i = inl i
    at rest Greater (inl e) = inl (inl e)
    at rest Greater (inr i) = skip (rest i)

in_with : (u : List Value) (ks : List (List Value)) (key : List Value) → IsIn u ks → IsIn u (with_key ks key)
in_with u [] key i = absurd i
in_with u (k ∷ ks) key i = at (λ j. in_with u ks key j) (values_cmp key k) i
  where
    at : (IsIn u ks → IsIn u (with_key ks key)) → (o : Ordering) → IsIn u (k ∷ ks) → IsIn u (match_ordering o (key ∷ k ∷ ks) (k ∷ ks) (k ∷ with_key ks key))
    at rest Less i = inr i
    at rest Equal i = i
    at rest Greater (inl e) = inl e
    at rest Greater (inr i) = inr (rest i)

key_in : (ks : List (List Value)) (key : List Value) → IsIn key (with_key ks key)
key_in [] key = inl refl
key_in (k ∷ ks) key = at (key_in ks key) (values_cmp key k) refl
  where
    at : IsIn key (with_key ks key) → (o : Ordering) → values_cmp key k ≡ o → IsIn key (match_ordering o (key ∷ k ∷ ks) (k ∷ ks) (k ∷ with_key ks key))
    at rest Less e = inl refl
    at rest Equal e = inl (values_exact key k e)
    at rest Greater e = inr rest

pub keys_rising : (ks ws : List (List Value)) → Rising ks → Rising (fold with_key ks ws)
keys_rising ks [] h = h
keys_rising ks (w ∷ ws) h = keys_rising (with_key ks w) ws (with_rising ks w h)

pub from_keys : (u : List Value) (ks ws : List (List Value)) → IsIn u (fold with_key ks ws) → IsIn u ks ⊎ IsIn u ws
from_keys u ks [] i = inl i
from_keys u ks (w ∷ ws) i = at (from_keys u (with_key ks w) ws i)
  where
    first : IsIn u ks ⊎ (u ≡ w) → IsIn u ks ⊎ IsIn u (w ∷ ws)
    first (inl i) = inl i
    first (inr e) = inr (inl e)

    at : IsIn u (with_key ks w) ⊎ IsIn u ws → IsIn u ks ⊎ IsIn u (w ∷ ws)
    at (inl i) = first (with_in u ks w i)
    at (inr i) = inr (inr i)

kept_key : (u : List Value) (ks ws : List (List Value)) → IsIn u ks → IsIn u (fold with_key ks ws)
kept_key u ks [] i = i
kept_key u ks (w ∷ ws) i = kept_key u (with_key ks w) ws (in_with u ks w i)

pub to_keys : (u : List Value) (ks ws : List (List Value)) → IsIn u ws → IsIn u (fold with_key ks ws)
to_keys u ks [] i = absurd i
to_keys u ks (w ∷ ws) (inl e) = subst (λ (x : List Value). IsIn x (fold with_key (with_key ks w) ws)) (sym e) (kept_key w (with_key ks w) ws (key_in ks w))
to_keys u ks (w ∷ ws) (inr i) = to_keys u (with_key ks w) ws i

-- ---- the distinct_values of runs

ends_all : (P : List Value → Type 0) (v : List Value) (vs : List (List Value)) → AllByRecursion P (v ∷ vs) → AllByRecursion P (distinct_values (v ∷ vs))
ends_all P v [] h = h
ends_all P v (w ∷ vs) h = at (ends_all P w vs h.1) (values_eq v w)
  where
    at : AllByRecursion P (distinct_values (w ∷ vs)) → (b : Bool) → AllByRecursion P (cond b (distinct_values (w ∷ vs)) (v ∷ distinct_values (w ∷ vs)))
    at rest true = rest
    at rest false = (h.0, rest)

-- what does not come before a later one comes after an earlier one
later : (v w u : List Value) → values_cmp v w ≡ Less → is_lt (values_cmp u w) ≡ false → values_cmp v u ≡ Less
later v w u h k = at (values_cmp w u) refl
  where
    at : (o : Ordering) → values_cmp w u ≡ o → values_cmp v u ≡ Less
    at Less e = values_total.trans v w u h e
    at Equal e = sym (alike_right values_total w u v e) ∙ h
    at Greater e = absurd (false≢true (sym k ∙ ap is_lt (values_total.antisymm u w ∙ ap ordering_reverse e)))

-- the next one, where it is another, comes after
next_less : (v w : List Value) → is_lt (values_cmp w v) ≡ false → values_eq v w ≡ false → values_cmp v w ≡ Less
next_less v w k differ = at (values_cmp v w) refl
  where
    at : (o : Ordering) → values_cmp v w ≡ o → values_cmp v w ≡ Less
    at Less e = e
    at Equal e = absurd (false≢true (sym differ ∙ (same_values v w).1 (values_exact v w e)))
    at Greater e = absurd (false≢true (sym k ∙ ap is_lt (values_total.antisymm w v ∙ ap ordering_reverse e)))

pub all_later : (v w : List Value) (vs : List (List Value)) → AreSorted (v ∷ w ∷ vs) → values_eq v w ≡ false → AllByRecursion (λ u. values_cmp v u ≡ Less) (w ∷ vs)
all_later v w vs s differ =
    let first = next_less v w s.0.0 differ in
    (first, all_weaker (λ u. is_lt (values_cmp u w) ≡ false) (λ u. values_cmp v u ≡ Less) (λ u. later v w u first) vs s.1.0)

pub ends_rising : (v : List Value) (vs : List (List Value)) → AreSorted (v ∷ vs) → Rising (distinct_values (v ∷ vs))
ends_rising v [] s = (tt, tt)
ends_rising v (w ∷ vs) s = at (ends_rising w vs s.1) (values_eq v w) refl
  where
    at : Rising (distinct_values (w ∷ vs)) → (b : Bool) → values_eq v w ≡ b → Rising (cond b (distinct_values (w ∷ vs)) (v ∷ distinct_values (w ∷ vs)))
    at rest true e = rest
    at rest false e = (ends_all (λ u. values_cmp v u ≡ Less) w vs (all_later v w vs s e), rest)

pub from_ends : (u v : List Value) (vs : List (List Value)) → IsIn u (distinct_values (v ∷ vs)) → IsIn u (v ∷ vs)
from_ends u v [] i = i
from_ends u v (w ∷ vs) i = at (λ j. from_ends u w vs j) (values_eq v w) i
  where
    at : (IsIn u (distinct_values (w ∷ vs)) → IsIn u (w ∷ vs)) → (b : Bool) → IsIn u (cond b (distinct_values (w ∷ vs)) (v ∷ distinct_values (w ∷ vs))) → IsIn u (v ∷ w ∷ vs)
    at rest true i = inr (rest i)
    at rest false (inl e) = inl e
    at rest false (inr i) = inr (rest i)

pub to_ends : (u v : List Value) (vs : List (List Value)) → IsIn u (v ∷ vs) → IsIn u (distinct_values (v ∷ vs))
to_ends u v [] i = i
to_ends u v (w ∷ vs) i = at (λ j. to_ends u w vs j) (values_eq v w) refl i
  where
    at : (IsIn u (w ∷ vs) → IsIn u (distinct_values (w ∷ vs))) → (b : Bool) → values_eq v w ≡ b → IsIn u (v ∷ w ∷ vs) → IsIn u (cond b (distinct_values (w ∷ vs)) (v ∷ distinct_values (w ∷ vs)))
    at rest true e (inl k) = rest (inl (k ∙ (same_values v w).0 e))
    at rest true e (inr i) = rest i
    at rest false e (inl k) = inl k
    at rest false e (inr i) = inr (rest i)
