-- What a session holds under other numbers than its own: with one reader more, without one, and looked up by its number.
use Rattle.std.proofs.Common.{◌≡◌, ◌∙◌, ◌≢◌, ℕ, ◌==◌, Bool, true, false, ◌||◌, not, List, [], ◌∷◌, ◌++◌, filter, inl, inr, if◌then◌else◌, Some, refl, sym, ap, arith, ne_eqb}
use Rattle.std.specs.List.{list_any}
use Rattle.std.proofs.lemmas.List.Elements.{filter-append}
use Rattle.core_events.proofs.Lookups.{held-under-without, without_one}
use Rattle.core_events.specs.Clients.{Holding, held_under, holds_with, holds_without, others_hold, reader_up_to}
use Rattle.cube_core.proofs.Snapshots.{same-number}
use Rattle.watch_holds.specs.HolderStates.{IsHolderOf, reader_under}

pub not-own : (a number : ℕ) → IsHolderOf a number → number ≢ a
not-own a number (inl first) = λ same. omega (arith, first, same)
not-own a number (inr second) = λ same. omega (arith, second, same)

pub apart : (n m : ℕ) → n ≢ m → (n == m) ≡ false
apart n m other = ne_eqb n m other

pub apart-back : (n m : ℕ) → n ≢ m → (m == n) ≡ false
apart-back n m other = ne_eqb m n (λ same. other (sym same))

-- A number that is not the session's own is looked up among the others.
pub held-in-others : (a number : ℕ) (holds others : List Holding) → number ≢ a → holds_without a holds ≡ others
    → held_under number holds ≡ held_under number others
held-in-others a number holds others other is =
    sym (held-under-without holds a number
    ∙ ap (λ (out : Bool). without_one out (held_under number holds)) (apart-back number a other))
    ∙ ap (held_under number) is

pub held-first : (number epoch : ℕ) (others : List Holding)
    → held_under number (reader_under number epoch ∷ others) ≡ Some (reader_up_to epoch)
held-first number epoch others =
    ap (λ (here : Bool). if here then Some (reader_up_to epoch) else held_under number others) (same-number number)

pub held-behind : (other number epoch : ℕ) (others : List Holding) → other ≢ number
    → held_under number (reader_under other epoch ∷ others) ≡ held_under number others
held-behind other number epoch others is =
    ap (λ (here : Bool). if here then Some (reader_up_to epoch) else held_under number others) (apart other number is)

-- Whether others hold.

abbrev has_some : List Holding → Bool
has_some [] = false
has_some (h ∷ holds) = true

any-by-filter : (p : Holding → Bool) (xs : List Holding) → list_any p xs ≡ has_some (filter p xs)
any-by-filter p [] = refl
any-by-filter p (x ∷ xs) = step (p x) (any-by-filter p xs)
  where
    step : (b : Bool) → list_any p xs ≡ has_some (filter p xs)
        → (b || list_any p xs) ≡ has_some (if b then x ∷ filter p xs else filter p xs)
    step true rest = refl
    step false rest = rest

pub none-hold : (a : ℕ) (holds : List Holding) → holds_without a holds ≡ [] → others_hold a holds ≡ false
none-hold a holds is = any-by-filter (λ h. not (h.number == a)) holds ∙ ap has_some is

pub some-hold : (a : ℕ) (holds : List Holding) (h : Holding) (rest : List Holding) → holds_without a holds ≡ h ∷ rest
    → others_hold a holds ≡ true
some-hold a holds h rest is = any-by-filter (λ x. not (x.number == a)) holds ∙ ap has_some is

-- One reader more.
pub others-with : (a number epoch : ℕ) (holds others : List Holding) → number ≢ a → holds_without a holds ≡ others
    → holds_without a (holds_with number (reader_up_to epoch) holds) ≡ others ++ reader_under number epoch ∷ []
others-with a number epoch holds others other is =
    filter-append (λ h. not (h.number == a)) holds (reader_under number epoch ∷ [])
    ∙ (λ i. is i ++ (if not (apart number a other i) then reader_under number epoch ∷ [] else []))

-- One less.

both-filters : (p q : Holding → Bool) (xs : List Holding) → filter p (filter q xs) ≡ filter q (filter p xs)
both-filters p q [] = refl
both-filters p q (x ∷ xs) = step (p x) (q x) refl refl (both-filters p q xs)
  where
    step : (b c : Bool) → p x ≡ b → q x ≡ c → filter p (filter q xs) ≡ filter q (filter p xs)
        → filter p (if c then x ∷ filter q xs else filter q xs) ≡ filter q (if b then x ∷ filter p xs else filter p xs)
    step true true is at rest =
        ap (λ (b : Bool). if b then x ∷ filter p (filter q xs) else filter p (filter q xs)) is
        ∙ ap (λ (l : List Holding). x ∷ l) rest
        ∙ ap (λ (c : Bool). if c then x ∷ filter q (filter p xs) else filter q (filter p xs)) (sym at)
    step true false is at rest =
        rest ∙ ap (λ (c : Bool). if c then x ∷ filter q (filter p xs) else filter q (filter p xs)) (sym at)
    step false true is at rest =
        ap (λ (b : Bool). if b then x ∷ filter p (filter q xs) else filter p (filter q xs)) is ∙ rest
    step false false is at rest = rest

pub others-less : (a number : ℕ) (holds others : List Holding) → holds_without a holds ≡ others
    → holds_without a (holds_without number holds) ≡ holds_without number others
others-less a number holds others is =
    both-filters (λ h. not (h.number == a)) (λ h. not (h.number == number)) holds ∙ ap (holds_without number) is

pub without-first : (number epoch : ℕ) (others : List Holding)
    → holds_without number (reader_under number epoch ∷ others) ≡ holds_without number others
without-first number epoch others =
    ap (λ (own : Bool). if not own then reader_under number epoch ∷ holds_without number others else holds_without number others)
    (same-number number)

pub without-behind : (other number epoch : ℕ) (others : List Holding) → other ≢ number
    → holds_without number (reader_under other epoch ∷ others) ≡ reader_under other epoch ∷ holds_without number others
without-behind other number epoch others is =
    ap (λ (own : Bool). if not own then reader_under other epoch ∷ holds_without number others else holds_without number others)
    (apart other number is)
