-- The mails for whose answers a group waits, of numbers that differ: all that were posted to and not yet fetched from.
use Rattle.std.proofs.Common.{◌≡◌, ◌∙◌, ℕ, zero, suc, ◌+◌, ◌<◌, ◌==◌, eqb, nat_eq, not, Bool, true, false, true≢false, ◌||◌, cond, List, [], ◌∷◌, ◌++◌, take, drop, length, slice_get, Some, refl, sym, ap, subst, arith, eq-eqb, ne_eqb}
use Rattle.std.proofs.lemmas.Option.{none-some, same_Some}
use Rattle.std.specs.List.{AllByRecursion, IsDistinct}
use Rattle.core_events.specs.Groups.{Received, has_number, is_empty, numbers_without}
use Rattle.core_events.specs.Jobs.{JobOutcome}
use Rattle.job_groups.specs.AskedEach.{received}
use Rattle.job_groups.specs.AskedSome.{received_from}
use Rattle.job_groups.specs.PostedSome.{waits_of}

pub waits-more : (xs : List ℕ) (x : ℕ) → waits_of (xs ++ x ∷ []) ≡ x ∷ waits_of xs
waits-more [] x = refl
waits-more (y ∷ ys) x = ap (λ (l : List ℕ). l ++ y ∷ []) (waits-more ys x)

pub never-empty : (xs : List ℕ) (x : ℕ) → is_empty (xs ++ x ∷ []) ≡ false
never-empty [] x = refl
never-empty (y ∷ ys) x = refl

-- The first numbers of a list and one more, and those behind one.
pub take-next : {X : Type 0} (xs : List X) (n : ℕ) (x : X) → slice_get xs n ≡ Some x → take (suc n) xs ≡ take n xs ++ x ∷ []
take-next [] n x is = absurd (none-some x is)
take-next (y ∷ ys) zero x is = ap (λ (z : _). z ∷ []) (same_Some y x is)
take-next (y ∷ ys) (suc n) x is = ap (λ (l : List _). y ∷ l) (take-next ys n x is)

pub drop-next : {X : Type 0} (xs : List X) (n : ℕ) (x : X) → slice_get xs n ≡ Some x → drop n xs ≡ x ∷ drop (suc n) xs
drop-next [] n x is = absurd (none-some x is)
drop-next (y ∷ ys) zero x is = ap (λ (z : _). z ∷ ys) (same_Some y x is)
drop-next (y ∷ ys) (suc n) x is = drop-next ys n x is

-- Tests.
or-assoc : (a b c : Bool) → (a || (b || c)) ≡ ((a || b) || c)
or-assoc true b c = refl
or-assoc false b c = refl

or-swap : (a b : Bool) → (a || (b || false)) ≡ (b || a)
or-swap true true = refl
or-swap true false = refl
or-swap false true = refl
or-swap false false = refl

or-left : (a b : Bool) → (a || b) ≡ false → a ≡ false
or-left true b is = is
or-left false b is = refl

or-right : (a b : Bool) → (a || b) ≡ false → b ≡ false
or-right true b is = absurd (true≢false is)
or-right false b is = is

has-both : (xs ys : List ℕ) (n : ℕ) → has_number (xs ++ ys) n ≡ (has_number xs n || has_number ys n)
has-both [] ys n = refl
has-both (x ∷ xs) ys n =
    ap (λ (b : Bool). (x == n) || b) (has-both xs ys n) ∙ or-assoc (x == n) (has_number xs n) (has_number ys n)

pub has-waits : (xs : List ℕ) (n : ℕ) → has_number (waits_of xs) n ≡ has_number xs n
has-waits [] n = refl
has-waits (x ∷ xs) n =
    has-both (waits_of xs) (x ∷ []) n
    ∙ ap (λ (b : Bool). b || ((x == n) || false)) (has-waits xs n) ∙ or-swap (has_number xs n) (x == n)

without-last : (xs : List ℕ) (n : ℕ) → has_number xs n ≡ false → numbers_without n (xs ++ n ∷ []) ≡ xs
without-last [] n none = ap (λ (b : Bool). cond (not b) (n ∷ []) []) (eq-eqb n n refl)
without-last (x ∷ xs) n none =
    ap (λ (b : Bool). cond (not b) (x ∷ numbers_without n (xs ++ n ∷ [])) (numbers_without n (xs ++ n ∷ [])))
    (or-left (x == n) (has_number xs n) none)
    ∙ ap (λ (l : List ℕ). x ∷ l) (without-last xs n (or-right (x == n) (has_number xs n) none))

-- Numbers that differ.
all-at : (P : ℕ → Type 0) (xs : List ℕ) (i n : ℕ) → AllByRecursion P xs → slice_get xs i ≡ Some n → P n
all-at P [] i n all is = absurd (none-some n is)
all-at P (x ∷ xs) zero n all is = subst P (same_Some x n is) all.0
all-at P (x ∷ xs) (suc i) n all is = all-at P xs i n all.1 is

none-of : (x : ℕ) (xs : List ℕ) → AllByRecursion (λ y. eqb x y ≡ false) xs → has_number xs x ≡ false
none-of x [] all = refl
none-of x (y ∷ ys) all =
    ap (λ (b : Bool). b || has_number ys x) (ne_eqb y x (λ same. true≢false (sym (eq-eqb x y (sym same)) ∙ all.0)))
    ∙ none-of x ys all.1

pub none-before : (xs : List ℕ) (i n : ℕ) → IsDistinct nat_eq xs → slice_get xs i ≡ Some n → has_number (take i xs) n ≡ false
unfolding IsDistinct
none-before [] i n distinct is = absurd (none-some n is)
none-before (x ∷ xs) zero n distinct is = refl
none-before (x ∷ xs) (suc i) n distinct is =
    ap (λ (b : Bool). b || has_number (take i xs) n) (all-at (λ y. eqb x y ≡ false) xs i n distinct.0 is)
    ∙ none-before xs i n distinct.1 is

none-after : (xs : List ℕ) (i n : ℕ) → IsDistinct nat_eq xs → slice_get xs i ≡ Some n → has_number (drop (suc i) xs) n ≡ false
unfolding IsDistinct
none-after [] i n distinct is = absurd (none-some n is)
none-after (x ∷ xs) zero n distinct is = ap (has_number xs) (sym (same_Some x n is)) ∙ none-of x xs distinct.0
none-after (x ∷ xs) (suc i) n distinct is = none-after xs i n distinct.1 is

pub apart : (xs : List ℕ) (i j a b : ℕ) → IsDistinct nat_eq xs → i < j → slice_get xs i ≡ Some a → slice_get xs j ≡ Some b → (b == a) ≡ false
unfolding IsDistinct
apart [] i j a b distinct lt is other = absurd (none-some a is)
apart (x ∷ xs) zero zero a b distinct lt is other = absurd (omega (arith, lt))
apart (x ∷ xs) zero (suc j) a b distinct lt is other =
    ne_eqb b a (λ same. true≢false (sym (eq-eqb x b (same_Some x a is ∙ sym same)) ∙ all-at (λ y. eqb x y ≡ false) xs j b distinct.0 other))
apart (x ∷ xs) (suc i) zero a b distinct lt is other = absurd (omega (arith, lt))
apart (x ∷ xs) (suc i) (suc j) a b distinct lt is other = apart xs i j a b distinct.1 (omega (arith, lt)) is other

-- The group waits for the next that is fetched, and then for those behind it.
pub waits-has : (xs : List ℕ) (i n : ℕ) → slice_get xs i ≡ Some n → has_number (waits_of (drop i xs)) n ≡ true
waits-has xs i n is =
    has-waits (drop i xs) n ∙ ap (λ (l : List ℕ). has_number l n) (drop-next xs i n is)
    ∙ ap (λ (b : Bool). b || has_number (drop (suc i) xs) n) (eq-eqb n n refl)

pub waits-after : (xs : List ℕ) (i n : ℕ) → IsDistinct nat_eq xs → slice_get xs i ≡ Some n
    → numbers_without n (waits_of (drop i xs)) ≡ waits_of (drop (suc i) xs)
waits-after xs i n distinct is =
    ap (λ (l : List ℕ). numbers_without n (waits_of l)) (drop-next xs i n is)
    ∙ without-last (waits_of (drop (suc i) xs)) n (has-waits (drop (suc i) xs) n ∙ none-after xs i n distinct is)

-- At last for none.
pub none-left : {X : Type 0} (xs : List X) (n : ℕ) → n ≡ length xs → drop n xs ≡ []
none-left [] zero is = refl
none-left [] (suc n) is = refl
none-left (x ∷ xs) zero is = absurd (omega (arith, is))
none-left (x ∷ xs) (suc n) is = none-left xs n (omega (arith, is))

-- As many as there are, and no more.
pub whole-taken : {X : Type 0} (xs : List X) (n : ℕ) → n ≡ length xs → take n xs ≡ xs
whole-taken [] zero is = refl
whole-taken [] (suc n) is = refl
whole-taken (x ∷ xs) zero is = absurd (omega (arith, is))
whole-taken (x ∷ xs) (suc n) is = ap (λ (l : List _). x ∷ l) (whole-taken xs n (omega (arith, is)))

-- All numbers from one on.
abbrev pub numbers_from : ℕ → ℕ → List ℕ
numbers_from first zero = []
numbers_from first (suc n) = first ∷ numbers_from (first + 1) n

pub as-many : (first n : ℕ) → length (numbers_from first n) ≡ n
as-many first zero = refl
as-many first (suc n) = let rest = as-many (first + 1) n in omega (arith, rest)

pub number-at : (first n i : ℕ) → i < n → slice_get (numbers_from first n) i ≡ Some (first + i)
number-at first zero i lt = absurd (omega (arith, lt))
number-at first (suc n) zero lt = ap Some (none-more first)
  where
    none-more : (m : ℕ) → m ≡ m + 0
    none-more m = omega arith
number-at first (suc n) (suc i) lt = number-at (first + 1) n i (omega (arith, lt)) ∙ ap Some (shift first i)
  where
    shift : (a b : ℕ) → a + 1 + b ≡ a + suc b
    shift a b = omega arith

above : (low first n : ℕ) → low < first → AllByRecursion (λ y. eqb low y ≡ false) (numbers_from first n)
above low first zero lt = tt
above low first (suc n) lt = (ne_eqb low first (λ same. absurd (omega (arith, same, lt))), above low (first + 1) n (omega (arith, lt)))

pub all-differ : (first n : ℕ) → IsDistinct nat_eq (numbers_from first n)
unfolding IsDistinct
all-differ first zero = tt
all-differ first (suc n) = (above first (first + 1) n (omega arith), all-differ (first + 1) n)

-- One outcome more.
pub received-more : (numbers : List ℕ) (outcomes : List JobOutcome) (number : ℕ) (outcome : JobOutcome) (older : List Received) → slice_get numbers (length outcomes) ≡ Some number
    → received_from numbers (outcomes ++ outcome ∷ []) older ≡ record { mail = number; answer = outcome } ∷ received_from numbers outcomes older
received-more [] outcomes number outcome older is = absurd (none-some number is)
received-more (m ∷ numbers) [] number outcome older is =
    ap (λ (n : ℕ). record { mail = n; answer = outcome } ∷ older) (same_Some m number is)
received-more (m ∷ numbers) (x ∷ xs) number outcome older is =
    received-more numbers xs number outcome (record { mail = m; answer = x } ∷ older) is

-- Of mails one after the other.
pub received-in-order : (first : ℕ) (outcomes : List JobOutcome) (older : List Received)
    → received_from (numbers_from first (length outcomes)) outcomes older ≡ received first outcomes older
received-in-order first [] older = refl
received-in-order first (outcome ∷ outcomes) older =
    received-in-order (first + 1) outcomes (record { mail = first; answer = outcome } ∷ older)
