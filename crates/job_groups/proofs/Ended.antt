-- What a group with all its answers has: the answer of each shard, and a refusal where one of the outcomes is one.
use Rattle.std.proofs.Common.{◌≡◌, ◌∙◌, ℕ, zero, suc, ◌+◌, ◌<◌, ◌==◌, Bool, true, false, ◌||◌, ◌&&◌, List, [], ◌∷◌, length, refl, ap, arith, eq-eqb}
use Rattle.std.specs.List.{list_any}
use Rattle.core_events.specs.Groups.{Received, has_all_below, has_number, has_refusal, mails_of}
use Rattle.core_events.specs.Jobs.{JobOutcome, is_refusal}
use Rattle.job_groups.specs.AskedEach.{received}
use Rattle.job_groups.specs.AskedSome.{received_from}

or-true : (b : Bool) → (b || true) ≡ true
or-true true = refl
or-true false = refl

or-none : (b : Bool) → (b || false) ≡ b
or-none true = refl
or-none false = refl

or-moved : (a b c : Bool) → (a || (b || c)) ≡ ((b || a) || c)
or-moved true true c = refl
or-moved true false c = refl
or-moved false true c = refl
or-moved false false c = refl

-- Answers that were there are still there.
still-has : (number i : ℕ) (outcomes : List JobOutcome) (older : List Received) → has_number (mails_of older) i ≡ true
    → has_number (mails_of (received number outcomes older)) i ≡ true
still-has number i [] older has = has
still-has number i (x ∷ xs) older has =
    still-has (number + 1) i xs (record { mail = number; answer = x } ∷ older)
    (ap (λ (b : Bool). (number == i) || b) has ∙ or-true (number == i))

has-each : (number i : ℕ) (outcomes : List JobOutcome) (older : List Received) → i < length outcomes
    → has_number (mails_of (received number outcomes older)) (number + i) ≡ true
has-each number i [] older lt = absurd (omega (arith, lt))
has-each number zero (x ∷ xs) older lt =
    still-has (number + 1) (number + 0) xs (record { mail = number; answer = x } ∷ older)
    (ap (λ (b : Bool). b || has_number (mails_of older) (number + 0)) (eq-eqb number (number + 0) (none-more number)))
  where
    none-more : (m : ℕ) → m ≡ m + 0
    none-more m = omega arith
has-each number (suc i) (x ∷ xs) older lt =
    ap (has_number (mails_of (received (number + 1) xs (record { mail = number; answer = x } ∷ older)))) (shift number i)
    ∙ has-each (number + 1) i xs (record { mail = number; answer = x } ∷ older) (omega (arith, lt))
  where
    shift : (a b : ℕ) → a + suc b ≡ a + 1 + b
    shift a b = omega arith

all-below : (n : ℕ) (numbers : List ℕ) → ((i : ℕ) → i < n → has_number numbers i ≡ true) → has_all_below n numbers ≡ true
all-below zero numbers each = refl
all-below (suc n) numbers each =
    ap (λ (b : Bool). b && has_all_below n numbers) (each n (omega arith)) ∙ all-below n numbers (λ i lt. each i (omega (arith, lt)))

pub has-all : (outcomes : List JobOutcome) → has_all_below (length outcomes) (mails_of (received 0 outcomes [])) ≡ true
has-all outcomes =
    all-below (length outcomes) (mails_of (received 0 outcomes []))
    (λ i lt. ap (has_number (mails_of (received 0 outcomes []))) (none-less i) ∙ has-each 0 i outcomes [] lt)
  where
    none-less : (m : ℕ) → m ≡ 0 + m
    none-less m = omega arith

-- Refusals.
refused-on : (number : ℕ) (outcomes : List JobOutcome) (older : List Received)
    → has_refusal (received number outcomes older) ≡ (list_any is_refusal outcomes || has_refusal older)
refused-on number [] older = refl
refused-on number (x ∷ xs) older =
    refused-on (number + 1) xs (record { mail = number; answer = x } ∷ older) ∙ or-moved (list_any is_refusal xs) (is_refusal x) (has_refusal older)

pub refused-each : (outcomes : List JobOutcome) → has_refusal (received 0 outcomes []) ≡ list_any is_refusal outcomes
refused-each outcomes = refused-on 0 outcomes [] ∙ or-none (list_any is_refusal outcomes)

refused-from : (numbers : List ℕ) (outcomes : List JobOutcome) (older : List Received) → length outcomes ≡ length numbers
    → has_refusal (received_from numbers outcomes older) ≡ (list_any is_refusal outcomes || has_refusal older)
refused-from numbers [] older long = refl
refused-from [] (x ∷ xs) older long = absurd (omega (arith, long))
refused-from (n ∷ numbers) (x ∷ xs) older long =
    refused-from numbers xs (record { mail = n; answer = x } ∷ older) (omega (arith, long))
    ∙ or-moved (list_any is_refusal xs) (is_refusal x) (has_refusal older)

pub refused-some : (numbers : List ℕ) (outcomes : List JobOutcome) → length outcomes ≡ length numbers
    → has_refusal (received_from numbers outcomes []) ≡ list_any is_refusal outcomes
refused-some numbers outcomes long = refused-from numbers outcomes [] long ∙ or-none (list_any is_refusal outcomes)
