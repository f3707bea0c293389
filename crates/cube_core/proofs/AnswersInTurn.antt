-- Answers that come of one mail after the other.
use Rattle.std.proofs.Common.{◌≡◌, ◌∙◌, ℕ, zero, suc, ◌+◌, ◌==◌, Bool, true, false, ◌||◌, List, [], ◌∷◌, length, refl, ap, arith, eq-eqb}
use Rattle.std.specs.List.{list_any}
use Rattle.std.proofs.Math.Bool.{or-false}
use Rattle.std.proofs.lemmas.Bool.{and_from, and_parts, or_left, or_right}
use Rattle.core_events.specs.Groups.{Received, has_all_below, has_number, has_refusal, mails_of}
use Rattle.core_events.specs.Jobs.{JobOutcome, is_refusal}
use Rattle.cube_core.specs.GroupEnds.{ReceivesInTurn}

-- One more number in front.
all-kept : (m n : ℕ) (numbers : List ℕ) → has_all_below m numbers ≡ true → has_all_below m (n ∷ numbers) ≡ true
all-kept zero n numbers all = refl
all-kept (suc m) n numbers all =
    let parts = and_parts (has_number numbers m) (has_all_below m numbers) all in
    and_from (has_number (n ∷ numbers) m) (has_all_below m (n ∷ numbers))
    (or_right (n == m) (has_number numbers m) parts.0) (all-kept m n numbers parts.1)

all-next : (n : ℕ) (numbers : List ℕ) → has_all_below n numbers ≡ true → has_all_below (n + 1) (n ∷ numbers) ≡ true
all-next n numbers all =
    ap (λ (m : ℕ). has_all_below m (n ∷ numbers)) (next n)
    ∙ and_from (has_number (n ∷ numbers) n) (has_all_below n (n ∷ numbers))
    (or_left (n == n) (has_number numbers n) (eq-eqb n n refl)) (all-kept n n numbers all)
  where
    next : (m : ℕ) → m + 1 ≡ suc m
    next m = omega arith

all-from : (receive : ℕ → List JobOutcome → List Received → List Received) → ReceivesInTurn receive
    → (n : ℕ) (outcomes : List JobOutcome) (older : List Received) → has_all_below n (mails_of older) ≡ true
    → has_all_below (n + length outcomes) (mails_of (receive n outcomes older)) ≡ true
all-from receive turn n [] older all =
    (λ i. has_all_below (no-more n i) (mails_of (turn.none n older i))) ∙ all
  where
    no-more : (m : ℕ) → m + 0 ≡ m
    no-more m = omega arith
all-from receive turn n (x ∷ xs) older all =
    let newer = record { mail = n; answer = x } ∷ older in
    (λ i. has_all_below (shift n (length xs) i) (mails_of (turn.more n x xs older i)))
    ∙ all-from receive turn (n + 1) xs newer (all-next n (mails_of older) all)
  where
    shift : (m l : ℕ) → m + suc l ≡ m + 1 + l
    shift m l = omega arith

pub all-in-turn : (receive : ℕ → List JobOutcome → List Received → List Received) (outcomes : List JobOutcome)
    → ReceivesInTurn receive → has_all_below (length outcomes) (mails_of (receive 0 outcomes [])) ≡ true
all-in-turn receive outcomes turn =
    ap (λ (n : ℕ). has_all_below n (mails_of (receive 0 outcomes []))) (from-none (length outcomes))
    ∙ all-from receive turn 0 outcomes [] refl
  where
    from-none : (l : ℕ) → l ≡ 0 + l
    from-none l = omega arith

or-turn : (a b c : Bool) → (a || (b || c)) ≡ ((b || a) || c)
or-turn true true c = refl
or-turn true false c = refl
or-turn false true c = refl
or-turn false false c = refl

refused-from : (receive : ℕ → List JobOutcome → List Received → List Received) → ReceivesInTurn receive
    → (n : ℕ) (outcomes : List JobOutcome) (older : List Received)
    → has_refusal (receive n outcomes older) ≡ (list_any is_refusal outcomes || has_refusal older)
refused-from receive turn n [] older = ap has_refusal (turn.none n older)
refused-from receive turn n (x ∷ xs) older =
    let newer = record { mail = n; answer = x } ∷ older in
    ap has_refusal (turn.more n x xs older)
    ∙ refused-from receive turn (n + 1) xs newer
    ∙ or-turn (list_any is_refusal xs) (is_refusal x) (has_refusal older)

pub refused-in-turn : (receive : ℕ → List JobOutcome → List Received → List Received) (outcomes : List JobOutcome)
    → ReceivesInTurn receive → has_refusal (receive 0 outcomes []) ≡ list_any is_refusal outcomes
refused-in-turn receive outcomes turn =
    refused-from receive turn 0 outcomes [] ∙ or-false (list_any is_refusal outcomes)
