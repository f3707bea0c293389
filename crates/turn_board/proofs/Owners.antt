-- The callers of a seat: given away, taken in, with more calls in the history.
use Rattle.std.proofs.Common.{◌≡◌, ℕ, Bool, true, false, cond, ltb, zero, suc, ◌+◌, ◌<◌, ◌≤◌, ◌≢◌, List, [], ◌∷◌, length, take, drop, refl, ap, ◌∙◌, arith}
use mathlib.Core.List.{IsPrefix}
use Rattle.std.proofs.lemmas.Bool.{ltb-true, ltb-false}
use Rattle.turn_board.specs.declared.history.Event.{Event}
use Rattle.turn_board.specs.declared.history.Hand.{Hand}
use Rattle.turn_board.specs.History.{is_by_caller, of_caller}
use Rattle.turn_board.specs.Hands.{hand_number, new_hands, HasCallsOf, Owns}
use Rattle.turn_board.specs.Rising.{rising_with, rising_union}
use Rattle.turn_board.proofs.Logs.{part_between}

module _ {Q A : Type 0} where
  -- the same callers, where each that they may be stays theirs and has the same calls
  pub owns_stay : (callers callers' : ℕ) (log log' : List (Event Q A)) (owner owner' : ℕ → ℕ) (j j' low : ℕ)
      (hs : List (Hand Q A)) → callers ≤ callers'
      → ((n : ℕ) → low ≤ n → n < callers → owner n ≡ j → (owner' n ≡ j') × (of_caller n log' ≡ of_caller n log))
      → Owns callers log owner j low hs → Owns callers' log' owner' j' low hs
  owns_stay callers callers' log log' owner owner' j j' low [] wide stay o = tt
  owns_stay callers callers' log log' owner owner' j j' low (h ∷ hs) wide stay o =
      let from = o.0.from in let below = o.0.below in let s = stay h.number o.0.from o.0.below o.0.ours in (
        record { from = from; below = omega arith; ours = s.0; made = s.1 ∙ o.0.made },
        owns_stay callers callers' log log' owner owner' j j' (suc h.number) hs wide (λ n l. stay n (omega arith)) o.1,
      )

  module _ (callers : ℕ) (log : List (Event Q A)) (owner : ℕ → ℕ) (j : ℕ) where
    pub owns_from : (low low' : ℕ) (hs : List (Hand Q A)) → low' ≤ low → Owns callers log owner j low hs
        → Owns callers log owner j low' hs
    owns_from low low' [] le o = tt
    owns_from low low' (h ∷ hs) le o = let from = o.0.from in
        (record { from = omega arith; below = o.0.below; ours = o.0.ours; made = o.0.made }, o.1)

    pub owns_length : (low : ℕ) (hs : List (Hand Q A)) → low ≤ callers → Owns callers log owner j low hs
        → low + length hs ≤ callers
    owns_length low [] le o = omega arith
    owns_length low (h ∷ hs) le o = let from = o.0.from in let below = o.0.below in let r =
        owns_length (suc h.number) hs (omega arith) o.1 in omega arith

    pub owns_makes : (low : ℕ) (hs : List (Hand Q A)) → Owns callers log owner j low hs → HasCallsOf log hs
    owns_makes low [] o = tt
    owns_makes low (h ∷ hs) o = (o.0.made, owns_makes (suc h.number) hs o.1)

    pub makes_between : (low : ℕ) (hs : List (Hand Q A)) (past mid : List (Event Q A)) → IsPrefix past mid
        → IsPrefix mid log
        → HasCallsOf past hs → Owns callers log owner j low hs → HasCallsOf mid hs
    makes_between low [] past mid a b m o = tt
    makes_between low (h ∷ hs) past mid a b m o = (
      part_between (is_by_caller h.number) past mid log h.made a b m.0 o.0.made,
      makes_between
          (suc h.number) hs past mid a b m.1 o.1,
    )

    -- the first callers, so many, are below the number of the next, and the others from it on
    pub owns_cut : (m low : ℕ) (hs : List (Hand Q A)) → Owns callers log owner j low hs → m < length hs
        → (c : ℕ) × (low ≤ c) × (c ≤ callers) × Owns c log owner j low (take m hs)
        × Owns callers log owner j c (drop m hs)
    owns_cut m low [] o inside = absurd (omega arith)
    owns_cut zero low (h ∷ hs) o inside = let below = o.0.below in (
      h.number,
      o.0.from,
      omega arith,
      tt,
      (record { from = omega arith; below = o.0.below; ours = o.0.ours; made = o.0.made }, o.1),
    )
    owns_cut (suc m) low (h ∷ hs) o inside =
        let r = owns_cut m (suc h.number) hs o.1 (omega arith) in let from = o.0.from in let above = r.1 in (
          r.0,
          omega arith,
          r.2,
          (record { from = o.0.from; below = omega arith; ours = o.0.ours; made = o.0.made }, r.3),
          r.4,
        )

    -- the history as it was at the start
    pub owns_fresh : (count from : ℕ) → from + count ≤ callers → ((n : ℕ) → owner n ≡ j) → log ≡ []
        → Owns callers log owner j from (new_hands from count)
    owns_fresh zero from fit mine none = tt
    owns_fresh (suc count) from fit mine none = (
      record {
        from = omega arith;
        below = omega arith;
        ours = mine from;
        made = ap (of_caller from) none;
      },
      owns_fresh count (suc from) (omega arith) mine none,
    )

  -- none of these callers has the number
  abbrev pub Lacks : ℕ → List (Hand Q A) → Type 0
  Lacks n [] = Unit {0}
  Lacks n (h ∷ hs) = (n ≢ h.number) × Lacks n hs

  pub lacks_other : (callers : ℕ) (log : List (Event Q A)) (owner : ℕ → ℕ) (j low n : ℕ) (hs : List (Hand Q A))
      → owner n ≢ j → Owns callers log owner j low hs → Lacks n hs
  lacks_other callers log owner j low n [] ne o = tt
  lacks_other callers log owner j low n (h ∷ hs) ne o =
      ((λ e. ne (ap owner e ∙ o.0.ours)), lacks_other callers log owner j (suc h.number) n hs ne o.1)

  lacks_placed : (n : ℕ) (h : Hand Q A) (hs : List (Hand Q A)) → n ≢ h.number → Lacks n hs
      → Lacks n (rising_with hand_number h hs)
  lacks_placed n h [] ne l = (ne, tt)
  lacks_placed n h (x ∷ xs) ne l = go (lacks_placed n h xs ne l.1) (ltb h.number x.number)
    where
      go : Lacks n (rising_with hand_number h xs) → (b : Bool)
          → Lacks n (cond b (h ∷ x ∷ xs) (x ∷ rising_with hand_number h xs))
      go later true = (ne, (l.0, l.1))
      go later false = (l.0, later)

  module _ (callers : ℕ) (log : List (Event Q A)) (owner : ℕ → ℕ) (j : ℕ) where
    owns_placed : (low : ℕ) (h : Hand Q A) (hs : List (Hand Q A)) → low ≤ h.number → h.number < callers
        → owner h.number ≡ j → of_caller h.number log ≡ h.made
        → Lacks h.number hs → Owns callers log owner j low hs
        → Owns callers log owner j low (rising_with hand_number h hs)
    owns_placed low h [] from below mine made lacks o =
        (record { from = from; below = below; ours = mine; made = made }, tt)
    owns_placed low h (x ∷ xs) from below mine made lacks o =
        go (λ l. owns_placed (suc x.number) h xs l below mine made lacks.1 o.1) (ltb h.number x.number) refl
      where
        go : (suc x.number ≤ h.number → Owns callers log owner j (suc x.number) (rising_with hand_number h xs))
            → (b : Bool) → ltb h.number x.number ≡ b
            → Owns callers log owner j low (cond b (h ∷ x ∷ xs) (x ∷ rising_with hand_number h xs))
        go later true is = let lt = ltb-true h.number x.number is in (
          record { from = from; below = below; ours = mine; made = made },
          (record { from = omega arith; below = o.0.below; ours = o.0.ours; made = o.0.made }, o.1),
        )
        go later false is = let ge = ltb-false h.number x.number is in let ne = lacks.0 in
            (o.0, later (omega (arith, ne)))

  makes_placed : (past : List (Event Q A)) (h : Hand Q A) (hs : List (Hand Q A)) → of_caller h.number past ≡ h.made
      → HasCallsOf past hs → HasCallsOf past (rising_with hand_number h hs)
  makes_placed past h [] made m = (made, tt)
  makes_placed past h (x ∷ xs) made m = go (makes_placed past h xs made m.1) (ltb h.number x.number)
    where
      go : HasCallsOf past (rising_with hand_number h xs) → (b : Bool)
          → HasCallsOf past (cond b (h ∷ x ∷ xs) (x ∷ rising_with hand_number h xs))
      go later true = (made, (m.0, m.1))
      go later false = (m.0, later)

  pub makes_merged : (past : List (Event Q A)) (xs ys : List (Hand Q A)) → HasCallsOf past xs → HasCallsOf past ys
      → HasCallsOf past (rising_union hand_number xs ys)
  makes_merged past xs [] a b = a
  makes_merged past xs (y ∷ ys) a b =
      makes_merged past (rising_with hand_number y xs) ys (makes_placed past y xs b.0 a) b.1

  -- callers of two seats, which are now one's
  pub owns_both : (callers : ℕ) (log : List (Event Q A)) (owner owner' : ℕ → ℕ) (id other low : ℕ)
      (xs ys : List (Hand Q A))
      → ((n : ℕ) → owner n ≡ other → owner' n ≡ id)
      → ((n : ℕ) → low ≤ n → owner n ≡ other → Lacks n xs)
      → Owns callers log owner' id 0 xs → Owns callers log owner other low ys
      → Owns callers log owner' id 0 (rising_union hand_number xs ys)
  owns_both callers log owner owner' id other low xs [] becomes lacks a b = a
  owns_both callers log owner owner' id other low xs (y ∷ ys) becomes lacks a b =
      owns_both callers log owner owner' id other (suc y.number) (rising_with hand_number y xs) ys becomes
      (λ n l is. lacks_placed n y xs (λ (e : n ≡ y.number). omega arith)
      (let from = b.0.from in lacks n (omega arith) is))
      (owns_placed callers log owner' id 0 y xs (omega arith) b.0.below (becomes y.number b.0.ours) b.0.made
      (lacks y.number b.0.from b.0.ours) a) b.1
