-- Callers of a pass that takes in others.
use Rattle.std.proofs.Common.{◌≡◌, ◌≢◌, ◌⊎◌, ℕ, zero, suc, ◌+◌, ◌<◌, Bool, true, false, cond, ltb, List, [], ◌∷◌, ◌++◌, length, take, drop, sym, refl, ap, ◌∙◌, subst, inl, inr, ⊎_elim, arith, append_assoc, ◌-◌, ◌≤◌}
use Rattle.std.proofs.lemmas.Bool.{le-ltb}
use mathlib.Core.List.{IsPrefix}
use Rattle.board_callers.specs.Callers.{first_calls, other_hands}
use Rattle.turn_board.specs.Hands.{HasCallsOf, first_number, hand_number, new_hands}
use Rattle.std.proofs.lemmas.List.{take-append-drop}
use Rattle.turn_board.proofs.Logs.{prefix_of_itself}
use Rattle.turn_board.specs.Calls.{IsGathered}
use Rattle.turn_board.specs.History.{CallFit, CellStep, of_caller}
use Rattle.turn_board.specs.declared.view.PassView.{PassView}
use Rattle.turn_board.specs.Rising.{rising_union, rising_with}
use Rattle.turn_board.specs.declared.history.Event.{Event}
use Rattle.turn_board.specs.declared.history.Hand.{Hand}
use Rattle.threaded_callers.specs.Hands.{hand, IsAmong, AreAmong, KeepsMain}

module _ {X : Type 0} where
  pub prefix_then : (xs ys zs : List X) → IsPrefix xs ys → IsPrefix ys zs → IsPrefix xs zs
  prefix_then xs ys zs p q = (p.0 ++ q.0, sym (append_assoc xs p.0 q.0) ∙ ap (λ l. l ++ q.0) p.1 ∙ q.1)

  pub drop_one_more : (k : ℕ) (xs : List X) → drop 1 (drop k xs) ≡ drop (k + 1) xs
  drop_one_more zero xs = let e : 1 ≡ 0 + 1 = omega arith in ap (λ n. drop n xs) e
  drop_one_more (suc k) [] = let e : suc (suc k) ≡ suc k + 1 = omega arith in ap (λ n. drop n []) e
  drop_one_more (suc k) (x ∷ xs) =
      let e : suc (k + 1) ≡ suc k + 1 = omega arith in drop_one_more k xs ∙ ap (λ n. drop n (x ∷ xs)) e

  -- What a list begins with.
  pub prefix_taken : (xs ys : List X) → take (length xs) ys ≡ xs → IsPrefix xs ys
  prefix_taken xs ys is =
      (drop (length xs) ys, ap (λ l. l ++ drop (length xs) ys) (sym is) ∙ take-append-drop (length xs) ys)

module _ {Q A : Type 0} where
  -- Callers are the first and the others.
  pub first_and_others : (hs : List (Hand Q A)) → hs ≢ [] → hs ≡ hand (first_number hs) (first_calls hs) ∷ other_hands hs
  first_and_others [] some = absurd (some refl)
  first_and_others (h ∷ hs) some = refl

  pub alone : (hs : List (Hand Q A)) (number : ℕ) (own : List (Event Q A)) → hs ≢ [] → first_number hs ≡ number
      → first_calls hs ≡ own → other_hands hs ≡ [] → hs ≡ hand number own ∷ []
  alone hs number own some is calls none = first_and_others hs some ∙ (λ i. hand (is i) (calls i) ∷ none i)

  -- A history has of each of its callers the calls that it made.
  pub calls_among : (log : List (Event Q A)) (hs : List (Hand Q A)) (h : Hand Q A) → HasCallsOf log hs → IsAmong hs h
      → of_caller h.number log ≡ h.made
  calls_among log [] h all among = absurd among
  calls_among log (g ∷ gs) h all among = ⊎_elim
      (λ (is : g ≡ h). subst (λ (x : Hand Q A). of_caller x.number log ≡ x.made) is all.0)
      (λ (later : IsAmong gs h). calls_among log gs h all.1 later) among

  -- One more caller: it is among them, and so are the others.
  with_this : (here : Bool) (y h : Hand Q A) (ys zs : List (Hand Q A)) → IsAmong zs h
      → IsAmong (cond here (h ∷ y ∷ ys) (y ∷ zs)) h
  with_this true y h ys zs later = inl refl
  with_this false y h ys zs later = inr later

  with_it : (h : Hand Q A) (hs : List (Hand Q A)) → IsAmong (rising_with hand_number h hs) h
  with_it h [] = inl refl
  with_it h (y ∷ ys) =
      with_this (ltb h.number y.number) y h ys (rising_with hand_number h ys) (with_it h ys)

  with_that : (here : Bool) (y g h : Hand Q A) (ys zs : List (Hand Q A)) → (y ≡ g) ⊎ IsAmong ys g
      → (IsAmong ys g → IsAmong zs g) → IsAmong (cond here (h ∷ y ∷ ys) (y ∷ zs)) g
  with_that true y g h ys zs among later = inr among
  with_that false y g h ys zs among later = ⊎_elim (λ (is : y ≡ g). inl is) (λ (l : IsAmong ys g). inr (later l)) among

  with_others : (h g : Hand Q A) (hs : List (Hand Q A)) → IsAmong hs g → IsAmong (rising_with hand_number h hs) g
  with_others h g [] among = absurd among
  with_others h g (y ∷ ys) among = with_that (ltb h.number y.number) y g h ys (rising_with hand_number h ys) among
      (λ l. with_others h g ys l)

  pub union_first : (hs gs : List (Hand Q A)) → AreAmong hs (rising_union hand_number hs gs)
  union_first hs [] h among = among
  union_first hs (y ∷ ys) h among = union_first (rising_with hand_number y hs) ys h (with_others y h hs among)

  pub union_second : (hs gs : List (Hand Q A)) → AreAmong gs (rising_union hand_number hs gs)
  union_second hs [] h among = absurd among
  union_second hs (y ∷ ys) h among = ⊎_elim
      (λ (is : y ≡ h). union_first (rising_with hand_number y hs) ys h
      (subst (λ (x : Hand Q A). IsAmong (rising_with hand_number y hs) x) is (with_it y hs)))
      (λ (later : IsAmong ys h). union_second (rising_with hand_number y hs) ys h later) among

  -- Main stays the first.
  main_first : (own : List (Event Q A)) (hs gs : List (Hand Q A))
      → rising_union hand_number (hand 0 own ∷ hs) gs ≡ hand 0 own ∷ rising_union hand_number hs gs
  main_first own hs [] = refl
  main_first own hs (y ∷ ys) =
      ap (λ b. rising_union hand_number (cond b (y ∷ hand 0 own ∷ hs) (hand 0 own ∷ rising_with hand_number y hs)) ys)
      (le-ltb y.number 0 (omega arith)) ∙ main_first own (rising_with hand_number y hs) ys

  pub main_union : (hs gs : List (Hand Q A)) → hs ≢ [] → first_number hs ≡ 0
      → rising_union hand_number hs gs ≡ hand 0 (first_calls hs) ∷ rising_union hand_number (other_hands hs) gs
  main_union hs gs some is =
      ap (λ (l : List (Hand Q A)). rising_union hand_number l gs)
      (first_and_others hs some ∙ (λ i. hand (is i) (first_calls hs) ∷ other_hands hs))
      ∙ main_first (first_calls hs) (other_hands hs) gs

  -- New callers that are shared out.
  pub new_first : (from count : ℕ) → 0 < count → take 1 (new_hands {Q = Q} {A = A} from count) ≡ hand from [] ∷ []
  new_first from zero some = absurd (omega arith)
  new_first from (suc count) some = refl

  pub new_others : (k from count : ℕ) → k ≤ count
      → drop k (new_hands {Q = Q} {A = A} from count) ≡ new_hands (from + k) (count - k)
  new_others zero from count le = λ i. new_hands (same i) (count_same i)
    where
      same : from ≡ from + 0
      same = omega arith

      count_same : count ≡ count - 0
      count_same = omega arith
  new_others (suc k) from zero le = absurd (omega arith)
  new_others (suc k) from (suc count) le =
      new_others k (suc from) count (omega arith) ∙ (λ i. new_hands (shifted i) (left i))
    where
      shifted : suc from + k ≡ from + suc k
      shifted = omega arith

      left : count - k ≡ suc count - suc k
      left = omega arith

module _ (Q A : Type 0) where
  pub new_length : (from count : ℕ) → length (new_hands {Q = Q} {A = A} from count) ≡ count
  new_length from zero = refl
  new_length from (suc count) = ap suc (new_length (suc from) count)

-- Main's pass takes in another.
module _ {T Q A : Type 0} (step : CellStep T Q A) (fits : CallFit T Q A) (v u w : PassView T Q A)
    (gathered : IsGathered step fits v u w) (some : v.hands ≢ []) (main : first_number v.hands ≡ 0) where
  hands_then : w.hands ≡ hand 0 (first_calls v.hands) ∷ rising_union hand_number (other_hands v.hands) u.hands
  hands_then = gathered.hands ∙ main_union v.hands u.hands some main

  pub keeps_main : KeepsMain v w
  keeps_main = record {
    number = ap (λ hs. first_number hs) hands_then ∙ sym main;
    calls = ap (λ hs. first_calls hs) hands_then;
    others = λ h among. subst (λ hs. IsAmong hs h) (sym (ap (λ hs. other_hands hs) hands_then))
        (union_first (other_hands v.hands) u.hands h among);
    past = gathered.first;
    own = λ _. gathered.own;
  }

  pub takes_in : AreAmong u.hands (other_hands w.hands)
  takes_in h among = subst (λ hs. IsAmong hs h) (sym (ap (λ hs. other_hands hs) hands_then))
      (union_second (other_hands v.hands) u.hands h among)

module _ {T Q A : Type 0} where
  pub keeps_itself : (v : PassView T Q A) → KeepsMain v v
  keeps_itself v = record {
    number = refl;
    calls = refl;
    others = λ h among. among;
    past = prefix_of_itself v.past;
    own = λ own. own;
  }

  pub keeps_then : (v u w : PassView T Q A) → KeepsMain v u → KeepsMain u w → KeepsMain v w
  keeps_then v u w first then = record {
    number = then.number ∙ first.number;
    calls = then.calls ∙ first.calls;
    others = λ h among. then.others h (first.others h among);
    past = prefix_then v.past u.past w.past first.past then.past;
    own = λ own. then.own (first.own own);
  }
