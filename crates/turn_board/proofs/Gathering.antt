-- From the steps of a split and of a gather to what they promise.
use Rattle.std.proofs.Common.{◌≡◌, ℕ, zero, suc, ◌+◌, ◌-◌, ◌<◌, ◌≤◌, ◌≢◌, List, [], ◌∷◌, ◌++◌, length, take, drop, map, sym, refl, ap, ◌∙◌, subst, arith}
use mathlib.Core.List.{reverse}
use Rattle.atomic_table.specs.Table.{Me}
use Rattle.turn_board.specs.History.{CellStep, CallFit}
use Rattle.turn_board.specs.declared.history.Hand.{Hand}
use Rattle.turn_board.specs.declared.lane.Lane.{Lane}
use Rattle.turn_board.specs.declared.view.PassView.{PassView}
use Rattle.turn_board.specs.Calls.{IsGathered}
use Rattle.turn_board.specs.Hands.{hand_number}
use Rattle.turn_board.specs.Lanes.{lane_values}
use Rattle.turn_board.specs.Rising.{itself, rising_union, numbers_from}
use Rattle.turn_board.specs.Rule.{first_view}
use Rattle.turn_board.specs.Seats.{IsUnqueued}
use Rattle.turn_board.specs.Steps.{first_part, last_part, joined_view, HasSettled}
use Rattle.turn_board.proofs.Chains.{length_fresh, length_merged, map_fresh, map_merged, reverse_first}
use Rattle.turn_board.proofs.Serving.{some_long}

module _ {Q A : Type 0} where
  some_of : (hs : List (Hand Q A)) (n : ℕ) → length hs ≡ n → 0 < n → hs ≢ []
  some_of hs n long some_n none_left = let z = ap length none_left in omega arith

  first_length : (n : ℕ) (hs : List (Hand Q A)) → n ≤ length hs → length (take n hs) ≡ n
  first_length zero hs le = refl
  first_length (suc n) [] le = absurd (omega arith)
  first_length (suc n) (h ∷ hs) le = ap suc (first_length n hs (omega arith))

  pub last_length : (n : ℕ) (hs : List (Hand Q A)) → length (drop n hs) ≡ length hs - n
  last_length zero hs = omega arith
  last_length (suc n) [] = omega arith
  last_length (suc n) (h ∷ hs) = let r = last_length n hs in omega arith

  pub merged_some : (hs gs : List (Hand Q A)) → hs ≢ [] → rising_union hand_number hs gs ≢ []
  merged_some hs gs ne = let l = some_long hs ne in
      some_of (rising_union hand_number hs gs) (length hs + length gs) (length_merged hs gs) (omega arith)

module _ {T Q A : Type 0} where
  module _ (v : PassView T Q A) (m : Me (Lane T) (PassView T Q A)) (n : ℕ) where
    pub first_idle : m ≡ (first_part n v, []) → v.also ≡ [] → 0 < n → n ≤ length v.hands → IsUnqueued m
    first_idle e none_also some_n le = record {
      stage = ap (λ (z : Me (Lane T) (PassView T Q A)). z.0.stage) e;
      slots = ap (λ (z : Me (Lane T) (PassView T Q A)). z.1) e;
      hands = some_of m.0.hands n
          (ap (λ (z : Me (Lane T) (PassView T Q A)). length z.0.hands) e ∙ first_length n v.hands le) some_n;
      also = ap (λ (z : Me (Lane T) (PassView T Q A)). z.0.also) e ∙ none_also;
    }

    pub first_count : m ≡ (first_part n v, []) → n ≤ length v.hands → length m.0.hands ≡ n
    first_count e le = ap (λ (z : Me (Lane T) (PassView T Q A)). length z.0.hands) e ∙ first_length n v.hands le

    pub last_idle : m ≡ (last_part n v, []) → v.also ≡ [] → n < length v.hands → IsUnqueued m
    last_idle e none_also lt = record {
      stage = ap (λ (z : Me (Lane T) (PassView T Q A)). z.0.stage) e;
      slots = ap (λ (z : Me (Lane T) (PassView T Q A)). z.1) e;
      hands = some_of m.0.hands (length v.hands - n)
          (ap (λ (z : Me (Lane T) (PassView T Q A)). length z.0.hands) e ∙ last_length n v.hands) (omega arith);
      also = ap (λ (z : Me (Lane T) (PassView T Q A)). z.0.also) e ∙ none_also;
    }

    pub last_count : m ≡ (last_part n v, []) → length m.0.hands ≡ length v.hands - n
    last_count e = ap (λ (z : Me (Lane T) (PassView T Q A)). length z.0.hands) e ∙ last_length n v.hands

  module _ (step : CellStep T Q A) (fits : CallFit T Q A) (v u : PassView T Q A) (m m' : Me (Lane T) (PassView T Q A))
      (cs : List (ℕ × Lane T))
      (e : m ≡ (joined_view v u, cs)) (settled : HasSettled step fits m m') where
    told : HasSettled step fits (joined_view v u, cs) m'
    told = subst (λ (z : Me (Lane T) (PassView T Q A)). HasSettled step fits z m') e settled

    pub gathered : IsGathered step fits v u m'.0
    gathered = let h = told in record {
      past = ap (λ (z : PassView T Q A). z.past) h.view;
      hands = ap (λ (z : PassView T Q A). z.hands) h.view;
      opening = ap (λ (z : PassView T Q A). z.opening) h.view;
      first = h.first;
      second = h.second;
      run = h.run;
      own = h.own;
    }

    pub gathered_idle : cs ≡ [] → v.hands ≢ [] → IsUnqueued m'
    gathered_idle none_held some_hand = let h = told in record {
      stage = ap (λ (z : PassView T Q A). z.stage) h.view;
      slots = h.slots ∙ none_held;
      hands = λ z. merged_some v.hands u.hands some_hand (sym (ap (λ (z : PassView T Q A). z.hands) h.view) ∙ z);
      also = ap (λ (z : PassView T Q A). z.also) h.view;
    }

    pub gathered_shut : m'.0.shut ≡ v.shut
    gathered_shut = let h = told in ap (λ (z : PassView T Q A). z.shut) h.view

    pub gathered_numbers : map hand_number m'.0.hands ≡ rising_union itself (map hand_number v.hands)
        (map hand_number u.hands)
    gathered_numbers = let h = told in ap (λ (z : PassView T Q A). map hand_number z.hands) h.view
        ∙ map_merged v.hands u.hands

    pub gathered_count : length m'.0.hands ≡ length v.hands + length u.hands
    gathered_count = let h = told in ap (λ (z : PassView T Q A). length z.hands) h.view ∙ length_merged v.hands u.hands

    pub gathered_few : length v.hands + length u.hands < 65536
    gathered_few = let h = told in let few = h.few in let n = gathered_count in omega arith

module _ {T : Type 0} where
  values_snoc : (ls : List (Lane T)) (l : Lane T) → lane_values (ls ++ l ∷ []) ≡ lane_values ls ++ l.value ∷ []
  values_snoc [] l = refl
  values_snoc (x ∷ ls) l = ap (λ t. x.value ∷ t) (values_snoc ls l)

  pub values_reversed : (ls : List (Lane T)) → lane_values (reverse ls) ≡ reverse (lane_values ls)
  values_reversed [] = refl
  values_reversed (l ∷ ls) = ap lane_values (reverse_first l ls)
      ∙ (values_snoc (reverse ls) l
      ∙ (ap (λ t. t ++ l.value ∷ []) (values_reversed ls) ∙ sym (reverse_first l.value (lane_values ls))))

module _ {T Q A : Type 0} (opening : List T) (callers : ℕ) (m : Me (Lane T) (PassView T Q A))
    (e : m ≡ (first_view opening callers, [])) where
  pub new_count : length m.0.hands ≡ callers
  new_count = ap (λ (z : Me (Lane T) (PassView T Q A)). length z.0.hands) e ∙ length_fresh Q A callers 0

  pub new_idle : 0 < callers → IsUnqueued m
  new_idle some = record {
    stage = ap (λ (z : Me (Lane T) (PassView T Q A)). z.0.stage) e;
    slots = ap (λ (z : Me (Lane T) (PassView T Q A)). z.1) e;
    hands = some_of m.0.hands callers new_count some;
    also = ap (λ (z : Me (Lane T) (PassView T Q A)). z.0.also) e;
  }

  pub new_shut : m.0.shut ≡ []
  new_shut = ap (λ (z : Me (Lane T) (PassView T Q A)). z.0.shut) e

  pub new_numbers : map hand_number m.0.hands ≡ numbers_from 0 callers
  new_numbers = ap (λ (z : Me (Lane T) (PassView T Q A)). map hand_number z.0.hands) e ∙ map_fresh Q A callers 0
