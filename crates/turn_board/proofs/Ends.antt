-- A table as it opens, and as it is closed.
use Rattle.std.proofs.Common.{◌≡◌, ℕ, zero, suc, ◌*◌, ◌<◌, List, [], ◌∷◌, ◌++◌, length, take, map, get_or, set, sym, refl, ap, ◌∙◌, subst, inl, ⊎_elim, arith}
use mathlib.Core.Option.{some, some-injective, some-ne-none}
use mathlib.Core.List.{IsPrefix}
use lib.ListN.{get_elem?}
use Rattle.atomic_table.specs.Table.{opening as table_opening, Final, Seen}
use Rattle.turn_board.specs.declared.history.Event.{Event}
use Rattle.turn_board.specs.declared.lane.Lane.{Lane}
use Rattle.turn_board.specs.declared.view.Stage.TheVariants.{Unqueued}
use Rattle.turn_board.specs.declared.view.PassView.{PassView}
use Rattle.turn_board.specs.History.{of_cell, LeadsTo, CellStep, CallFit}
use Rattle.turn_board.specs.Hands.{new_hands, HasCallsOf, Owns}
use Rattle.turn_board.specs.Rule.{Account, HasTurn, HasAccount, IsHome, IsLogOf, IsSeat, SomeSeat, first_view, ticket_word, turn_word}
use Rattle.std.specs.Prelude.{Bool, false, replicate}
use Rattle.atomic_table.proofs.Lists.{at_map}
use Rattle.turn_board.specs.Calls.{IsShut}
use Rattle.turn_board.specs.Lanes.{lane_value, lane_values}
use Rattle.turn_board.proofs.Owners.{owns_fresh, owns_makes}
use Rattle.turn_board.proofs.Places.{inside, there}
use Rattle.turn_board.proofs.Tickets.{idle_has_no_turn}

module _ {T Q A : Type 0} (step : CellStep T Q A) (fits : CallFit T Q A) (opening : List T) (callers : ℕ) where
  abbrev start : Account T Q A
  start = record { log = []; values = opening; served = λ _. 0; drawn = λ _. 0; holder = λ _ _. 0; owner = λ _. 0 }

  first_seat : IsSeat callers opening start 0 (first_view opening callers)
  first_seat = let hands : Owns callers start.log start.owner 0 0 (new_hands 0 callers) =
      owns_fresh callers start.log start.owner 0 callers 0 (omega arith) (λ n. refl) refl in record {
        opened = λ _. refl;
        stage = tt;
        shut = λ k x e. absurd (some-ne-none x (sym e));
        past = ([], refl);
        also = ([], refl);
        hands = hands;
        own = owns_makes callers start.log start.owner 0 0 (new_hands 0 callers) hands;
      }

  only_seat : (j : ℕ) (u : PassView T Q A) → get_elem? (first_view opening callers ∷ []) j ≡ some u
      → IsSeat callers opening start j u
  only_seat zero u e =
      subst (λ w. IsSeat callers opening start 0 w) (some-injective (first_view opening callers) u e) first_seat
  only_seat (suc j) u e = absurd (some-ne-none u (sym e))

  -- a board that opens with these words and slots is in order
  pub opens : (words : List ℕ) (lanes : List (Lane T)) → callers < 65536 → length words ≡ 16 * length opening
      → ((k : ℕ) → get_or words k 0 ≡ 0) → lane_values lanes ≡ opening
      → HasAccount step fits opening callers (table_opening words lanes (first_view opening callers))
  opens words lanes few wide zeros values = record {
    account = start;
    holds = record {
      few = few;
      counts = record { wide = wide; tickets = λ k l. zeros (ticket_word k); turns = λ k l. zeros (turn_word k) };
      slots = same_length lanes ∙ ap length values;
      log = record {
        long = refl;
        fitting = tt;
        leads = λ k x y is is'. some-injective x y (sym is ∙ is');
        others = λ by l. refl;
      };
      turns = λ k l. refl;
      behind = λ k l. omega arith;
      lodged = λ k x e. inl (home lanes k x (ap (λ l. get_elem? l k) values ∙ e));
      tickets = λ k p l after before. absurd (omega arith);
      seats = only_seat;
    };
  }
    where
      same_length : (ls : List (Lane T)) → length (map some ls) ≡ length (lane_values ls)
      same_length [] = refl
      same_length (l ∷ ls) = ap suc (same_length ls)

      home : (ls : List (Lane T)) (k : ℕ) (x : T) → get_elem? (lane_values ls) k ≡ some x → IsHome (map some ls) k x
      home [] k x e = absurd (some-ne-none x (sym e))
      home (l ∷ ls) zero x e = (l, refl, some-injective l.value x e)
      home (l ∷ ls) (suc k) x e = home ls k x e

  -- What a table is whose every turn a seat keeps for good: each slot has the value that the history leaves.
  pub record IsClosed (v : PassView T Q A) (lanes : List (Lane T)) : Type 0 where
    pub values : List T
    pub log : List (Event Q A)
    pub log_of : IsLogOf step fits callers opening values log
    pub slots : (k : ℕ) (x : T) → get_elem? values k ≡ some x → (lane : Lane T) × (get_elem? lanes k ≡ some lane)
        × (lane.value ≡ x)
    pub past : IsPrefix v.past log
    pub own : HasCallsOf log v.hands
    pub long : length lanes ≡ length opening

  pub closes : (id : ℕ) (v : PassView T Q A) (words : List ℕ) (lanes : List (Lane T)) → v.stage ≡ Unqueued
      → length v.shut ≡ length opening
      → Final (Seen (HasAccount step fits opening callers) id v) words lanes → IsClosed v lanes
  closes id v words lanes idle all f =
      let s = f.0 in let o = f.1.0 in let at = f.1.1 in let slots_at = f.4 in
      let a = o.account in let r = o.holds in let seat = r.seats id v at in record {
        values = a.values;
        log = a.log;
        log_of = r.log;
        slots = λ k x e. ⊎_elim (λ (h : IsHome s.homes k x). (h.0, slots_at k h.0 h.1, h.2))
            (λ (t : SomeSeat s.views (a.holder k (a.served k)) (HasTurn k (a.served k) x)).
            let l = r.log in let long = l.long in let i = inside a.values k x e in
            let y = there v.shut k (omega arith) in
            let d = seat.shut k y.0 y.1 in
            let same : t.0 ≡ v = some-injective t.0 v (sym t.1 ∙ (ap (get_elem? s.views) d.holder ∙ at)) in
            absurd (idle_has_no_turn v.stage k (a.served k) x idle
            (ap (λ (w : PassView T Q A). w.stage) (sym same) ∙ t.2)))
            (r.lodged k x e);
        past = seat.past;
        own = owns_makes callers a.log a.owner id 0 v.hands seat.hands;
        long = sym f.3 ∙ r.slots;
      }

  -- what a closed board promises of the values in its lanes
  pub shut_is : (v v' : PassView T Q A) (lanes : List (Lane T)) → v'.past ≡ v.past → v'.hands ≡ v.hands
      → IsClosed v' lanes
      → IsShut step fits callers opening v (lane_values lanes)
  shut_is v v' lanes past hands c = let l = c.log_of in record {
    long = same_length lanes ∙ c.long;
    log = c.log;
    fitting = l.fitting;
    leads = λ k x y is is'. let n = l.long in let i = inside opening k x is in let z = there c.values k (omega arith) in
        let s = c.slots k z.0 z.1 in
        let same : z.0 ≡ y = sym s.2 ∙ some-injective (s.0).value y (sym (at_map lane_value lanes k s.0 s.1) ∙ is') in
        subst (λ t. LeadsTo step x (of_cell k c.log) t) same (l.leads k x z.0 is z.1);
    past = subst (λ p. IsPrefix p c.log) past c.past;
    own = subst (HasCallsOf c.log) hands c.own;
    others = l.others;
  }
    where
      same_length : (ls : List (Lane T)) → length (lane_values ls) ≡ length ls
      same_length [] = refl
      same_length (l ∷ ls) = ap suc (same_length ls)

pub zero_at : (n k z : ℕ) → get_or (replicate n z) k z ≡ z
zero_at zero k z = refl
zero_at (suc n) zero z = refl
zero_at (suc n) (suc k) z = zero_at n k z

pub replicate_length : (n z : ℕ) → length (replicate n z) ≡ n
replicate_length zero z = refl
replicate_length (suc n) z = ap suc (replicate_length n z)

pub set_false : (l : List Bool) (i : ℕ) → get_or (set l i false) i false ≡ false
set_false [] i = refl
set_false (b ∷ l) zero = refl
set_false (b ∷ l) (suc i) = set_false l i

pub take_at : {X : Type 0} (l : List X) (i : ℕ) (x : X) → get_elem? l i ≡ some x → take (suc i) l ≡ take i l ++ x ∷ []
take_at [] i x e = absurd (some-ne-none x (sym e))
take_at (y ∷ l) zero x e = λ t. some-injective y x e t ∷ []
take_at (y ∷ l) (suc i) x e = ap (λ t. y ∷ t) (take_at l i x e)
