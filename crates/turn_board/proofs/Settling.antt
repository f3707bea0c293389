-- A seat that took in another compares the two pasts.
use Rattle.std.proofs.Common.{◌≡◌, ℕ, ◌≢◌, List, [], set, sym, refl, subst, inl, inr, ⊎_elim, arith}
use mathlib.Core.Option.{none, some}
use lib.ListN.{get_elem?}
use lib.Seq.{set-get_or}
use Rattle.atomic_table.specs.Table.{State, Me, keeps, Allows}
use Rattle.atomic_table.specs.Table.{step as table_step}
use Rattle.turn_board.specs.declared.lane.Lane.{Lane}
use Rattle.turn_board.specs.declared.view.PassView.{PassView}
use Rattle.turn_board.specs.History.{IsHistory, CellStep, CallFit}
use Rattle.turn_board.specs.Hands.{HasCallsOf}
use Rattle.turn_board.specs.Rule.{Account, Awaits, HasTurn, HasAccount, IsHome, IsAccount, IsSeat}
use Rattle.turn_board.specs.Steps.{HasSettled, Settles, settled_view}
use Rattle.turn_board.proofs.Logs.{longer_is, longer_nothing, run_front}
use Rattle.turn_board.proofs.Looking.{run_of}
use Rattle.turn_board.proofs.Owners.{owns_length}
use Rattle.turn_board.proofs.Places.{seat_stays, seats_set}

module _ {T Q A : Type 0} (step : CellStep T Q A) (fits : CallFit T Q A) (opening : List T) (callers : ℕ) where
  module _ (s : State (Lane T) (PassView T Q A)) (a : Account T Q A) (r : IsAccount step fits opening callers s a)
      (id : ℕ) (me : Me (Lane T) (PassView T Q A)) (at : get_elem? s.views id ≡ some me.0)
      (some_hand : me.0.hands ≢ []) where
    seat : IsSeat callers opening a id me.0
    seat = r.seats id me.0 at

    abbrev w : PassView T Q A
    w = settled_view me.0

    ours : IsSeat callers opening a id w
    ours = record {
      opened = seat.opened;
      stage = seat.stage;
      shut = seat.shut;
      past = (longer_is me.0.past me.0.also a.log seat.past seat.also).within;
      also = (a.log, refl);
      hands = seat.hands;
      own = subst (λ l. HasCallsOf l me.0.hands) (sym (longer_nothing w.past)) seat.own;
    }

    settled : IsAccount step fits opening callers record {
      words = s.words;
      homes = s.homes;
      views = set s.views id w;
    } a
    settled = record {
      few = r.few;
      counts = r.counts;
      slots = r.slots;
      log = r.log;
      turns = r.turns;
      behind = r.behind;
      lodged = λ i y e. ⊎_elim (λ (h : IsHome s.homes i y). inl h)
          (λ t. inr (seat_stays s.views id me.0 w at (a.holder i (a.served i)) (HasTurn i (a.served i) y)
          (HasTurn i (a.served i) y) (λ h. h) (λ u h. h) t)) (r.lodged i y e);
      tickets = λ i q l after before. seat_stays s.views id me.0 w at (a.holder i q) (Awaits (a.served i) i q)
          (Awaits (a.served i) i q) (λ h. h) (λ u h. h) (r.tickets i q l after before);
      seats = seats_set s.views id me.0 w at (λ j u. IsSeat callers opening a j u) ours (λ j u _ e. r.seats j u e);
    }

    told : HasSettled step fits me (w, me.1)
    told = let n = longer_is me.0.past me.0.also a.log seat.past seat.also in record {
      view = refl;
      slots = refl;
      first = n.first;
      second = n.second;
      run = subst (λ cells. IsHistory step fits cells w.past) (sym (seat.opened some_hand))
          (run_front step fits opening w.past a.log n.within (run_of step fits opening callers s a r));
      own = seat.own;
      few = let l = owns_length callers a.log a.owner id 0 me.0.hands (omega arith) seat.hands in let f = r.few in
          omega arith;
    }

  pub settles : (slots id i : ℕ) (me : Me (Lane T) (PassView T Q A)) → me.0.hands ≢ []
      → Allows (HasAccount step fits opening callers) slots id me i (λ n. n)
      (Settles step fits (table_step slots i 0 0 none) me)
  settles slots id i me some_hand s o _ at _ = let a = o.account in let r = o.holds in (
    w s a r id me at some_hand,
    keeps,
    tt,
    subst (λ ws. HasAccount step fits opening callers record {
      words = ws;
      homes = s.homes;
      views = set s.views id (w s a r id me at some_hand);
    }) (sym (set-get_or s.words i 0)) record {
      account = a;
      holds = settled s a r id me at some_hand;
    },
    told s a r id me at some_hand,
  )
