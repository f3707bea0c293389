-- A seat draws a ticket.
use Rattle.std.proofs.Common.{◌≡◌, ℕ, suc, ◌+◌, ◌%◌, ◌^◌, ◌<◌, ◌≤◌, ◌≢◌, ◌⊎◌, List, [], length, get_or, set, sym, refl, ap, ◌∙◌, subst, inl, inr, ⊎_elim, arith}
use mathlib.Core.Option.{none, some}
use mathlib.Core.Logic.{dite}
use native.Mathlib.Decide.{ℕ_discrete}
use lib.ListN.{get_elem?}
use Rattle.atomic_table.specs.Table.{State, Me, keeps, Allows}
use Rattle.atomic_table.specs.Table.{step as table_step}
use Rattle.turn_board.specs.declared.lane.Lane.{Lane}
use Rattle.turn_board.specs.declared.view.Stage.TheVariants.{Unqueued, Queued}
use Rattle.turn_board.specs.declared.view.PassView.{PassView}
use Rattle.turn_board.specs.History.{CellStep, CallFit}
use Rattle.turn_board.specs.Rule.{Account, Awaits, HasTicket, HasTurn, HasAccount, IsDrawn, IsHome, IsAccount, IsSeat, IsShutAt, SomeSeat, ticket_word}
use Rattle.turn_board.specs.Steps.{view_at_stage, HasDrawn}
use Rattle.turn_board.proofs.Places.{put, put_here, put_else, seat_stays, seats_set, set_at}
use Rattle.turn_board.proofs.Tickets.{drawn_ticket, idle_has_none, idle_has_no_turn, knows_stays, one_more_ticket}

module _ {T Q A : Type 0} (step : CellStep T Q A) (fits : CallFit T Q A) (opening : List T) (callers : ℕ) where
  module _ (s : State (Lane T) (PassView T Q A)) (a : Account T Q A) (r : IsAccount step fits opening callers s a)
      (id k : ℕ) (me : Me (Lane T) (PassView T Q A)) (at : get_elem? s.views id ≡ some me.0)
      (inside : k < length opening) (idle : me.0.stage ≡ Unqueued) (behind : length me.0.shut ≤ k)
      (some_hand : me.0.hands ≢ []) where
    abbrev p : ℕ
    p = a.drawn k

    abbrev b : Account T Q A
    b = record {
      log = a.log;
      values = a.values;
      served = a.served;
      drawn = put a.drawn k (suc p);
      holder = put a.holder k (put (a.holder k) p id);
      owner = a.owner;
    }

    abbrev w : PassView T Q A
    w = view_at_stage me.0 (Queued k p)

    abbrev views : List (PassView T Q A)
    views = set s.views id w

    mine : b.holder k p ≡ id
    mine = ap (λ f. f p) (put_here a.holder k k (put (a.holder k) p id) refl) ∙ put_here (a.holder k) p p id refl

    theirs : (i q : ℕ) → q < a.drawn i → b.holder i q ≡ a.holder i q
    theirs i q l = dite (ℕ_discrete i k)
        (λ e. let ne : q ≢ p = λ is. let same = ap a.drawn e in omega arith in
        ap (λ f. f q) (put_here a.holder k i (put (a.holder k) p id) e)
        ∙ (put_else (a.holder k) p q id ne ∙ ap (λ n. a.holder n q) (sym e)))
        (λ ne. ap (λ f. f q) (put_else a.holder k i (put (a.holder k) p id) ne))

    drawn_at : (i : ℕ) → i ≡ k → b.drawn i ≡ suc p
    drawn_at i e = put_here a.drawn k i (suc p) e

    grown : (i q : ℕ) → q < a.drawn i → q < b.drawn i
    grown i q l = dite (ℕ_discrete i k)
        (λ e. let is = drawn_at i e in let same = ap a.drawn e in omega arith)
        (λ ne. let is = put_else a.drawn k i (suc p) ne in omega arith)

    older : (i q : ℕ) → q < b.drawn i → (q < a.drawn i) ⊎ ((i ≡ k) × (q ≡ p))
    older i q l = dite (ℕ_discrete i k)
        (λ e. let is = drawn_at i e in let same = ap a.drawn e in
        dite (ℕ_discrete q p) (λ eq. inr (e, eq)) (λ ne. inl (omega (arith, ne))))
        (λ ne. let is = put_else a.drawn k i (suc p) ne in inl (omega arith))

    still_drawn : (j : ℕ) (shut : List T) (i q : ℕ) → IsDrawn callers opening a j shut i q
        → IsDrawn callers opening b j shut i q
    still_drawn j shut i q d =
        record {
          cell = d.cell;
          behind = d.behind;
          after = d.after;
          before = grown i q d.before;
          holder = theirs i q d.before ∙ d.holder;
        }

    still_shut : (j i : ℕ) (x : T) → IsShutAt callers opening a j i x → IsShutAt callers opening b j i x
    still_shut j i x d =
        record {
          cell = d.cell;
          before = grown i (a.served i) d.before;
          holder = theirs i (a.served i) d.before
              ∙ d.holder;
          value = d.value;
        }

    others : (j : ℕ) (u : PassView T Q A) → IsSeat callers opening a j u → IsSeat callers opening b j u
    others j u t = record {
      opened = t.opened;
      stage = knows_stays callers opening a j b u.shut u.stage (still_drawn j u.shut)
          (λ i q x d served value. (served, value)) t.stage;
      shut = λ i x e. still_shut j i x (t.shut i x e);
      past = t.past;
      also = t.also;
      hands = t.hands;
      own = t.own;
    }

    ours : IsSeat callers opening b id w
    ours = let t = r.seats id me.0 at in record {
      opened = t.opened;
      stage = record {
        cell = inside;
        behind = behind;
        after = r.behind k inside;
        before = subst (λ n. p < n) (sym (drawn_at k refl)) (omega arith);
        holder = mine;
      };
      shut = λ i x e. still_shut id i x (t.shut i x e);
      past = t.past;
      also = t.also;
      hands = t.hands;
      own = t.own;
    }

    lodged : (i : ℕ) (x : T) → get_elem? a.values i ≡ some x → IsHome s.homes i x
        ⊎ SomeSeat views (b.holder i (a.served i)) (HasTurn i (a.served i) x)
    lodged i x e = ⊎_elim (λ (h : IsHome s.homes i x). inl h)
        (λ (t : SomeSeat s.views (a.holder i (a.served i)) (HasTurn i (a.served i) x)).
        let seat = r.seats (a.holder i (a.served i)) t.0 t.1 in
        let d = drawn_ticket callers opening a (a.holder i (a.served i)) t.0.shut i (a.served i) t.0.stage seat.stage
        (subst (HasTicket i (a.served i)) (sym t.2) (refl, refl)) in
        inr (subst (λ j. SomeSeat views j (HasTurn i (a.served i) x)) (sym (theirs i (a.served i) d.before))
        (seat_stays s.views id me.0 w at (a.holder i (a.served i)) (HasTurn i (a.served i) x) (HasTurn i (a.served i) x)
        (λ h. absurd (idle_has_no_turn me.0.stage i (a.served i) x idle h)) (λ u h. h) t)))
        (r.lodged i x e)

    tickets : (i q : ℕ) → i < length opening → a.served i ≤ q → q < b.drawn i
        → SomeSeat views (b.holder i q) (Awaits (a.served i) i q)
    tickets i q l after before = ⊎_elim
        (λ (old : q < a.drawn i). subst (λ j. SomeSeat views j (Awaits (a.served i) i q)) (sym (theirs i q old))
        (seat_stays s.views id me.0 w at (a.holder i q) (Awaits (a.served i) i q) (Awaits (a.served i) i q)
        (λ h. (
          ⊎_elim (λ (m : HasTicket i q me.0.stage). absurd (idle_has_none i q me.0.stage idle m))
              (λ m. inr m) h.0,
          h.1,
        )) (λ u h. h) (r.tickets i q l after old)))
        (λ (new : (i ≡ k) × (q ≡ p)). (
          w,
          ap (get_elem? views) (ap (λ (n : ℕ × ℕ). b.holder n.0 n.1) (λ z. (new.0 z, new.1 z)) ∙ mine)
              ∙ set_at s.views id me.0 w at,
          (inl (sym new.0, sym new.1), some_hand),
        ))
        (older i q before)

    drawn_holds : IsAccount step fits opening callers record {
      words = set s.words (ticket_word k)
          ((get_or s.words (ticket_word k) 0 + 1) % 2 ^ 64);
      homes = s.homes;
      views = views;
    } b
    drawn_holds = record {
      few = r.few;
      counts = one_more_ticket (length opening) s.words a.served a.drawn k inside r.counts;
      slots = r.slots;
      log = r.log;
      turns = r.turns;
      behind = λ i l. let le = r.behind i l in
          dite (ℕ_discrete i k) (λ e. let is = drawn_at i e in let same = ap a.drawn e in omega arith)
          (λ ne. let is = put_else a.drawn k i (suc p) ne in omega arith);
      lodged = lodged;
      tickets = tickets;
      seats = seats_set s.views id me.0 w at (λ j u. IsSeat callers opening b j u) ours
          (λ j u _ e. others j u (r.seats j u e));
    }

  pub draws : (slots id k : ℕ) (me : Me (Lane T) (PassView T Q A)) → k < length opening → me.0.stage ≡ Unqueued
      → length me.0.shut ≤ k → me.0.hands ≢ []
      → Allows (HasAccount step fits opening callers) slots id me (ticket_word k) (λ n. (n + 1) % 2 ^ 64)
      (HasDrawn (table_step slots (ticket_word k) 1 0 none) me)
  draws slots id k me inside idle behind some_hand s o _ at _ = let a = o.account in let r = o.holds in (
    w s a r id k me at inside idle behind some_hand,
    keeps,
    tt,
    record {
      account = b s a r id k me at inside idle behind some_hand;
      holds = drawn_holds s a r id k me at inside idle behind some_hand;
    },
    record { cell = k; ticket = a.drawn k; word = refl; found = r.counts.tickets k inside; view = refl; slots = refl },
  )
