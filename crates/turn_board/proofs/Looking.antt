-- A seat looks at the word of its turn.
use Rattle.std.proofs.Common.{◌≡◌, ℕ, suc, ◌%◌, ◌^◌, ◌<◌, ◌≢◌, ◌⊎◌, List, [], ◌∷◌, ◌++◌, length, get_or, set, sym, refl, ap, ◌∙◌, subst, inl, inr, ⊎_elim, arith, length-set}
use mathlib.Core.Option.{none, some, some-injective}
use mathlib.Core.Logic.{dite}
use native.Mathlib.Decide.{ℕ_discrete}
use lib.ListN.{get_elem?}
use lib.Seq.{set-get_or}
use Rattle.atomic_table.specs.Table.{State, Me, keeps, takes, stepped, Allows}
use Rattle.atomic_table.specs.Table.{step as table_step}
use Rattle.atomic_table.proofs.Lists.{set_again, set_else}
use Rattle.turn_board.specs.declared.history.Hand.{Hand}
use Rattle.turn_board.specs.declared.lane.Lane.{Lane}
use Rattle.turn_board.specs.declared.view.Stage.TheVariants.{Queued, Turn}
use Rattle.turn_board.specs.declared.view.PassView.{PassView}
use Rattle.turn_board.specs.History.{IsHistory, IsSafe, CellStep, CallFit}
use Rattle.turn_board.specs.Hands.{Owns, FitsFirst}
use Rattle.turn_board.specs.Rule.{Account, Awaits, HasTicket, HasTurn, HasAccount, IsDrawn, IsHome, IsAccount, IsSeat, Knows, SomeSeat, turn_word}
use Rattle.turn_board.specs.Steps.{view_at_stage, LookedAt, Looks, ShutAt, Shuts, shut_view}
use Rattle.turn_board.proofs.Places.{at_end, inside, there, seat_stays, seats_set, set_at}
use Rattle.turn_board.proofs.Tickets.{queued_has_no_turn, queued_ticket, turn_came}

module _ {T Q A : Type 0} (step : CellStep T Q A) (fits : CallFit T Q A) (opening : List T) (callers : ℕ) where
  -- a step that changes nothing
  pub unmoved : (s : State (Lane T) (PassView T Q A)) (o : HasAccount step fits opening callers s) (id i : ℕ)
      (me : Me (Lane T) (PassView T Q A)) → get_elem? s.views id ≡ some me.0
      → HasAccount step fits opening callers (stepped s i (get_or s.words i 0) id me.1 me.0 keeps)
  unmoved s o id i me at =
      subst (λ (z : List ℕ × List (PassView T Q A)). HasAccount step fits opening callers record {
        words = z.0;
        homes = s.homes;
        views = z.1;
      })
      (λ t. (sym (set-get_or s.words i 0) t, sym (set_again s.views id me.0 at) t)) o

  -- a run is among what the rule says
  pub run_of : (s : State (Lane T) (PassView T Q A)) (a : Account T Q A) → IsAccount step fits opening callers s a
      → IsHistory step fits opening a.log
  run_of s a r = let l = r.log in record {
    fitting = l.fitting;
    leads = λ k x e. let n = l.long in let i = inside opening k x e in let y = there a.values k (omega arith) in
        (y.0, l.leads k x y.0 e y.1);
  }

  module _ (s : State (Lane T) (PassView T Q A)) (a : Account T Q A) (r : IsAccount step fits opening callers s a)
      (id k p : ℕ) (me : Me (Lane T) (PassView T Q A)) (at : get_elem? s.views id ≡ some me.0)
      (queued : me.0.stage ≡ Queued k p) (some_hand : me.0.hands ≢ []) where
    seat : IsSeat callers opening a id me.0
    seat = r.seats id me.0 at

    ticket : IsDrawn callers opening a id me.0.shut k p
    ticket = subst (Knows callers opening a id me.0.shut) queued seat.stage

    came : get_or s.words (turn_word k) 0 ≡ p % 2 ^ 64 → a.served k ≡ p
    came found = let d = ticket in turn_came step fits opening callers s a r k d.cell p d.after d.before found

    value : (x : T) × (get_elem? a.values k ≡ some x)
    value = let d = ticket in let l = r.log in let n = l.long in let c = d.cell in there a.values k (omega arith)

    -- the cell's slot is at home, since no other seat has its turn
    home : a.served k ≡ p → IsHome s.homes k value.0
    home now = ⊎_elim (λ (h : IsHome s.homes k value.0). h)
        (λ (t : SomeSeat s.views (a.holder k (a.served k)) (HasTurn k (a.served k) value.0)). let d = ticket in
        let is : a.holder k (a.served k) ≡ id = ap (a.holder k) now ∙ d.holder in
        let same : t.0 ≡ me.0 = some-injective t.0 me.0 (sym t.1 ∙ (ap (get_elem? s.views) is ∙ at)) in
        absurd (queued_has_no_turn me.0.stage k p k (a.served k) value.0 queued
        (ap (λ (v : PassView T Q A). v.stage) (sym same) ∙ t.2)))
        (r.lodged k value.0 value.1)

    module _ (now : a.served k ≡ p) where
      abbrev lane : Lane T
      lane = (home now).0

      held : get_elem? a.values k ≡ some lane.value
      held = value.1 ∙ ap some (sym (home now).2)

      abbrev w : PassView T Q A
      w = view_at_stage me.0 (Turn k p lane.value)

      ours : IsSeat callers opening a id w
      ours = record {
        opened = seat.opened;
        stage = (ticket, now, held);
        shut = seat.shut;
        past = seat.past;
        also = seat.also;
        hands = seat.hands;
        own = seat.own;
      }

      -- the turn is the seat's, and the slot is out
      lodged : (i : ℕ) (x : T) → get_elem? a.values i ≡ some x → IsHome (set s.homes k none) i x
          ⊎ SomeSeat (set s.views id w) (a.holder i (a.served i)) (HasTurn i (a.served i) x)
      lodged i x e = dite (ℕ_discrete i k)
          (λ is. let d = ticket in
          let mine : a.holder i (a.served i) ≡ id = ap (λ n. a.holder n (a.served n)) is
          ∙ (ap (a.holder k) now ∙ d.holder) in
          let same : lane.value ≡ x = some-injective lane.value x (sym held ∙ (ap (get_elem? a.values) (sym is) ∙ e)) in
          let turn : Turn k p lane.value ≡ Turn i (a.served i) x =
          λ z. Turn (sym is z) ((sym now ∙ ap a.served (sym is)) z) (same z) in
          inr (w, ap (get_elem? (set s.views id w)) mine ∙ set_at s.views id me.0 w at, turn))
          (λ ne. ⊎_elim (λ (h : IsHome s.homes i x). inl (h.0, set_else s.homes k i none ne ∙ h.1, h.2))
          (λ t. inr (seat_stays s.views id me.0 w at (a.holder i (a.served i)) (HasTurn i (a.served i) x)
          (HasTurn i (a.served i) x)
          (λ h. absurd (queued_has_no_turn me.0.stage k p i (a.served i) x queued h)) (λ u h. h) t))
          (r.lodged i x e))

      taken : IsAccount step fits opening callers record {
        words = s.words;
        homes = set s.homes k none;
        views = set s.views id w;
      } a
      taken = record {
        few = r.few;
        counts = r.counts;
        slots = length-set s.homes k none ∙ r.slots;
        log = r.log;
        turns = r.turns;
        behind = r.behind;
        lodged = lodged;
        tickets = λ i q l after before. seat_stays s.views id me.0 w at (a.holder i q) (Awaits (a.served i) i q)
            (Awaits (a.served i) i q)
            (λ h. (
              ⊎_elim (λ (m : HasTicket i q me.0.stage). inl (queued_ticket me.0.stage k p i q queued m))
                  (λ m. inr m) h.0,
              h.1,
            )) (λ u h. h) (r.tickets i q l after before);
        seats = seats_set s.views id me.0 w at (λ j u. IsSeat callers opening a j u) ours (λ j u _ e. r.seats j u e);
      }

      module _ (can : T → Q → Type 0)
          (safe : IsSafe step fits can) where
        may_of : (hs : List (Hand Q A)) (call : Q) → Owns callers a.log a.owner id 0 hs
            → FitsFirst fits opening hs k call → can lane.value call
        may_of [] call o f = absurd f
        may_of (h ∷ hs) call o f = let d = ticket in let x = there opening k d.cell in let l = r.log in
            safe opening a.log h.number k call x.0 lane.value (run_of s a r) x.1 (l.leads k x.0 lane.value x.1 held)
            (subst (λ made. fits opening h.number made k call) (sym o.0.made) f)

        may : (call : Q) → FitsFirst fits me.0.opening me.0.hands k call → can lane.value call
        may call f = may_of me.0.hands call seat.hands
            (subst (λ cells. FitsFirst fits cells me.0.hands k call) (seat.opened some_hand) f)

      -- where the seat keeps the turn for good
      module _ (next : k ≡ length me.0.shut) where
        abbrev x : T
        x = value.0

        abbrev v : PassView T Q A
        v = shut_view me.0 x

        long : length v.shut ≡ suc (length me.0.shut)
        long = one_longer me.0.shut
          where
            one_longer : (l : List T) → length (l ++ x ∷ []) ≡ suc (length l)
            one_longer [] = refl
            one_longer (y ∷ l) = ap suc (one_longer l)

        shut_ours : IsSeat callers opening a id v
        shut_ours = let d = ticket in record {
          opened = seat.opened;
          stage = tt;
          shut = λ i y e. ⊎_elim (λ old. seat.shut i y old)
              (λ (new : (i ≡ length me.0.shut) × (x ≡ y)). let is : i ≡ k = new.0 ∙ sym next in record {
                cell = subst (λ n. n < length opening) (sym is) d.cell;
                before = subst (λ n. a.served n < a.drawn n) (sym is) (subst (λ n. n < a.drawn k) (sym now) d.before);
                holder = ap (λ n. a.holder n (a.served n)) is ∙ (ap (a.holder k) now ∙ d.holder);
                value = ap (get_elem? a.values) is ∙ (value.1 ∙ ap some new.1);
              }) (at_end me.0.shut x y i e);
          past = seat.past;
          also = seat.also;
          hands = seat.hands;
          own = seat.own;
        }

        shut_awaits : (i q : ℕ) → Awaits (a.served i) i q me.0 → Awaits (a.served i) i q v
        shut_awaits i q h = let n = long in (
          ⊎_elim (λ (m : HasTicket i q me.0.stage). let t = queued_ticket me.0.stage k p i q queued m in let e = t.0 in
              inr (omega arith, sym t.1 ∙ (sym now ∙ ap a.served t.0)))
              (λ (m : (i < length me.0.shut) × (q ≡ a.served i)). let l = m.0 in inr (omega arith, m.1)) h.0,
          h.1,
        )

        kept_for_good : IsAccount step fits opening callers record {
          words = s.words;
          homes = s.homes;
          views = set s.views id v;
        } a
        kept_for_good = record {
          few = r.few;
          counts = r.counts;
          slots = r.slots;
          log = r.log;
          turns = r.turns;
          behind = r.behind;
          lodged = λ i y e. ⊎_elim (λ (h : IsHome s.homes i y). inl h)
              (λ t. inr (seat_stays s.views id me.0 v at (a.holder i (a.served i)) (HasTurn i (a.served i) y)
              (HasTurn i (a.served i) y)
              (λ h. absurd (queued_has_no_turn me.0.stage k p i (a.served i) y queued h)) (λ u h. h) t))
              (r.lodged i y e);
          tickets = λ i q l after before. seat_stays s.views id me.0 v at (a.holder i q) (Awaits (a.served i) i q)
              (Awaits (a.served i) i q) (shut_awaits i q) (λ u h. h) (r.tickets i q l after before);
          seats = seats_set s.views id me.0 v at (λ j u. IsSeat callers opening a j u) shut_ours
              (λ j u _ e. r.seats j u e);
        }

  pub looks : (can : T → Q → Type 0) → IsSafe step fits can → (slots id k p : ℕ) (me : Me (Lane T) (PassView T Q A))
      → me.0.stage ≡ Queued k p → me.0.hands ≢ []
      → Allows (HasAccount step fits opening callers) slots id me (turn_word k) (λ n. n)
      (Looks can fits (table_step slots (turn_word k) 0 0 none) me)
  looks can safe slots id k p me queued some_hand s o _ at _ = let a = o.account in let r = o.holds in
      let n : ℕ = get_or s.words (turn_word k) 0 in dite (ℕ_discrete n (p % 2 ^ 64))
      (λ hit. let now = came s a r id k p me at queued some_hand hit in
      let lane' = lane s a r id k p me at queued some_hand now in
      let w' = w s a r id k p me at queued some_hand now in (
        w',
        takes k lane',
        (home s a r id k p me at queued some_hand now).1,
        subst (λ ws. HasAccount step fits opening callers record {
          words = ws;
          homes = set s.homes k none;
          views = set s.views id w';
        }) (sym (set-get_or s.words (turn_word k) 0)) record {
          account = a;
          holds = taken s a r id k p me at queued some_hand now;
        },
        subst (LookedAt can fits n me (w', (k, lane') ∷ me.1)) (sym queued) (
          (λ _. record {
            lane = lane';
            view = refl;
            slots = refl;
            may = may s a r id k p me at queued some_hand now can safe;
          }),
          (λ miss. absurd (miss hit)),
        ),
      ))
      (λ miss. (
        me.0,
        keeps,
        tt,
        unmoved s o id (turn_word k) me at,
        subst (LookedAt can fits n me me) (sym queued) ((λ hit. absurd (miss hit)), λ _. refl),
      ))

  pub shuts : (slots id k p : ℕ) (me : Me (Lane T) (PassView T Q A)) → me.0.stage ≡ Queued k p → me.0.hands ≢ []
      → k ≡ length me.0.shut
      → Allows (HasAccount step fits opening callers) slots id me (turn_word k) (λ n. n)
      (Shuts (table_step slots (turn_word k) 0 0 none) me)
  shuts slots id k p me queued some_hand next s o _ at _ = let a = o.account in let r = o.holds in
      let n : ℕ = get_or s.words (turn_word k) 0 in dite (ℕ_discrete n (p % 2 ^ 64))
      (λ hit. let now = came s a r id k p me at queued some_hand hit in
      let v' = v s a r id k p me at queued some_hand now next in (
        v',
        keeps,
        tt,
        subst (λ ws. HasAccount step fits opening callers record {
          words = ws;
          homes = s.homes;
          views = set s.views id v';
        }) (sym (set-get_or s.words (turn_word k) 0)) record {
          account = a;
          holds = kept_for_good s a r id k p me at queued some_hand now next;
        },
        subst (ShutAt n me (v', me.1)) (sym queued) (
          (λ _. record { value = (value s a r id k p me at queued some_hand).0; view = refl; slots = refl }),
          (λ miss. absurd (miss hit)),
        ),
      ))
      (λ miss. (
        me.0,
        keeps,
        tt,
        unmoved s o id (turn_word k) me at,
        subst (ShutAt n me me) (sym queued) ((λ hit. absurd (miss hit)), λ _. refl),
      ))
