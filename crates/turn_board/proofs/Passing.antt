-- A seat passes its turn on, and the event joins the history.
use Rattle.std.proofs.Common.{◌≡◌, ℕ, suc, ◌+◌, ◌%◌, ◌^◌, ◌<◌, ◌≤◌, ◌≢◌, ◌⊎◌, List, [], ◌∷◌, ◌++◌, length, get_or, set, sym, refl, ap, ◌∙◌, subst, inl, inr, ⊎_elim, arith, length-set, append-nil, Option, Some, None}
use mathlib.Core.Option.{none, some, some-injective}
use mathlib.Core.Logic.{dite}
use native.Mathlib.Decide.{ℕ_discrete}
use lib.ListN.{get_elem?}
use Rattle.atomic_table.specs.Table.{State, Me, gives, Allows}
use Rattle.atomic_table.specs.Table.{step as table_step}
use Rattle.atomic_table.proofs.Lists.{set_here, set_else}
use Rattle.turn_board.specs.declared.history.Event.{Event}
use Rattle.turn_board.specs.declared.history.Hand.{Hand}
use Rattle.turn_board.specs.declared.lane.Lane.{Lane}
use Rattle.turn_board.specs.declared.view.Stage.TheVariants.{Turn}
use Rattle.turn_board.specs.declared.view.PassView.{PassView}
use Rattle.turn_board.specs.History.{event, of_cell, of_caller, longer_list, LeadsTo, IsHistory, CellStep, CallFit}
use Rattle.turn_board.specs.Hands.{hands_with_call, event_of, HasCallsOf, Owns, FitsFirst}
use Rattle.turn_board.specs.Rule.{Account, Awaits, HasTicket, HasTurn, HasAccount, IsDrawn, IsHome, IsAccount, IsLogOf, IsSeat, Knows, SomeSeat, turn_word}
use Rattle.turn_board.specs.Steps.{view_after_call, HasJoined, PassesOn}
use Rattle.turn_board.proofs.Logs.{fit_more, leads_more, longer_nothing, by_caller, by_other, off_cell, on_cell, prefix_more}
use Rattle.turn_board.proofs.Looking.{run_of}
use Rattle.turn_board.proofs.Owners.{owns_makes, owns_stay}
use Rattle.turn_board.proofs.Places.{inside, put, put_here, put_else, seat_stays, seats_set}
use Rattle.turn_board.proofs.Tickets.{knows_stays, one_more_turn, turn_ticket}

module _ {T Q A : Type 0} (fits : CallFit T Q A) (opening : List T) (callers : ℕ) (log : List (Event Q A))
    (owner : ℕ → ℕ) (id k : ℕ) (call : Q) (answer : A) (e : Event Q A) where
  -- What is known of the event, which the first caller makes.
  record IsNext (hs : List (Hand Q A)) : Type 0 where
    is : e ≡ event e.caller k call answer
    below : e.caller < callers
    ours : owner e.caller ≡ id
    fit : fits opening e.caller (of_caller e.caller log) k call
    hands : Owns callers (log ++ e ∷ []) owner id 0 (hands_with_call hs e)

  event_is : (a b : Event Q A) → Some a ≡ Some b → a ≡ b
  event_is a b p = ap (unwrap a) p
    where
      unwrap : Event Q A → Option (Event Q A) → Event Q A
      unwrap d None = d
      unwrap d (Some x) = x

  is_next : (hs : List (Hand Q A)) → event_of hs k call answer ≡ Some e → FitsFirst fits opening hs k call
      → Owns callers log owner id 0 hs → IsNext hs
  is_next [] is fit o = absurd fit
  is_next (h ∷ hs) is fit o =
      let same : event h.number k call answer ≡ e = event_is (event h.number k call answer) e is in
      let by : h.number ≡ e.caller = ap (λ (t : Event Q A). t.caller) same in record {
        is = sym same ∙ ap (λ n. event n k call answer) by;
        below = subst (λ n. n < callers) by o.0.below;
        ours = subst (λ n. owner n ≡ id) by o.0.ours;
        fit = subst (λ n. fits opening n (of_caller n log) k call) by
            (subst (λ made. fits opening h.number made k call) (sym o.0.made) fit);
        hands = (
          record {
            from = o.0.from;
            below = o.0.below;
            ours = o.0.ours;
            made = ap (λ n. of_caller n (log ++ e ∷ [])) by
                ∙ (by_caller log e ∙ ap (λ l. l ++ e ∷ []) (ap (λ n. of_caller n log) (sym by) ∙ o.0.made));
          },
          owns_stay callers callers log (log ++ e ∷ []) owner owner id id (suc h.number) hs (omega arith)
              (λ n l b m. (m, by_other log e n (λ z. omega arith))) o.1,
        );
      }

module _ {T Q A : Type 0} (step : CellStep T Q A) (fits : CallFit T Q A) (opening : List T) (callers : ℕ) where
  module _ (s : State (Lane T) (PassView T Q A)) (a : Account T Q A) (r : IsAccount step fits opening callers s a)
      (id k p : ℕ) (v : PassView T Q A) (at : get_elem? s.views id ≡ some v)
      (lane : Lane T) (x : T) (turn : v.stage ≡ Turn k p x) (some_hand : v.hands ≢ []) (none_also : v.also ≡ [])
      (call : Q) (answer : A) (e : Event Q A) (named : event_of v.hands k call answer ≡ Some e)
      (fit : FitsFirst fits v.opening v.hands k call) (stepped_so : step x call answer lane.value) where
    seat : IsSeat callers opening a id v
    seat = r.seats id v at

    opened : v.opening ≡ opening
    opened = seat.opened some_hand

    known : IsDrawn callers opening a id v.shut k p × (a.served k ≡ p) × (get_elem? a.values k ≡ some x)
    known = subst (Knows callers opening a id v.shut) turn seat.stage

    now : a.served k ≡ p
    now = known.1

    next : IsNext fits opening callers a.log a.owner id k call answer e v.hands
    next = is_next fits opening callers a.log a.owner id k call answer e v.hands named
        (subst (λ cells. FitsFirst fits cells v.hands k call) opened fit) seat.hands

    on : e.cell ≡ k
    on = let n = next in ap (λ (t : Event Q A). t.cell) n.is

    asked : e.call ≡ call
    asked = let n = next in ap (λ (t : Event Q A). t.call) n.is

    answered : e.answer ≡ answer
    answered = let n = next in ap (λ (t : Event Q A). t.answer) n.is

    abbrev more : List (Event Q A)
    more = seat.past.0

    abbrev log : List (Event Q A)
    log = a.log ++ e ∷ []

    abbrev w : PassView T Q A
    w = view_after_call v more e

    grown : w.past ≡ log
    grown = ap (λ l. l ++ e ∷ []) seat.past.1

    abbrev values : List T
    values = set a.values k lane.value

    abbrev b : Account T Q A
    b = record {
      log = log;
      values = values;
      served = put a.served k (suc (a.served k));
      drawn = a.drawn;
      holder = a.holder;
      owner = a.owner;
    }

    served_here : (i : ℕ) → i ≡ k → b.served i ≡ suc (a.served k)
    served_here i is = put_here a.served k i (suc (a.served k)) is

    served_else : (i : ℕ) → i ≢ k → b.served i ≡ a.served i
    served_else i ne = put_else a.served k i (suc (a.served k)) ne

    mine : a.holder k (a.served k) ≡ id
    mine = let d = known.0 in ap (a.holder k) now ∙ d.holder

    value_else : (i : ℕ) → i ≢ k → get_elem? values i ≡ get_elem? a.values i
    value_else i ne = set_else a.values k i lane.value ne

    log_of : IsLogOf step fits callers opening values log
    log_of = let l = r.log in record {
      long = length-set a.values k lane.value ∙ l.long;
      fitting = let n = next in fit_more fits opening [] a.log e l.fitting
          (subst (λ (t : ℕ × Q). fits opening e.caller (of_caller e.caller a.log) t.0 t.1)
          (λ z. (sym on z, sym asked z)) n.fit);
      leads = λ i y z is is'. dite (ℕ_discrete i k)
          (λ here. let same : lane.value ≡ z = some-injective lane.value z
          (sym (set_here a.values k lane.value (let d = known.0 in let n = l.long in let c = d.cell in omega arith))
          ∙ (ap (get_elem? values) (sym here) ∙ is')) in
          let at_cell : i ≡ e.cell = here ∙ sym on in
          let before = l.leads k y x (ap (get_elem? opening) (sym here) ∙ is) known.2 in
          let grows : of_cell i log ≡ of_cell k a.log ++ e ∷ [] = ap (λ n. of_cell n log) at_cell
          ∙ (on_cell a.log e ∙ ap (λ n. of_cell n a.log ++ e ∷ []) on) in
          subst (λ es. LeadsTo step y es z) (sym grows) (leads_more step (of_cell k a.log) y x z e before
          (subst (λ (t : Q × A × T). step x t.0 t.1 t.2) (λ u. (sym asked u, sym answered u, same u)) stepped_so)))
          (λ ne. subst (λ es. LeadsTo step y es z) (sym (off_cell a.log e i (λ q. ne (q ∙ on))))
          (l.leads i y z is (sym (value_else i ne) ∙ is')));
      others = λ n le. let nx = next in let bl = nx.below in by_other a.log e n (λ z. omega arith) ∙ l.others n le;
    }

    turns : (i : ℕ) → i < length opening → length (of_cell i log) ≡ b.served i
    turns i l = dite (ℕ_discrete i k)
        (λ here. let grows : of_cell i log ≡ of_cell k a.log ++ e ∷ [] = ap (λ n. of_cell n log) (here ∙ sym on)
        ∙ (on_cell a.log e ∙ ap (λ n. of_cell n a.log ++ e ∷ []) on) in
        ap length grows ∙ (one_longer (of_cell k a.log)
        ∙ (ap suc (let d = known.0 in r.turns k d.cell) ∙ sym (served_here i here))))
        (λ ne. ap length (off_cell a.log e i (λ q. ne (q ∙ on))) ∙ (r.turns i l ∙ sym (served_else i ne)))
      where
        one_longer : (l : List (Event Q A)) → length (l ++ e ∷ []) ≡ suc (length l)
        one_longer [] = refl
        one_longer (y ∷ l) = ap suc (one_longer l)

    behind : (i : ℕ) → i < length opening → b.served i ≤ a.drawn i
    behind i l = let le = r.behind i l in dite (ℕ_discrete i k)
        (λ here. let d = known.0 in let lt = d.before in let is = served_here i here in let same = ap a.drawn here in
        let was = now in omega arith)
        (λ ne. let is = served_else i ne in omega arith)

    lodged : (i : ℕ) (y : T) → get_elem? values i ≡ some y → IsHome (set s.homes k (some lane)) i y
        ⊎ SomeSeat (set s.views id w) (a.holder i (b.served i)) (HasTurn i (b.served i) y)
    lodged i y is = dite (ℕ_discrete i k)
        (λ here. let d = known.0 in let c = d.cell in let n = r.slots in let l = r.log in let m = l.long in
        inl (
          lane,
          ap (get_elem? (set s.homes k (some lane))) here ∙ set_here s.homes k (some lane) (omega arith),
          some-injective lane.value y
              (sym (set_here a.values k lane.value (omega arith)) ∙ (ap (get_elem? values) (sym here) ∙ is)),
        ))
        (λ ne. ⊎_elim (λ (h : IsHome s.homes i y). inl (h.0, set_else s.homes k i (some lane) ne ∙ h.1, h.2))
        (λ t. inr (subst (λ n. SomeSeat (set s.views id w) (a.holder i n) (HasTurn i n y)) (sym (served_else i ne))
        (seat_stays s.views id v w at (a.holder i (a.served i)) (HasTurn i (a.served i) y) (HasTurn i (a.served i) y)
        (λ h. absurd (ne (sym
        (turn_ticket v.stage k p i (a.served i) x turn (subst (HasTicket i (a.served i)) (sym h) (refl, refl))).0)))
        (λ u h. h) t)))
        (r.lodged i y (sym (value_else i ne) ∙ is)))

    tickets : (i q : ℕ) → i < length opening → b.served i ≤ q → q < a.drawn i
        → SomeSeat (set s.views id w) (a.holder i q) (Awaits (b.served i) i q)
    tickets i q l after before = dite (ℕ_discrete i k)
        (λ here. let is = served_here i here in let same = ap a.served here in
        seat_stays s.views id v w at (a.holder i q) (Awaits (a.served i) i q) (Awaits (b.served i) i q)
        (λ h. (
          ⊎_elim (λ (m : HasTicket i q v.stage). let t = turn_ticket v.stage k p i q x turn m in let e' = t.1 in
              let was = now in absurd (omega arith))
              (λ (m : (i < length v.shut) × (q ≡ a.served i)). let e' = m.1 in absurd (omega arith)) h.0,
          hands_left v.hands h.1,
        ))
        (λ u h. (
          ⊎_elim (λ (m : HasTicket i q u.stage). inl m)
              (λ (m : (i < length u.shut) × (q ≡ a.served i)). let e' = m.1 in absurd (omega arith)) h.0,
          h.1,
        ))
        (r.tickets i q l (omega arith) before))
        (λ ne. let is = served_else i ne in
        seat_stays s.views id v w at (a.holder i q) (Awaits (a.served i) i q) (Awaits (b.served i) i q)
        (λ h. (
          ⊎_elim (λ (m : HasTicket i q v.stage). absurd (ne (sym (turn_ticket v.stage k p i q x turn m).0)))
              (λ (m : (i < length v.shut) × (q ≡ a.served i)). inr (m.0, m.1 ∙ sym is)) h.0,
          hands_left v.hands h.1,
        ))
        (λ u h. subst (λ n. Awaits n i q u) (sym is) h)
        (r.tickets i q l (omega arith) before))
      where
        hands_left : (hs : List (Hand Q A)) → hs ≢ [] → hands_with_call hs e ≢ []
        hands_left [] ne none_left = ne refl
        hands_left (h ∷ hs) ne none_left = absurd (let n = ap length none_left in omega arith)

    others : (j : ℕ) (u : PassView T Q A) → j ≢ id → IsSeat callers opening a j u → IsSeat callers opening b j u
    others j u other t =
        let away : (i q : ℕ) → a.holder i q ≡ j → a.served i ≡ q → i ≢ k = λ i q h is here.
        other (sym h ∙ (ap (λ (n : ℕ × ℕ). a.holder n.0 n.1) (λ z. (here z, (sym is ∙ ap a.served here) z)) ∙ mine)) in
        record {
          opened = t.opened;
          stage = knows_stays callers opening a j b u.shut u.stage
              (λ i q d. record {
                cell = d.cell;
                behind = d.behind;
                after = let le = d.after in dite (ℕ_discrete i k)
                    (λ here. let is = served_here i here in let same = ap a.served here in
                    let ne : a.served i ≢ q = λ z. away i q d.holder z here in omega (arith, ne))
                    (λ ne. let is = served_else i ne in omega arith);
                before = d.before;
                holder = d.holder;
              })
              (λ i q y d is val. let ne = away i q d.holder is in
              (served_else i ne ∙ is, value_else i ne ∙ val)) t.stage;
          shut = λ i y is. let d = t.shut i y is in let ne = away i (a.served i) d.holder refl in record {
            cell = d.cell;
            before = subst (λ n. n < a.drawn i) (sym (served_else i ne)) d.before;
            holder = ap (a.holder i) (served_else i ne) ∙ d.holder;
            value = value_else i ne ∙ d.value;
          };
          past = prefix_more u.past a.log (e ∷ []) t.past;
          also = prefix_more u.also a.log (e ∷ []) t.also;
          hands = let n = next in let m = n.ours in
              owns_stay callers callers a.log log a.owner a.owner j j 0 u.hands (omega arith)
              (λ c _ _ is. (is, by_other a.log e c (λ z. other (sym is ∙ (ap a.owner z ∙ m))))) t.hands;
          own = t.own;
        }

    hands_of : Owns callers log a.owner id 0 w.hands
    hands_of = let n = next in n.hands

    ours : IsSeat callers opening b id w
    ours = record {
      opened = λ _. opened;
      stage = tt;
      shut = λ i y is. let d = seat.shut i y is in let b' = (known.0).behind in
          let ne : i ≢ k = λ here. let c = shut_place v.shut i y is in absurd (omega arith) in record {
            cell = d.cell;
            before = subst (λ n. n < a.drawn i) (sym (served_else i ne)) d.before;
            holder = ap (a.holder i) (served_else i ne) ∙ d.holder;
            value = value_else i ne ∙ d.value;
          };
      past = ([], append-nil w.past ∙ grown);
      also = prefix_more v.also a.log (e ∷ []) seat.also;
      hands = hands_of;
      own = subst (λ l. HasCallsOf l w.hands)
          (sym (ap (longer_list w.past) none_also ∙ (longer_nothing w.past ∙ grown)))
          (owns_makes callers log a.owner id 0 w.hands hands_of);
    }
      where
        shut_place : (l : List T) (i : ℕ) (y : T) → get_elem? l i ≡ some y → i < length l
        shut_place l i y is = inside l i y is

    passed_on : IsAccount step fits opening callers record {
      words = set s.words (turn_word k)
          ((get_or s.words (turn_word k) 0 + 1) % 2 ^ 64);
      homes = set s.homes k (some lane);
      views = set s.views id w;
    } b
    passed_on = let d = known.0 in record {
      few = r.few;
      counts = one_more_turn (length opening) s.words a.served a.drawn k d.cell r.counts;
      slots = length-set s.homes k (some lane) ∙ r.slots;
      log = log_of;
      turns = turns;
      behind = behind;
      lodged = lodged;
      tickets = tickets;
      seats = seats_set s.views id v w at (λ j u. IsSeat callers opening b j u) ours
          (λ j u other is. others j u other (r.seats j u is));
    }

    joined : HasJoined step fits e (v, (k, lane) ∷ []) (w, [])
    joined = record {
      more = more;
      view = refl;
      slots = refl;
      run = subst (λ (t : List T × List (Event Q A)). IsHistory step fits t.0 t.1) (λ z. (sym opened z, sym grown z))
          (run_of step fits opening callers _ b passed_on);
      own = subst (λ l. HasCallsOf l w.hands) (sym grown) (owns_makes callers log a.owner id 0 w.hands hands_of);
    }

  pub passes : (slots id k p : ℕ) (v : PassView T Q A) (lane : Lane T) (x : T) → v.stage ≡ Turn k p x → v.hands ≢ []
      → v.also ≡ []
      → (call : Q) (answer : A) (named : Option (Event Q A)) (e : Event Q A) → named ≡ event_of v.hands k call answer
      → event_of v.hands k call answer ≡ Some e → FitsFirst fits v.opening v.hands k call
      → step x call answer lane.value
      → Allows (HasAccount step fits opening callers) slots id (v, (k, lane) ∷ []) (turn_word k) (λ n. (n + 1) % 2 ^ 64)
      (PassesOn step fits named (table_step slots (turn_word k) 1 0 none) (v, (k, lane) ∷ []))
  passes slots id k p v lane x turn some_hand none_also call answer name e chosen named fit stepped_so s o _ at _ =
      let a = o.account in let r = o.holds in (
        w s a r id k p v at lane x turn some_hand none_also call answer e named fit stepped_so,
        gives,
        tt,
        record {
          account = b s a r id k p v at lane x turn some_hand none_also call answer e named fit stepped_so;
          holds = passed_on s a r id k p v at lane x turn some_hand none_also call answer e named fit stepped_so;
        },
        (
          e,
          chosen ∙ named,
          joined s a r id k p v at lane x turn some_hand none_also call answer e named fit stepped_so,
        ),
      )

  pub some_event : (k : ℕ) (call : Q) (answer : A) (hs : List (Hand Q A)) → hs ≢ [] → (e : Event Q A)
      × (event_of hs k call answer ≡ Some e)
  some_event k call answer [] ne = absurd (ne refl)
  some_event k call answer (h ∷ hs) ne = (event h.number k call answer, refl)

  -- the same of a seat whose slots are known by an equation
  pub passes_on : (slots id k p : ℕ) (me : Me (Lane T) (PassView T Q A)) (lane : Lane T) (x : T) → me.1 ≡ (k, lane) ∷ []
      → me.0.stage ≡ Turn k p x → me.0.hands ≢ [] → me.0.also ≡ []
      → (call : Q) (answer : A) (named : Option (Event Q A)) → named ≡ event_of me.0.hands k call answer
      → FitsFirst fits me.0.opening me.0.hands k call → step x call answer lane.value
      → Allows (HasAccount step fits opening callers) slots id me (turn_word k) (λ n. (n + 1) % 2 ^ 64)
      (PassesOn step fits named (table_step slots (turn_word k) 1 0 none) me)
  passes_on slots id k p me lane x held turn some_hand none_also call answer named chosen fit stepped_so =
      let e = some_event k call answer me.0.hands some_hand in
      subst (λ cs. Allows (HasAccount step fits opening callers) slots id (me.0, cs) (turn_word k)
      (λ n. (n + 1) % 2 ^ 64) (PassesOn step fits named (table_step slots (turn_word k) 1 0 none) (me.0, cs)))
      (sym held) (passes slots id k p me.0 lane x turn some_hand none_also call answer named e.0 chosen e.1 fit
      stepped_so)
