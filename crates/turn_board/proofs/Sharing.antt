-- A seat gives callers to a new one, and takes in those of another.
use Rattle.std.proofs.Common.{◌≡◌, ℕ, cond, ltb, zero, suc, ◌<◌, ◌≤◌, ◌≢◌, List, [], ◌∷◌, ◌++◌, length, take, drop, set, sym, refl, ap, ◌∙◌, subst, inl, inr, ⊎_elim, arith}
use mathlib.Core.Option.{some, some-ne-none}
use lib.ListN.{get_elem?}
use Rattle.atomic_table.specs.Table.{State, Splits, Joins}
use Rattle.atomic_table.proofs.Lists.{set_else, at_longer}
use Rattle.turn_board.specs.declared.history.Event.{Event}
use Rattle.turn_board.specs.declared.history.Hand.{Hand}
use Rattle.turn_board.specs.declared.lane.Lane.{Lane}
use Rattle.turn_board.specs.declared.view.Stage.TheVariants.{Unqueued}
use Rattle.turn_board.specs.declared.view.PassView.{PassView}
use Rattle.turn_board.specs.History.{longer_list, CellStep, CallFit}
use Rattle.turn_board.specs.Hands.{HasCallsOf, Owns}
use Rattle.turn_board.specs.Rule.{Account, Awaits, HasTicket, HasTurn, HasAccount, IsHome, IsAccount, IsSeat, SomeSeat}
use Rattle.turn_board.specs.Steps.{first_part, last_part, joined_view, spent_view}
use Rattle.std.proofs.lemmas.Bool.{cases_lt, le-ltb, lt-ltb}
use Rattle.turn_board.proofs.Logs.{longer_is, longer_nothing}
use Rattle.turn_board.proofs.Owners.{lacks_other, makes_between, makes_merged, owns_both, owns_cut, owns_from, owns_stay}
use Rattle.turn_board.proofs.Places.{at_end, inside, put, put_here, put_else, seat_stays, seats_set}
use Rattle.turn_board.proofs.Tickets.{idle_has_none, idle_has_no_turn, knows_stays}

module _ {Q A : Type 0} where
  makes_part : (past : List (Event Q A)) (m : ℕ) (hs : List (Hand Q A)) → HasCallsOf past hs
      → HasCallsOf past (take m hs) × HasCallsOf past (drop m hs)
  makes_part past zero hs all = (tt, all)
  makes_part past (suc m) [] all = (tt, tt)
  makes_part past (suc m) (h ∷ hs) all = let t = makes_part past m hs all.1 in ((all.0, t.0), t.1)

module _ {T Q A : Type 0} where
  -- a seat with no ticket and no turn of its own awaits nothing
  awaits_nothing : (v : PassView T Q A) (served k p : ℕ) → v.stage ≡ Unqueued → v.shut ≡ [] → Awaits served k p v → ⊥
  awaits_nothing v served k p idle unshut h = ⊎_elim (λ (m : HasTicket k p v.stage). idle_has_none k p v.stage idle m)
      (λ (m : (k < length v.shut) × (p ≡ served)). let l = m.0 in let z = ap length unshut in absurd (omega arith)) h.0

module _ {T Q A : Type 0} (step : CellStep T Q A) (fits : CallFit T Q A) (opening : List T) (callers : ℕ) where
  module _ (s : State (Lane T) (PassView T Q A)) (a : Account T Q A) (r : IsAccount step fits opening callers s a)
      (id m : ℕ) (v : PassView T Q A) (at : get_elem? s.views id ≡ some v)
      (idle : v.stage ≡ Unqueued) (unshut : v.shut ≡ []) (some_hand : v.hands ≢ [])
      (some_left : m < length v.hands) where
    seat : IsSeat callers opening a id v
    seat = r.seats id v at

    abbrev v1 : PassView T Q A
    v1 = first_part m v

    abbrev v2 : PassView T Q A
    v2 = last_part m v

    abbrev new : ℕ
    new = length (set s.views id v1)

    abbrev cut : (c : ℕ) × (0 ≤ c) × (c ≤ callers) × Owns c a.log a.owner id 0 (take m v.hands)
        × Owns callers a.log a.owner id c (drop m v.hands)
    cut = owns_cut callers a.log a.owner id m 0 v.hands seat.hands some_left

    abbrev owner : ℕ → ℕ
    owner n = cond (ltb n cut.0) (a.owner n) (put (λ j. j) id new (a.owner n))

    owner_low : (n : ℕ) → n < cut.0 → owner n ≡ a.owner n
    owner_low n l = ap (λ t. cond t (a.owner n) (put (λ j. j) id new (a.owner n))) (lt-ltb n cut.0 l)

    owner_high : (n : ℕ) → cut.0 ≤ n → owner n ≡ put (λ j. j) id new (a.owner n)
    owner_high n l = ap (λ t. cond t (a.owner n) (put (λ j. j) id new (a.owner n))) (le-ltb n cut.0 l)

    owner_given : (n : ℕ) → cut.0 ≤ n → a.owner n ≡ id → owner n ≡ new
    owner_given n l is = owner_high n l ∙ put_here (λ j. j) id (a.owner n) new is

    owner_else : (n j : ℕ) → j ≢ id → a.owner n ≡ j → owner n ≡ j
    owner_else n j ne is = ⊎_elim (λ (l : n < cut.0). owner_low n l ∙ is)
        (λ (l : cut.0 ≤ n). owner_high n l ∙ (put_else (λ j. j) id (a.owner n) new (λ z. ne (sym is ∙ z)) ∙ is))
        (cases_lt n cut.0)

    abbrev b : Account T Q A
    b = record { log = a.log; values = a.values; served = a.served; drawn = a.drawn; holder = a.holder; owner = owner }

    nothing_shut : (k : ℕ) (x : T) → get_elem? v.shut k ≡ some x → ⊥
    nothing_shut k x e = let l = inside v.shut k x e in let z = ap length unshut in absurd (omega arith)

    first_seat : IsSeat callers opening b id v1
    first_seat = record {
      opened = λ _. seat.opened some_hand;
      stage = tt;
      shut = λ k x e. absurd (nothing_shut k x e);
      past = seat.past;
      also = seat.also;
      hands = let c = cut.2 in
          owns_stay cut.0 callers a.log a.log a.owner owner id id 0 (take m v.hands) (omega arith)
          (λ n _ l is. (owner_low n l ∙ is, refl)) cut.3;
      own = (makes_part (longer_list v.past v.also) m v.hands seat.own).0;
    }

    last_seat : IsSeat callers opening b new v2
    last_seat = record {
      opened = λ _. seat.opened some_hand;
      stage = tt;
      shut = λ k x e. absurd (nothing_shut k x e);
      past = seat.past;
      also = seat.also;
      hands = owns_from callers a.log owner new cut.0 0 (drop m v.hands) (omega arith)
          (owns_stay callers callers a.log a.log a.owner owner id new cut.0 (drop m v.hands) (omega arith)
          (λ n l _ is. (owner_given n l is, refl)) cut.4);
      own = (makes_part (longer_list v.past v.also) m v.hands seat.own).1;
    }

    others : (j : ℕ) (u : PassView T Q A) → j ≢ id → IsSeat callers opening a j u → IsSeat callers opening b j u
    others j u ne t = record {
      opened = t.opened;
      stage = knows_stays callers opening a j b u.shut u.stage
          (λ i q d. record { cell = d.cell; behind = d.behind; after = d.after; before = d.before; holder = d.holder })
          (λ i q x d is val. (is, val)) t.stage;
      shut = λ i x e. let d = t.shut i x e in
          record { cell = d.cell; before = d.before; holder = d.holder; value = d.value };
      past = t.past;
      also = t.also;
      hands = owns_stay callers callers a.log a.log a.owner owner j j 0 u.hands (omega arith)
          (λ n _ _ is. (owner_else n j ne is, refl)) t.hands;
      own = t.own;
    }

    abbrev views : List (PassView T Q A)
    views = set s.views id v1 ++ v2 ∷ []

    stays : (j : ℕ) (P : PassView T Q A → Type 0) → (P v → P v1) → SomeSeat s.views j P → SomeSeat views j P
    stays j P keep t = let t' = seat_stays s.views id v v1 at j P P keep (λ u h. h) t in
        (t'.0, at_longer (set s.views id v1) (v2 ∷ []) j t'.0 t'.1, t'.2)

    split_holds : IsAccount step fits opening callers record { words = s.words; homes = s.homes; views = views } b
    split_holds = record {
      few = r.few;
      counts = r.counts;
      slots = r.slots;
      log = r.log;
      turns = r.turns;
      behind = r.behind;
      lodged = λ i x e. ⊎_elim (λ (h : IsHome s.homes i x). inl h)
          (λ t. inr (stays (a.holder i (a.served i)) (HasTurn i (a.served i) x)
          (λ h. absurd (idle_has_no_turn v.stage i (a.served i) x idle h)) t)) (r.lodged i x e);
      tickets = λ i q l after before. stays (a.holder i q) (Awaits (a.served i) i q)
          (λ h. absurd (awaits_nothing v (a.served i) i q idle unshut h)) (r.tickets i q l after before);
      seats = λ j u e. ⊎_elim
          (λ (t : get_elem? (set s.views id v1) j ≡ some u). seats_set s.views id v v1 at
          (λ j u. IsSeat callers opening b j u) first_seat (λ j u ne e. others j u ne (r.seats j u e)) j u t)
          (λ (t : (j ≡ new) × (v2 ≡ u)). subst (λ (n : ℕ × PassView T Q A). IsSeat callers opening b n.0 n.1)
          (λ z. (sym t.0 z, t.1 z)) last_seat) (at_end (set s.views id v1) v2 u j e);
    }

  pub splits : (id m : ℕ) (v : PassView T Q A) → v.stage ≡ Unqueued → v.shut ≡ [] → v.hands ≢ [] → m < length v.hands
      → Splits (HasAccount step fits opening callers) id v (first_part m v) (last_part m v)
  splits id m v idle unshut some_hand some_left s o at = record {
    account = b s o.account o.holds id m v at idle unshut some_hand some_left;
    holds = split_holds s o.account o.holds id m v at idle unshut some_hand some_left;
  }

  module _ (s : State (Lane T) (PassView T Q A)) (a : Account T Q A) (r : IsAccount step fits opening callers s a)
      (id : ℕ) (v : PassView T Q A) (at : get_elem? s.views id ≡ some v)
      (other : ℕ) (u : PassView T Q A) (apart : other ≢ id) (there : get_elem? s.views other ≡ some u)
      (idle : v.stage ≡ Unqueued) (unshut : v.shut ≡ []) (some_hand : v.hands ≢ []) (none_also : v.also ≡ [])
      (idle' : u.stage ≡ Unqueued) (unshut' : u.shut ≡ []) (none_also' : u.also ≡ []) where
    seat1 : IsSeat callers opening a id v
    seat1 = r.seats id v at

    seat2 : IsSeat callers opening a other u
    seat2 = r.seats other u there

    abbrev both : PassView T Q A
    both = joined_view v u

    abbrev owner1 : ℕ → ℕ
    owner1 n = put (λ j. j) other id (a.owner n)

    owner1_given : (n : ℕ) → a.owner n ≡ other → owner1 n ≡ id
    owner1_given n is = put_here (λ j. j) other (a.owner n) id is

    owner1_else : (n j : ℕ) → j ≢ other → a.owner n ≡ j → owner1 n ≡ j
    owner1_else n j ne is = put_else (λ j. j) other (a.owner n) id (λ z. ne (sym is ∙ z)) ∙ is

    abbrev b1 : Account T Q A
    b1 = record {
      log = a.log;
      values = a.values;
      served = a.served;
      drawn = a.drawn;
      holder = a.holder;
      owner = owner1;
    }

    abbrev mid : List (PassView T Q A)
    mid = set s.views id both

    there1 : get_elem? mid other ≡ some u
    there1 = set_else s.views id other both apart ∙ there

    abbrev views1 : List (PassView T Q A)
    views1 = set mid other spent_view

    both_seat : IsSeat callers opening b1 id both
    both_seat = let n = longer_is v.past u.past a.log seat1.past seat2.past in record {
      opened = λ _. seat1.opened some_hand;
      stage = tt;
      shut = λ k x e. absurd (let l = inside v.shut k x e in let z = ap length unshut in omega arith);
      past = seat1.past;
      also = seat2.past;
      hands = owns_both callers a.log a.owner owner1 id other 0 v.hands u.hands (λ n is. owner1_given n is)
          (λ n _ is. lacks_other callers a.log a.owner id 0 n v.hands (λ z. apart (sym is ∙ z)) seat1.hands)
          (owns_stay callers callers a.log a.log a.owner owner1 id id 0 v.hands (omega arith)
          (λ n _ _ is. (owner1_else n id (λ z. apart (sym z)) is, refl)) seat1.hands)
          seat2.hands;
      own = makes_merged (longer_list v.past u.past) v.hands u.hands
          (makes_between callers a.log a.owner id 0 v.hands v.past (longer_list v.past u.past) n.first n.within
          (subst (λ l. HasCallsOf l v.hands) (ap (longer_list v.past) none_also ∙ longer_nothing v.past) seat1.own)
          seat1.hands)
          (makes_between callers a.log a.owner other 0 u.hands u.past (longer_list v.past u.past) n.second n.within
          (subst (λ l. HasCallsOf l u.hands) (ap (longer_list u.past) none_also' ∙ longer_nothing u.past) seat2.own)
          seat2.hands);
    }

    spent_seat : IsSeat callers opening b1 other spent_view
    spent_seat = record {
      opened = λ ne. absurd (ne refl);
      stage = tt;
      shut = λ k x e. absurd (some-ne-none x (sym e));
      past = (a.log, refl);
      also = (a.log, refl);
      hands = tt;
      own = tt;
    }

    others1 : (j : ℕ) (w : PassView T Q A) → j ≢ id → j ≢ other → IsSeat callers opening a j w
        → IsSeat callers opening b1 j w
    others1 j w ne ne' t = record {
      opened = t.opened;
      stage = knows_stays callers opening a j b1 w.shut w.stage
          (λ i q d. record { cell = d.cell; behind = d.behind; after = d.after; before = d.before; holder = d.holder })
          (λ i q x d is val. (is, val)) t.stage;
      shut = λ i x e. let d = t.shut i x e in
          record { cell = d.cell; before = d.before; holder = d.holder; value = d.value };
      past = t.past;
      also = t.also;
      hands = owns_stay callers callers a.log a.log a.owner owner1 j j 0 w.hands (omega arith)
          (λ n _ _ is. (owner1_else n j ne' is, refl)) t.hands;
      own = t.own;
    }

    stays1 : (j : ℕ) (P : PassView T Q A → Type 0) → (P v → ⊥) → (P u → ⊥) → SomeSeat s.views j P → SomeSeat views1 j P
    stays1 j P not_v not_u t = seat_stays mid other u spent_view there1 j P P (λ h. absurd (not_u h)) (λ w h. h)
        (seat_stays s.views id v both at j P P (λ h. absurd (not_v h)) (λ w h. h) t)

    joined_holds : IsAccount step fits opening callers record { words = s.words; homes = s.homes; views = views1 } b1
    joined_holds = record {
      few = r.few;
      counts = r.counts;
      slots = r.slots;
      log = r.log;
      turns = r.turns;
      behind = r.behind;
      lodged = λ i x e. ⊎_elim (λ (h : IsHome s.homes i x). inl h)
          (λ t. inr (stays1 (a.holder i (a.served i)) (HasTurn i (a.served i) x)
          (λ h. idle_has_no_turn v.stage i (a.served i) x idle h)
          (λ h. idle_has_no_turn u.stage i (a.served i) x idle' h) t)) (r.lodged i x e);
      tickets = λ i q l after before. stays1 (a.holder i q) (Awaits (a.served i) i q)
          (λ h. awaits_nothing v (a.served i) i q idle unshut h)
          (λ h. awaits_nothing u (a.served i) i q idle' unshut' h) (r.tickets i q l after before);
      seats = seats_set mid other u spent_view there1 (λ j w. IsSeat callers opening b1 j w) spent_seat
          (λ j w ne e. seats_set s.views id v both at (λ j w. (j ≢ other) → IsSeat callers opening b1 j w)
          (λ _. both_seat) (λ j w ne e ne'. others1 j w ne ne' (r.seats j w e)) j w e ne);
    }

  pub joins : (id : ℕ) (v : PassView T Q A) (other : ℕ) (u : PassView T Q A) → v.stage ≡ Unqueued → v.shut ≡ []
      → v.hands ≢ [] → v.also ≡ [] → u.stage ≡ Unqueued → u.shut ≡ [] → u.also ≡ []
      → Joins (HasAccount step fits opening callers) id v other u (joined_view v u) spent_view
  joins id v other u idle unshut some_hand none_also idle' unshut' none_also' s o at apart there' = let there =
      sym (set_else s.views id other (joined_view v u) apart) ∙ there' in record {
        account = b1 s o.account o.holds id v at other u apart there idle unshut some_hand none_also idle' unshut'
            none_also';
        holds = joined_holds s o.account o.holds id v at other u apart there idle unshut some_hand none_also idle'
            unshut' none_also';
      }
