-- The moment of a run at which a caller had made the first of its calls, and an entry behind it.
use Rattle.std.proofs.Common.{◌≡◌, ◌∙◌, ℕ, zero, suc, ◌<◌, Bool, true, false, List, [], ◌∷◌, ◌++◌, length, drop, get_or, slice_index_or, cond, filter, append_assoc, refl, sym, ap, subst, arith}
use Rattle.cube_core.specs.Links.{EventOf, AreEventsAfter}
use Rattle.core_events.specs.Events.{CoreEvent}
use Rattle.turn_board.specs.declared.history.Event.{Event}

-- A list is cut where the first of those that pass a test end.
pub record IsCut {X : Type 0} (p : X → Bool) (earlier rest xs : List X) : Type 0 where
  pub first : List X
  pub second : List X
  pub whole : xs ≡ first ++ second
  pub passed : filter p first ≡ earlier
  pub left : filter p second ≡ rest

cut-one : {X : Type 0} (p : X → Bool) (x y : X) (xs earlier rest : List X) (own : Bool) → p x ≡ own
    → cond own (x ∷ filter p xs) (filter p xs) ≡ (y ∷ earlier) ++ rest
    → ((es rs : List X) → filter p xs ≡ es ++ rs → IsCut p es rs xs) → IsCut p (y ∷ earlier) rest (x ∷ xs)
cut-one {X} p x y xs earlier rest true own is next =
    let c = next earlier rest (ap (λ (l : List X). drop 1 l) is) in
    let same : x ≡ y = ap (λ (l : List X). get_or l zero x) is in
    record {
      first = x ∷ c.first;
      second = c.second;
      whole = ap (λ (l : List X). x ∷ l) c.whole;
      passed = ap (λ (b : Bool). cond b (x ∷ filter p c.first) (filter p c.first)) own ∙ (λ i. same i ∷ c.passed i);
      left = c.left;
    }
cut-one {X} p x y xs earlier rest false own is next =
    let c = next (y ∷ earlier) rest is in
    record {
      first = x ∷ c.first;
      second = c.second;
      whole = ap (λ (l : List X). x ∷ l) c.whole;
      passed = ap (λ (b : Bool). cond b (x ∷ filter p c.first) (filter p c.first)) own ∙ c.passed;
      left = c.left;
    }

pub cut : {X : Type 0} (p : X → Bool) (xs earlier rest : List X) → filter p xs ≡ earlier ++ rest
    → IsCut p earlier rest xs
cut p [] [] rest is = record { first = []; second = []; whole = refl; passed = refl; left = is }
cut p [] (y ∷ earlier) rest is = let long = ap length is in absurd (omega (arith, long))
cut p (x ∷ xs) [] rest is = record { first = []; second = x ∷ xs; whole = refl; passed = refl; left = is }
cut p (x ∷ xs) (y ∷ earlier) rest is = cut-one p x y xs earlier rest (p x) refl is (λ es rs. cut p xs es rs)

module _ {Q A : Type 0} (event_of : EventOf Q A) where
  -- The events of some entries, and of others behind them.
  pub record AreSplit (start : List CoreEvent) (first second : List (Event Q A)) (es : List CoreEvent) : Type 0 where
    pub moment : List CoreEvent
    pub before : AreEventsAfter event_of start first moment
    pub behind : AreEventsAfter event_of moment second es

  pub split : (first second : List (Event Q A)) (start es : List CoreEvent)
      → AreEventsAfter event_of start (first ++ second) es → AreSplit start first second es
  split [] second start es are = record { moment = start; before = refl; behind = are }
  split (e ∷ first) second start es are =
      let rest = split first second (are.0 ∷ start) es are.2 in
      record { moment = rest.moment; before = (are.0, are.1, rest.before); behind = rest.behind }

  pub all-behind : (log : List (Event Q A)) (start es : List CoreEvent) → AreEventsAfter event_of start log es
      → (later : List CoreEvent) × (es ≡ later ++ start)
  all-behind [] start es are = ([], sym are)
  all-behind (e ∷ log) start es are =
      let rest = all-behind log (are.0 ∷ start) es are.2 in
      (rest.0 ++ are.0 ∷ [], rest.1 ∙ sym (append_assoc rest.0 (are.0 ∷ []) start))

  -- The entry is an event at some moment from one on.
  pub record HappensSince (start es : List CoreEvent) (e : Event Q A) : Type 0 where
    pub since : List CoreEvent
    pub next : CoreEvent
    pub later : List CoreEvent
    pub whole : es ≡ later ++ (next ∷ (since ++ start))
    pub is : event_of (since ++ start) e next

  pub happens : (log : List (Event Q A)) (start es : List CoreEvent) (e : Event Q A) (k : ℕ)
      → AreEventsAfter event_of start log es → k < length log → slice_index_or log k e ≡ e → HappensSince start es e
  happens [] start es e k are low is = absurd (omega (arith, low))
  happens (x ∷ log) start es e zero are low is =
      let rest = all-behind log (are.0 ∷ start) es are.2 in
      record {
        since = [];
        next = are.0;
        later = rest.0;
        whole = rest.1;
        is = subst (λ (y : Event Q A). event_of start y are.0) is are.1;
      }
  happens (x ∷ log) start es e (suc k) are low is =
      let h = happens log (are.0 ∷ start) es e k are.2 (omega (arith, low)) is in
      let moved = sym (append_assoc h.since (are.0 ∷ []) start) in
      record {
        since = h.since ++ are.0 ∷ [];
        next = h.next;
        later = h.later;
        whole = h.whole ∙ ap (λ (l : List CoreEvent). h.later ++ (h.next ∷ l)) moved;
        is = subst (λ (l : List CoreEvent). event_of l e h.next) moved h.is;
      }
