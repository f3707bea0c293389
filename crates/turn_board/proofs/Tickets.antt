-- The tickets of a cell that are out: no seat has two of them, and they are fewer than the callers.
use Rattle.std.proofs.Common.{◌≡◌, ℕ, suc, ◌+◌, ◌-◌, ◌%◌, ◌^◌, ◌<◌, ◌≤◌, ◌≢◌, List, [], ◌∷◌, length, get_or, set, sym, refl, ap, ◌∙◌, subst, ⊎_elim, arith, length-set, get_or-set_same, get_or-set_other}
use mathlib.Core.Option.{some, some-injective}
use mathlib.Core.Logic.{dite}
use native.Mathlib.Decide.{ℕ_discrete}
use lib.ListN.{get_elem?}
use Rattle.atomic_table.specs.Table.{State}
use Rattle.atomic_table.proofs.Lists.{one_turn}
use Rattle.turn_board.specs.History.{CellStep, CallFit}
use Rattle.turn_board.specs.declared.history.Event.{Event}
use Rattle.turn_board.specs.declared.history.Hand.{Hand}
use Rattle.turn_board.specs.declared.lane.Lane.{Lane}
use Rattle.turn_board.specs.declared.view.Stage.{Stage}
use Rattle.turn_board.specs.declared.view.Stage.TheVariants.{Unqueued, Queued, Turn}
use Rattle.turn_board.specs.declared.view.PassView.{PassView}
use Rattle.turn_board.specs.Hands.{first_number, Owns}
use Rattle.turn_board.specs.Rule.{Account, AreCounts, Awaits, HasTicket, IsDrawn, IsAccount, IsSeat, Knows, SomeSeat, ticket_word, turn_word}
use Rattle.turn_board.proofs.Pigeons.{pigeons}
use Rattle.turn_board.proofs.Places.{put, put_here, put_else}

module _ {T : Type 0} where
  pub same_ticket : (k p q : ℕ) (st : Stage T) → HasTicket k p st → HasTicket k q st → p ≡ q
  same_ticket k p q Unqueued a b = absurd a
  same_ticket k p q (Queued j r) a b = sym a.1 ∙ b.1
  same_ticket k p q (Turn j r x) a b = sym a.1 ∙ b.1

  -- no ticket is had at the stage
  pub idle_has_none : (k p : ℕ) (st : Stage T) → st ≡ Unqueued → HasTicket k p st → ⊥
  idle_has_none k p st idle h = subst (HasTicket k p) idle h

  pub queued_has_no_turn : (st : Stage T) (k p k' p' : ℕ) (x : T) → st ≡ Queued k p → st ≡ Turn k' p' x → ⊥
  queued_has_no_turn st k p k' p' x e e' = subst NoTurn (sym e ∙ e') tt
    where
      NoTurn : Stage T → Type 0
      NoTurn Unqueued = Unit {0}
      NoTurn (Queued j q) = Unit {0}
      NoTurn (Turn j q y) = ⊥

  pub idle_has_no_turn : (st : Stage T) (k p : ℕ) (x : T) → st ≡ Unqueued → st ≡ Turn k p x → ⊥
  idle_has_no_turn st k p x e e' = idle_has_none k p st e (subst (HasTicket k p) (sym e') (refl, refl))

  pub queued_ticket : (st : Stage T) (k p k' p' : ℕ) → st ≡ Queued k p → HasTicket k' p' st → (k ≡ k') × (p ≡ p')
  queued_ticket st k p k' p' e h = subst (HasTicket k' p') e h

  pub turn_ticket : (st : Stage T) (k p k' p' : ℕ) (x : T) → st ≡ Turn k p x → HasTicket k' p' st → (k ≡ k') × (p ≡ p')
  turn_ticket st k p k' p' x e h = subst (HasTicket k' p') e h

module _ {T Q A : Type 0} (callers : ℕ) (opening : List T) where
  module _ (a : Account T Q A) (j : ℕ) where
    pub drawn_ticket : (shut : List T) (k p : ℕ) (st : Stage T) → Knows callers opening a j shut st → HasTicket k p st
        → IsDrawn callers opening a j shut k p
    drawn_ticket shut k p Unqueued kn h = absurd h
    drawn_ticket shut k p (Queued i q) kn h =
        subst (λ (n : ℕ × ℕ). IsDrawn callers opening a j shut n.0 n.1) (λ t. (h.0 t, h.1 t)) kn
    drawn_ticket shut k p (Turn i q x) kn h =
        subst (λ (n : ℕ × ℕ). IsDrawn callers opening a j shut n.0 n.1) (λ t. (h.0 t, h.1 t)) kn.0

    -- a seat awaits one turn of a cell
    pub one_ticket : (v : PassView T Q A) (k p q : ℕ) → IsSeat callers opening a j v → Awaits (a.served k) k p v
        → Awaits (a.served k) k q v → p ≡ q
    one_ticket v k p q s x y = ⊎_elim
        (λ (h : HasTicket k p v.stage). ⊎_elim (λ (h' : HasTicket k q v.stage). same_ticket k p q v.stage h h')
        (λ (m : (k < length v.shut) × (q ≡ a.served k)). let d = drawn_ticket v.shut k p v.stage s.stage h in
        let b = d.behind in let i = m.0 in absurd (omega arith)) y.0)
        (λ (m : (k < length v.shut) × (p ≡ a.served k)). ⊎_elim
        (λ (h' : HasTicket k q v.stage). let d = drawn_ticket v.shut k q v.stage s.stage h' in let b = d.behind in
        let i = m.0 in absurd (omega arith))
        (λ (m' : (k < length v.shut) × (q ≡ a.served k)). m.1 ∙ sym m'.1) y.0) x.0

    -- what the seat knows stays so under another account, where its tickets and its turn do
    pub knows_stays : (b : Account T Q A) (shut : List T) (st : Stage T)
        → ((k p : ℕ) → IsDrawn callers opening a j shut k p → IsDrawn callers opening b j shut k p)
        → ((k p : ℕ) (x : T) → IsDrawn callers opening a j shut k p → a.served k ≡ p → get_elem? a.values k ≡ some x
        → (b.served k ≡ p) × (get_elem? b.values k ≡ some x))
        → Knows callers opening a j shut st → Knows callers opening b j shut st
    knows_stays b shut Unqueued tickets turn kn = tt
    knows_stays b shut (Queued k p) tickets turn kn = tickets k p kn
    knows_stays b shut (Turn k p x) tickets turn kn = let t = turn k p x kn.0 kn.1 kn.2 in (tickets k p kn.0, t.0, t.1)

first_owned : {Q A : Type 0} (callers : ℕ) (log : List (Event Q A)) (owner : ℕ → ℕ) (j low : ℕ) (hs : List (Hand Q A))
    → hs ≢ [] → Owns callers log owner j low hs
    → (first_number hs < callers) × (owner (first_number hs) ≡ j)
first_owned callers log owner j low [] some_hand o = absurd (some_hand refl)
first_owned callers log owner j low (h ∷ hs) some_hand o = (o.0.below, o.0.ours)

module _ {T Q A : Type 0} (step : CellStep T Q A) (fits : CallFit T Q A) (opening : List T) (callers : ℕ)
    (s : State (Lane T) (PassView T Q A)) (a : Account T Q A)
    (r : IsAccount step fits opening callers s a) (k : ℕ) (inside : k < length opening) where
  at_most : (n : ℕ) → a.served k + n ≡ a.drawn k → n ≤ callers
  at_most n whole = pigeons callers n number below apart
    where
      place : (i : ℕ) → i < n → SomeSeat s.views (a.holder k (a.served k + i)) (Awaits (a.served k) k (a.served k + i))
      place i l = r.tickets k (a.served k + i) inside (omega arith) (omega arith)

      seat : (i : ℕ) (l : i < n) → IsSeat callers opening a (a.holder k (a.served k + i)) (place i l).0
      seat i l = r.seats (a.holder k (a.served k + i)) (place i l).0 (place i l).1

      number : (i : ℕ) → i < n → ℕ
      number i l = first_number (place i l).0.hands

      owned : (i : ℕ) (l : i < n) → (number i l < callers) × (a.owner (number i l) ≡ a.holder k (a.served k + i))
      owned i l = first_owned callers a.log a.owner (a.holder k (a.served k + i)) 0 (place i l).0.hands (place i l).2.1
          (seat i l).hands

      below : (i : ℕ) (l : i < n) → number i l < callers
      below i l = (owned i l).0

      apart : (i j : ℕ) (l : i < n) (m : j < n) → number i l ≡ number j m → i ≡ j
      apart i j l m e =
          let here : a.holder k (a.served k + j) ≡ a.holder k (a.served k + i) = sym (owned j m).1
          ∙ (ap a.owner (sym e) ∙ (owned i l).1) in
          let same : (place j m).0 ≡ (place i l).0 =
          some-injective (place j m).0 (place i l).0
          (sym (place j m).1 ∙ (ap (get_elem? s.views) here ∙ (place i l).1)) in
          let awaits : Awaits (a.served k) k (a.served k + j) (place i l).0 =
          subst (Awaits (a.served k) k (a.served k + j)) same (place j m).2 in
          let t = one_ticket callers opening a (a.holder k (a.served k + i)) (place i l).0 k (a.served k + i)
          (a.served k + j) (seat i l) (place i l).2 awaits in
          omega arith

  pub few_out : a.drawn k ≤ a.served k + callers
  few_out = let le = r.behind k inside in let m = at_most (a.drawn k - a.served k) (omega arith) in omega arith

  -- the turn of a ticket has come where the word says its number
  pub turn_came : (p : ℕ) → a.served k ≤ p → p < a.drawn k → get_or s.words (turn_word k) 0 ≡ p % 2 ^ 64
      → a.served k ≡ p
  turn_came p after before found = let out = few_out in let few = r.few in let w = r.counts.turns k inside in
      one_turn (a.served k) p (2 ^ 64) after (omega arith) (sym w ∙ found)

module _ (cells : ℕ) (words : List ℕ) (served drawn : ℕ → ℕ) (k : ℕ) (inside : k < cells)
    (c : AreCounts cells words served drawn) where
  more_of : (d w : ℕ) → w ≡ d % 2 ^ 64 → (w + 1) % 2 ^ 64 ≡ suc d % 2 ^ 64
  more_of d w e = omega arith

  pub one_more_ticket : AreCounts cells
      (set words (ticket_word k) ((get_or words (ticket_word k) 0 + 1) % 2 ^ 64)) served (put drawn k (suc (drawn k)))
  one_more_ticket = let n : ℕ = (get_or words (ticket_word k) 0 + 1) % 2 ^ 64 in let wide = c.wide in record {
    wide = length-set words (ticket_word k) n ∙ c.wide;
    tickets = λ i l. dite (ℕ_discrete i k)
        (λ e. ap (λ (m : ℕ). get_or (set words (ticket_word k) n) (ticket_word m) 0) e
        ∙ (get_or-set_same words (ticket_word k) n 0 (omega arith)
        ∙ (more_of (drawn k) (get_or words (ticket_word k) 0) (c.tickets k inside)
        ∙ ap (λ (m : ℕ). m % 2 ^ 64) (sym (put_here drawn k i (suc (drawn k)) e)))))
        (λ ne. get_or-set_other words (ticket_word k) (ticket_word i) n 0 (λ e. ne (omega arith))
        ∙ (c.tickets i l ∙ ap (λ (m : ℕ). m % 2 ^ 64) (sym (put_else drawn k i (suc (drawn k)) ne))));
    turns = λ i l. get_or-set_other words (ticket_word k) (turn_word i) n 0 (λ e. omega arith) ∙ c.turns i l;
  }

  pub one_more_turn : AreCounts cells (set words (turn_word k) ((get_or words (turn_word k) 0 + 1) % 2 ^ 64))
      (put served k (suc (served k))) drawn
  one_more_turn = let n : ℕ = (get_or words (turn_word k) 0 + 1) % 2 ^ 64 in let wide = c.wide in record {
    wide = length-set words (turn_word k) n ∙ c.wide;
    tickets = λ i l. get_or-set_other words (turn_word k) (ticket_word i) n 0 (λ e. omega arith) ∙ c.tickets i l;
    turns = λ i l. dite (ℕ_discrete i k)
        (λ e. ap (λ (m : ℕ). get_or (set words (turn_word k) n) (turn_word m) 0) e
        ∙ (get_or-set_same words (turn_word k) n 0 (omega arith)
        ∙ (more_of (served k) (get_or words (turn_word k) 0) (c.turns k inside)
        ∙ ap (λ (m : ℕ). m % 2 ^ 64) (sym (put_here served k i (suc (served k)) e)))))
        (λ ne. get_or-set_other words (turn_word k) (turn_word i) n 0 (λ e. ne (omega arith))
        ∙ (c.turns i l ∙ ap (λ (m : ℕ). m % 2 ^ 64) (sym (put_else served k i (suc (served k)) ne))));
  }
