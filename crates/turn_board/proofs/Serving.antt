-- From one step of a call to the next.
use Rattle.std.proofs.Common.{◌≡◌, ℕ, suc, ◌+◌, ◌<◌, ◌≢◌, List, [], ◌∷◌, ◌++◌, length, map, get_or, sym, refl, ap, ◌∙◌, subst, arith}
use Rattle.atomic_table.specs.Table.{Me, rest}
use Rattle.turn_board.specs.History.{CellStep, CallFit}
use Rattle.turn_board.specs.declared.history.Event.{Event}
use Rattle.turn_board.specs.declared.history.Hand.{Hand}
use Rattle.turn_board.specs.declared.lane.Lane.{Lane}
use Rattle.turn_board.specs.declared.view.Stage.TheVariants.{Queued, Turn}
use Rattle.turn_board.specs.declared.view.PassView.{PassView}
use Rattle.turn_board.specs.Hands.{hand_number, hands_with_call, event_of}
use Rattle.turn_board.specs.Calls.{IsCalled}
use Rattle.turn_board.specs.Seats.{IsUnqueued, IsQueued, IsKeeper, IsKept, TakesTurn, HasStepped, HasAnswered, HasPassedOn}
use Rattle.turn_board.specs.Steps.{view_at_stage, LookedAt, HasCome, ShutAt, HasShut, HasJoined}

module _ {Q A : Type 0} where
  with_made_numbers : (hs : List (Hand Q A)) (e : Event Q A)
      → map hand_number (hands_with_call hs e) ≡ map hand_number hs
  with_made_numbers [] e = refl
  with_made_numbers (h ∷ hs) e = refl

  with_made_length : (hs : List (Hand Q A)) (e : Event Q A) → length (hands_with_call hs e) ≡ length hs
  with_made_length [] e = refl
  with_made_length (h ∷ hs) e = refl

  pub some_left : (hs : List (Hand Q A)) (n : ℕ) → length hs ≡ suc n → hs ≢ []
  some_left hs n long none_left = let z = ap length none_left in omega arith

  pub some_long : (hs : List (Hand Q A)) → hs ≢ [] → 0 < length hs
  some_long [] ne = absurd (ne refl)
  some_long (h ∷ hs) ne = omega arith

  longer_than : (hs gs : List (Hand Q A)) → length hs ≡ length gs → gs ≢ [] → hs ≢ []
  longer_than hs gs same ne none_left = let l = some_long gs ne in let z = ap length none_left in omega arith

-- a seat, with what it knows and the slots that it holds
abbrev M : Type 0 → Type 0 → Type 0 → Type 0
M T Q A = Me (Lane T) (PassView T Q A)

module _ {T : Type 0} where
  one_longer : (l : List T) (x : T) → length (l ++ x ∷ []) ≡ suc (length l)
  one_longer [] x = refl
  one_longer (y ∷ l) x = ap suc (one_longer l x)

  lane_same : (k : ℕ) (a b : Lane T) → ◌≡◌ {A = List (ℕ × Lane T)} ((k, a) ∷ []) ((k, b) ∷ []) → a ≡ b
  lane_same k a b e = ap (λ (l : List (ℕ × Lane T)). (get_or l 0 (k, a)).1) e

module _ {T Q A : Type 0} where
  module _ (can : T → Q → Type 0) (fits : CallFit T Q A) where
    pub takes_turn : (k number r : ℕ) (m0 m m' : M T Q A) → IsUnqueued m0 → IsQueued k number m0 m
        → LookedAt can fits r m m' m.0.stage → r ≡ number → TakesTurn can fits k m0 m'
    takes_turn k number r m0 m m' idle q l is =
        let mq : M T Q A = (view_at_stage m0.0 (Queued k q.ticket), m0.1) in
        let l' : LookedAt can fits r mq m' (Queued k q.ticket) =
        subst (λ (z : M T Q A). LookedAt can fits r z m' z.0.stage) q.seat l in
        let h : HasCome can fits k q.ticket mq m' = l'.0 (is ∙ q.number_is) in record {
          lane = h.lane;
          served = record {
            ticket = q.ticket;
            view = h.view;
            slots = h.slots
                ∙ ap (λ cs. (k, h.lane) ∷ cs) idle.slots;
          };
          may = h.may;
        }

    -- a look that comes too early
    pub still_queued : (k number r : ℕ) (m0 m m' : M T Q A) → IsQueued k number m0 m
        → LookedAt can fits r m m' m.0.stage → r ≢ number → IsQueued k number m0 m'
    still_queued k number r m0 m m' q l ne =
        let mq : M T Q A = (view_at_stage m0.0 (Queued k q.ticket), m0.1) in
        let l' : LookedAt can fits r mq m' (Queued k q.ticket) =
        subst (λ (z : M T Q A). LookedAt can fits r z m' z.0.stage) q.seat l in record {
          ticket = q.ticket;
          number_is = q.number_is;
          seat = l'.1 (λ e. ne (e ∙ sym q.number_is));
        }

  pub keeps_turn : (k number r : ℕ) (m0 m m' : M T Q A) → IsQueued k number m0 m → ShutAt r m m' m.0.stage → r ≡ number
      → IsKept m0 m'
  keeps_turn k number r m0 m m' q l is =
      let mq : M T Q A = (view_at_stage m0.0 (Queued k q.ticket), m0.1) in
      let l' : ShutAt r mq m' (Queued k q.ticket) = subst (λ (z : M T Q A). ShutAt r z m' z.0.stage) q.seat l in
      let h : HasShut k q.ticket mq m' = l'.0 (is ∙ q.number_is) in
      record { value = h.value; seat = λ i. (h.view i, h.slots i) }

  pub still_waits : (k number r : ℕ) (m0 m m' : M T Q A) → IsQueued k number m0 m → ShutAt r m m' m.0.stage → r ≢ number
      → IsQueued k number m0 m'
  still_waits k number r m0 m m' q l ne =
      let mq : M T Q A = (view_at_stage m0.0 (Queued k q.ticket), m0.1) in
      let l' : ShutAt r mq m' (Queued k q.ticket) = subst (λ (z : M T Q A). ShutAt r z m' z.0.stage) q.seat l in
      record {
        ticket = q.ticket;
        number_is = q.number_is;
        seat = l'.1 (λ e. ne (e ∙ sym q.number_is));
      }

  pub queued_stage : (k number : ℕ) (m0 m : M T Q A) → IsQueued k number m0 m → (p : ℕ) × (m.0.stage ≡ Queued k p)
  queued_stage k number m0 m q = (q.ticket, ap (λ (z : M T Q A). z.0.stage) q.seat)

  pub keeper_idle : (m0 m : M T Q A) → IsUnqueued m0 → IsKeeper m0 m → IsUnqueued m
  keeper_idle m0 m idle k = record {
    stage = k.stage;
    slots = k.slots;
    hands = λ e. idle.hands (sym k.hands ∙ e);
    also = k.also ∙ idle.also;
  }

  pub keeper_more : (m0 m m' : M T Q A) → IsKeeper m0 m → IsKept m m' → IsKeeper m0 m'
  keeper_more m0 m m' k h = record {
    stage = ap (λ (z : M T Q A). z.0.stage) h.seat;
    slots = ap (λ (z : M T Q A). z.1) h.seat ∙ k.slots;
    hands = ap (λ (z : M T Q A). z.0.hands) h.seat ∙ k.hands;
    past = ap (λ (z : M T Q A). z.0.past) h.seat ∙ k.past;
    also = ap (λ (z : M T Q A). z.0.also) h.seat ∙ k.also;
    opening = ap (λ (z : M T Q A). z.0.opening) h.seat ∙ k.opening;
  }

  pub shut_more : (m m' : M T Q A) (n : ℕ) → IsKept m m' → length m.0.shut ≡ n → length m'.0.shut ≡ n + 1
  shut_more m m' n h is = let e = ap (λ (z : M T Q A). length z.0.shut) h.seat in let l = one_longer m.0.shut h.value in
      omega arith

  module _ (step : CellStep T Q A) where
    pub answers : (can : T → Q → Type 0) (fits : CallFit T Q A) (k : ℕ) (call : Q) (answer : A) (m0 m1 m2 : M T Q A)
        → TakesTurn can fits k m0 m1 → m2.0 ≡ m1.0 → HasStepped step k call answer m1.1 m2.1
        → HasAnswered step k call answer m2
    answers can fits k call answer m0 m1 m2 t same s = let v = t.served in record {
      ticket = v.ticket;
      value = (t.lane).value;
      lane = s.lane';
      turn = ap (λ (z : PassView T Q A). z.stage) (same ∙ v.view);
      slots = s.after;
      stepped = subst (λ (z : Lane T). step z.value call answer (s.lane').value)
          (lane_same k s.lane t.lane (sym s.before ∙ v.slots)) s.stepped;
    }

    module _ (fits : CallFit T Q A) (k : ℕ) (call : Q) (answer : A) (m0 m2 m3 : M T Q A) (p : ℕ) (x : T)
        (idle : IsUnqueued m0) (turn : m2.0 ≡ view_at_stage m0.0 (Turn k p x))
        (h : HasPassedOn step fits (event_of m2.0.hands k call answer) m2 m3) where
      joined : HasJoined step fits h.made (view_at_stage m0.0 (Turn k p x), m2.1) m3
      joined = subst (λ (v : PassView T Q A). HasJoined step fits h.made (v, m2.1) m3) turn h.joined

      pub called : IsCalled step fits m0.0 k call answer m3.0
      called = let j = joined in record {
        made = h.made;
        is = ap (λ (v : PassView T Q A). event_of v.hands k call answer) (sym turn) ∙ h.is;
        more = j.more;
        past = ap (λ (v : PassView T Q A). v.past) j.view;
        hands = ap (λ (v : PassView T Q A). v.hands) j.view;
        opening = ap (λ (v : PassView T Q A). v.opening) j.view;
        run = j.run;
        own = j.own;
      }

      pub idle_again : (lane : Lane T) → m2.1 ≡ (k, lane) ∷ [] → IsUnqueued m3
      idle_again lane held = let j = joined in record {
        stage = ap (λ (v : PassView T Q A). v.stage) j.view;
        slots = j.slots ∙ ap rest held;
        hands = longer_than m3.0.hands m0.0.hands
            (ap (λ (v : PassView T Q A). length v.hands) j.view ∙ with_made_length m0.0.hands h.made) idle.hands;
        also = ap (λ (v : PassView T Q A). v.also) j.view ∙ idle.also;
      }

      pub same_shut : m3.0.shut ≡ m0.0.shut
      same_shut = let j = joined in ap (λ (v : PassView T Q A). v.shut) j.view

      pub same_numbers : map hand_number m3.0.hands ≡ map hand_number m0.0.hands
      same_numbers = let j = joined in ap (λ (v : PassView T Q A). map hand_number v.hands) j.view
          ∙ with_made_numbers m0.0.hands h.made

      pub same_count : length m3.0.hands ≡ length m0.0.hands
      same_count = let j = joined in ap (λ (v : PassView T Q A). length v.hands) j.view
          ∙ with_made_length m0.0.hands h.made

      pub same_opening : m3.0.opening ≡ m0.0.opening
      same_opening = let j = joined in ap (λ (v : PassView T Q A). v.opening) j.view
