-- How all tasks come to their callers, and what the history of the board has of them in the end.
use Rattle.std.proofs.Common.{◌≡◌, ℕ, Some, ◌+◌, ◌-◌, ◌<◌, ◌≤◌, Bool, true, List, [], ◌∷◌, length, slice_index_or, take, drop, sym, refl, ap, ◌∙◌, subst, inl, arith}
use mathlib.Core.List.{IsPrefix}
use Rattle.board_callers.specs.Callers.{first_calls}
use Rattle.turn_board.specs.Hands.{HasCallsOf, first_number, new_hands}
use Rattle.turn_board.specs.History.{CallFit, CellStep, of_caller}
use Rattle.turn_board.specs.Calls.{IsShut}
use Rattle.turn_board.specs.Passes.{IsPassOf, callers_of, hands_of, opening_of, view_of}
use Rattle.turn_board.specs.declared.pass.Pass.{Pass}
use Rattle.turn_board.specs.declared.board.Board.{Board}
use Rattle.turn_board.specs.declared.cells.Cells.{Ghosts}
use Rattle.turn_board.specs.declared.history.Event.{Event}
use Rattle.turn_board.specs.declared.history.Hand.{Hand}
use Rattle.turn_board.specs.declared.view.PassView.{PassView}
use Rattle.threaded_callers.specs.Ends.{AllEnd, AmongCallers, EndsAs, FlusherEnded, FlusherStopped, InHistory, IsHistoryTo, MadeBy, MainEnded, ToldCalls, WorkDone, WorkersStopped}
use Rattle.threaded_callers.specs.Hands.{AreAmong, IsAmong, KeepsMain, hand}
use Rattle.threaded_callers.specs.Sides.{HasFinished, MayPlay}
use Rattle.threaded_callers.specs.Tasks.{AreReady, HasHands, IsReady, IsTaskOf, IsWorked, hands_in, others_in, view_in}
use Rattle.threaded_callers.specs.declared.task.Task.{Task}
use Rattle.threaded_callers.proofs.Hands.{calls_among, new_first, new_length, new_others, prefix_then}
use Rattle.threaded_callers.proofs.Tasks.{view_is}
use Rattle.threaded_callers.proofs.SideEnds.{known_calls, main_told}

module _ {Q A : Type 0} where
  -- The caller that a task gets of new ones.
  pub share_is : (from count k : ℕ) → k < count
      → take 1 (drop k (new_hands {Q = Q} {A = A} from count)) ≡ hand (from + k) [] ∷ []
  share_is from count k lt = ap (λ (hs : List (Hand Q A)). take 1 hs) (new_others k from count (omega arith))
      ∙ new_first (from + k) (count - k) (omega arith)

module _ {Q A : Type 0} where
  -- The callers that are left of new ones.
  pub left_new : (from count n : ℕ) (hs hs' : List (Hand Q A)) → hs ≡ new_hands from count → hs' ≡ drop n hs → n ≤ count
      → hs' ≡ new_hands (from + n) (count - n)
  left_new from count n hs hs' new is le =
      is ∙ ap (λ (l : List (Hand Q A)). drop n l) new ∙ new_others n from count le

  pub long_new : (from count : ℕ) (hs : List (Hand Q A)) → hs ≡ new_hands from count → length hs ≡ count
  long_new from count hs new = ap (λ (l : List (Hand Q A)). length l) new ∙ new_length Q A from count

module _ {C T Q A M W : Type 0} {g : Ghosts C T Q A} (b : Board C T Q A) (main_may : M → ℕ → List T → Type 0)
    (session_may : W → ℕ → List T → ℕ → Type 0) where
  -- Main that got the first caller may begin.
  pub may_play : (m m1 : Task C M T Q A g) (p : Pass C T Q A g) (sessions : List (Task C W T Q A g)) → m1.pass ≡ Some p
      → IsPassOf b p → hands_of p ≡ hand 0 [] ∷ [] → (view_of p).past ≡ [] → m1.work ≡ m.work
      → main_may m.work (callers_of b) (opening_of b) → AreReady session_may b 1 sessions
      → MayPlay main_may session_may b m1 sessions
  may_play m m1 p sessions is of hands past work begins ready =
      let view = view_is m1 p is in
      let hands_then : hands_in m1 ≡ hand 0 [] ∷ [] = ap (λ (v : PassView T Q A). v.hands) view ∙ hands in
      let past_then : (view_in m1).past ≡ [] = ap (λ (v : PassView T Q A). v.past) view ∙ past in
      record {
        first = record {
          of = record { pass = p; is = is; of = of };
          number = ap (λ (hs : List (Hand Q A)). first_number hs) hands_then;
          calls = ap (λ (hs : List (Hand Q A)). first_calls hs) hands_then;
        };
        fresh = subst (λ (log : List (Event Q A)). HasCallsOf log (hands_in m1)) (sym past_then)
            (subst (λ (hs : List (Hand Q A)). HasCallsOf [] hs) (sym hands_then) (refl, tt));
        may_begin = subst (λ (w : M). main_may w (callers_of b) (opening_of b)) (sym work) begins;
        ready = ready;
      }

module _ {C T Q A W : Type 0} {g : Ghosts C T Q A} (b : Board C T Q A) (may : W → ℕ → List T → ℕ → Type 0) where
  -- So may a task that got one of them.
  pub ready_one : (number : ℕ) (f f1 : Task C W T Q A g) (p : Pass C T Q A g) → f1.pass ≡ Some p → IsPassOf b p
      → hands_of p ≡ hand number [] ∷ [] → f1.work ≡ f.work → may f.work (callers_of b) (opening_of b) number
      → IsReady may b number f1
  ready_one number f f1 p is of hands work begins = record {
    held = record {
      of = record { pass = p; is = is; of = of };
      hands_are = ap (λ (v : PassView T Q A). v.hands) (view_is f1 p is) ∙ hands;
    };
    may_begin = subst (λ (w : W). may w (callers_of b) (opening_of b) number) (sym work) begins;
  }

  -- Tasks that got new callers, from one on, may begin.
  pub ready_all : (from count : ℕ) (hs : List (Hand Q A)) (s s' : List (Task C W T Q A g)) → hs ≡ new_hands from count
      → length s ≤ count → length s' ≡ length s
      → ((k : ℕ) (d : Task C W T Q A g) → k < length s → HasHands b (take 1 (drop k hs)) (slice_index_or s' k d))
      → ((k : ℕ) (d : Task C W T Q A g) → k < length s → (slice_index_or s' k d).work ≡ (slice_index_or s k d).work)
      → ((k : ℕ) (d : Task C W T Q A g) → k < length s
      → may (slice_index_or s k d).work (callers_of b) (opening_of b) (from + k))
      → AreReady may b from s'
  ready_all from count hs s s' new few long given works begins k d lt =
      let lt0 : k < length s = subst (λ n. k < n) long lt in let h = given k d lt0 in
      record {
        held = record {
          of = h.of;
          hands_are = h.hands_are ∙ ap (λ (l : List (Hand Q A)). take 1 (drop k l)) new ∙ share_is from count k (omega arith);
        };
        may_begin = subst (λ (w : W). may w (callers_of b) (opening_of b) (from + k)) (sym (works k d lt0)) (begins k d lt0);
      }

module _ {C T Q A W : Type 0} {g : Ghosts C T Q A} (done : WorkDone T Q A W) (opening : List T) (told : ToldCalls Q A) where
  -- Works ended that were the same before.
  pub all_from : (began : Bool) (from : ℕ) (s s1 s' : List (Task C W T Q A g)) → length s1 ≡ length s
      → ((k : ℕ) (d : Task C W T Q A g) → k < length s → (slice_index_or s1 k d).work ≡ (slice_index_or s k d).work)
      → AllEnd done opening told began from s1 s' → AllEnd done opening told began from s s'
  all_from began from s s1 s' long works all k d lt =
      let e = all k d (subst (λ n. k < n) (sym long) lt) in record {
        own = e.own;
        tells = e.tells;
        ends = subst (λ (w : W). EndsAs done opening began (from + k) e.own w (slice_index_or s' k d).work) (works k d lt)
            e.ends;
      }

module _ {C T Q A M W F : Type 0} {g : Ghosts C T Q A} (stopped : FlusherStopped T Q A M)
    (ended : WorkersStopped T Q A M) (done : WorkDone T Q A W) (flusher_done : WorkDone T Q A F) (callers : ℕ)
    (opening : List T) (told : ToldCalls Q A) (began flushed : Bool) (number : ℕ) (s s1 s' : List (Task C W T Q A g)) where
  flusher_from : (m m1 m' : M) (f f1 f' : F) (now own : List (Event Q A)) → m1 ≡ m → f1 ≡ f → length s1 ≡ length s
      → ((k : ℕ) (d : Task C W T Q A g) → k < length s → (slice_index_or s1 k d).work ≡ (slice_index_or s k d).work)
      → FlusherEnded stopped done flusher_done callers opening told began flushed number m1 m' s1 s' f1 f' now own
      → FlusherEnded stopped done flusher_done callers opening told began flushed number m m' s s' f f' now own
  flusher_from m m1 m' f f1 f' now own main flusher long works e = record {
    moment = e.moment;
    goes_on = e.goes_on;
    main_waits = e.main_waits;
    stops = subst (λ (w : M). stopped w m' callers opening own) main e.stops;
    played = record {
      moment = e.played.moment;
      goes_on = e.played.goes_on;
      main_waits = e.played.main_waits;
      each = all_from done opening (MadeBy told e.played.moment) began 1 s s1 s' long works e.played.each;
    };
    flushes = record {
      own = e.flushes.own;
      tells = e.flushes.tells;
      ends = subst (λ (w : F). EndsAs flusher_done opening flushed number e.flushes.own w f') flusher e.flushes.ends;
    };
  }

  pub main_from : (m m1 m' : M) (f f1 f' : F) (now own : List (Event Q A)) → m1 ≡ m → f1 ≡ f → length s1 ≡ length s
      → ((k : ℕ) (d : Task C W T Q A g) → k < length s → (slice_index_or s1 k d).work ≡ (slice_index_or s k d).work)
      → MainEnded stopped ended done flusher_done callers opening told began flushed number m1 m' s1 s' f1 f' now own
      → MainEnded stopped ended done flusher_done callers opening told began flushed number m m' s s' f f' now own
  main_from m m1 m' f f1 f' now own main flusher long works e = record {
    middle = e.middle;
    stopping = e.stopping;
    before = flusher_from m m1 e.middle f f1 f' now e.stopping main flusher long works e.before;
    ends = e.ends;
  }

-- The board is shut by main's pass.
module _ {C T Q A M : Type 0} {g : Ghosts C T Q A} (b : Board C T Q A) (step : CellStep T Q A) (fits : CallFit T Q A)
    (m m1 : Task C M T Q A g) (v : PassView T Q A) (cells : List T) (shut : IsShut step fits (callers_of b) (opening_of b) v cells)
    (view : view_in m1 ≡ v) (of : IsTaskOf b m1) (main : first_number (hands_in m) ≡ 0)
    (keeps : KeepsMain (view_in m) (view_in m1)) where
  pub history : IsHistoryTo step fits (callers_of b) (opening_of b) cells shut.log
  history = record { long = shut.long; fitting = shut.fitting; leads = shut.leads; others = shut.others }

  all_calls : HasCallsOf shut.log (hand 0 (first_calls (hands_in m1)) ∷ others_in m1)
  all_calls = known_calls b m1 (first_calls (hands_in m1)) shut.log of (keeps.number ∙ main) refl
      (subst (λ (u : PassView T Q A). HasCallsOf shut.log u.hands) (sym view) shut.own)

  pub in_history : (n : ℕ) (own : List (Event Q A)) → AmongCallers (others_in m1) n own → InHistory shut.log n own
  in_history n own among = calls_among shut.log (others_in m1) (hand n own) all_calls.1 among

  grows : IsPrefix (view_in m).past shut.log
  grows = prefix_then (view_in m).past (view_in m1).past shut.log keeps.past
      (subst (λ (u : PassView T Q A). IsPrefix u.past shut.log) (sym view) shut.past)

  module _ {W F : Type 0} (stopped : FlusherStopped T Q A M) (ended : WorkersStopped T Q A M)
      (done : WorkDone T Q A W) (flusher_done : WorkDone T Q A F) (began flushed : Bool) (number : ℕ)
      (m0 : Task C M T Q A g) (s s' : List (Task C W T Q A g)) (f f' : Task C F T Q A g) (last : M) where
    pub main_shut : HasFinished stopped ended done flusher_done b began flushed number m0 m s s' f f' → last ≡ m.work
        → MainEnded stopped ended done flusher_done (callers_of b) (opening_of b) (InHistory shut.log) began flushed number
        m0.work last s s' f.work f'.work shut.log (of_caller 0 shut.log)
    main_shut p is = main_told stopped ended done flusher_done (callers_of b) (opening_of b)
        (AmongCallers (others_in m)) (InHistory shut.log) (λ n own t. in_history n own (keeps.others (hand n own) t)) began
        flushed number m0.work m.work s s' f.work f'.work last (view_in m).past shut.log (first_calls (hands_in m))
        (of_caller 0 shut.log) is grows (sym keeps.calls ∙ sym all_calls.0) p.play

  module _ {K : Type 0} (may : K → ℕ → List T → ℕ → Type 0) (done : WorkDone T Q A K) (from : ℕ)
      (w1 w2 w3 : List (Task C K T Q A g)) where
    pub workers_shut : AreReady may b from w1 → length w2 ≡ length w1
        → ((k : ℕ) (d : Task C K T Q A g) → k < length w1
        → IsWorked done b (slice_index_or w1 k d) (slice_index_or w2 k d))
        → ((k : ℕ) (d : Task C K T Q A g) → k < length w2 → (slice_index_or w3 k d).work ≡ (slice_index_or w2 k d).work)
        → ((k : ℕ) (d : Task C K T Q A g) → k < length w2 → AreAmong (hands_in (slice_index_or w2 k d)) (others_in m1))
        → AllEnd done (opening_of b) (InHistory shut.log) true from w1 w3
    workers_shut ready long worked works gathered k d lt =
        let e = worked k d lt (from + k) (ready k d lt).held in
        let lt2 : k < length w2 = subst (λ n. k < n) (sym long) lt in record {
          own = e.own;
          tells = in_history (from + k) e.own (gathered k d lt2 (hand (from + k) e.own)
              (subst (λ (hs : List (Hand Q A)). IsAmong hs (hand (from + k) e.own)) (sym e.held.hands_are) (inl refl)));
          ends = subst (λ (w : K). done (slice_index_or w1 k d).work w (opening_of b) (from + k) e.own) (sym (works k d lt2))
              e.work;
        }
