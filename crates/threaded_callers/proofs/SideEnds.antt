-- How main's side ends: the sessions first, then the flusher, and then main.
use Rattle.std.proofs.Common.{◌≡◌, ℕ, ◌+◌, ◌<◌, Bool, List, [], ◌∷◌, length, slice_index_or, sym, refl, ◌∙◌, subst, inl}
use mathlib.Core.List.{IsPrefix}
use Rattle.board_callers.specs.Callers.{first_calls}
use Rattle.turn_board.proofs.Logs.{prefix_of_itself}
use Rattle.turn_board.specs.Hands.{HasCallsOf, first_number}
use Rattle.turn_board.specs.Passes.{callers_of, opening_of}
use Rattle.turn_board.specs.declared.board.Board.{Board}
use Rattle.turn_board.specs.declared.cells.Cells.{Ghosts}
use Rattle.turn_board.specs.declared.history.Event.{Event}
use Rattle.turn_board.specs.declared.history.Hand.{Hand}
use Rattle.threaded_callers.specs.Ends.{AmongCallers, Ends, EndsAs, FlusherEnded, FlusherStopped, MadeBy, MainEnded, SessionsEnded, TaskEnds, ToldCalls, WorkDone, WorkersStopped}
use Rattle.threaded_callers.specs.Hands.{AreAmong, IsAmong, KeepsMain, hand}
use Rattle.threaded_callers.specs.Sides.{HasEnded, HasFinished, HaveEnded}
use Rattle.threaded_callers.specs.Tasks.{IsTaskOf, hands_in, others_in, view_in}
use Rattle.threaded_callers.specs.declared.task.Task.{Task}
use Rattle.threaded_callers.proofs.Hands.{calls_among, first_and_others, prefix_then}
use Rattle.threaded_callers.proofs.Tasks.{some_hands}

module _ {C T Q A M : Type 0} {g : Ghosts C T Q A} (b : Board C T Q A) where
  -- At a moment at which main knew all calls of its callers: its own, and those of the others.
  pub known_calls : (m : Task C M T Q A g) (own : List (Event Q A)) (log : List (Event Q A)) → IsTaskOf b m
      → first_number (hands_in m) ≡ 0 → first_calls (hands_in m) ≡ own → HasCallsOf log (hands_in m)
      → HasCallsOf log (hand 0 own ∷ others_in m)
  known_calls m own log of number calls all = subst (λ hs. HasCallsOf log hs)
      (first_and_others (hands_in m) (some_hands b m of) ∙ (λ i. hand (number i) (calls i) ∷ others_in m)) all

module _ {C T Q A W : Type 0} {g : Ghosts C T Q A} (b : Board C T Q A) (done : WorkDone T Q A W) where
  -- What a task came to is told of its caller, once main has taken it in.
  module _ (others : List (Hand Q A)) (log : List (Event Q A)) (all : HasCallsOf log others) (began : Bool) (number : ℕ)
      (before after : Task C W T Q A g) (then : W) (e : TaskEnds done b began number before after)
      (gathered : AreAmong (hands_in after) others) (same : then ≡ after.work) where
    among : IsAmong others (hand number e.own)
    among = gathered (hand number e.own)
        (subst (λ hs. IsAmong hs (hand number e.own)) (sym e.held.hands_are) (inl refl))

    pub task_told : Ends done (opening_of b) (MadeBy (AmongCallers others) log) began number before.work then
    task_told = record {
      own = e.own;
      tells = (among, calls_among log others (hand number e.own) all among);
      ends = subst (λ (w : W). EndsAs done (opening_of b) began number e.own before.work w) (sym same) e.ends;
    }

module _ {T Q A W : Type 0} (done : WorkDone T Q A W) (opening : List T) (told told' : ToldCalls Q A)
    (to : (n : ℕ) (own : List (Event Q A)) → told n own → told' n own) where
  -- What was told is told otherwise.
  pub ends_told : (began : Bool) (number : ℕ) (before after : W) → Ends done opening told began number before after
      → Ends done opening told' began number before after
  ends_told began number before after e = record { own = e.own; tells = to number e.own e.tells; ends = e.ends }

module _ {C T Q A W : Type 0} {g : Ghosts C T Q A} (done : WorkDone T Q A W) (opening : List T) (told told' : ToldCalls Q A)
    (to : (n : ℕ) (own : List (Event Q A)) → told n own → told' n own) where
  pub sessions_told : (began : Bool) (s s' : List (Task C W T Q A g)) (now now' : List (Event Q A)) → IsPrefix now now'
      → SessionsEnded done opening told began s s' now → SessionsEnded done opening told' began s s' now'
  sessions_told began s s' now now' grows e = record {
    moment = e.moment;
    goes_on = prefix_then e.moment now now' e.goes_on grows;
    main_waits = e.main_waits;
    each = λ k d lt. ends_told done opening (MadeBy told e.moment) (MadeBy told' e.moment)
        (λ n own t. (to n own t.0, t.1)) began (1 + k) (slice_index_or s k d).work (slice_index_or s' k d).work
        (e.each k d lt);
  }

module _ {C T Q A M W : Type 0} {g : Ghosts C T Q A} (b : Board C T Q A) (done : WorkDone T Q A W) (began : Bool)
    (m m1 m2 : Task C M T Q A g) (s0 s1 s2 : List (Task C W T Q A g)) where
  pub sessions_end : first_number (hands_in m) ≡ 0 → first_calls (hands_in m) ≡ []
      → HasCallsOf (view_in m).past (hands_in m) → KeepsMain (view_in m) (view_in m1) → IsTaskOf b m1
      → length s1 ≡ length s0
      → ((k : ℕ) (d : Task C W T Q A g) → k < length s0
      → TaskEnds done b began (1 + k) (slice_index_or s0 k d) (slice_index_or s1 k d))
      → ((k : ℕ) (d : Task C W T Q A g) → k < length s1 → AreAmong (hands_in (slice_index_or s1 k d)) (others_in m1))
      → ((k : ℕ) (d : Task C W T Q A g) → k < length s1 → (slice_index_or s2 k d).work ≡ (slice_index_or s1 k d).work)
      → others_in m2 ≡ others_in m1 → IsPrefix (view_in m1).past (view_in m2).past
      → SessionsEnded done (opening_of b) (AmongCallers (others_in m2)) began s0 s2 (view_in m2).past
  sessions_end number calls fresh keeps of long ends gathered works others grows =
      let all = known_calls b m1 [] (view_in m1).past of (keeps.number ∙ number) (keeps.calls ∙ calls) (keeps.own fresh) in
      sessions_told done (opening_of b) (AmongCallers (others_in m1)) (AmongCallers (others_in m2))
      (λ n own t. subst (λ hs. IsAmong hs (hand n own)) (sym others) t) began s0 s2 (view_in m1).past (view_in m2).past grows
      (record {
        moment = (view_in m1).past;
        goes_on = prefix_of_itself (view_in m1).past;
        main_waits = all.0;
        each = λ k d lt. let lt1 : k < length s1 = subst (λ n. k < n) (sym long) lt in
            task_told b done (others_in m1) (view_in m1).past all.1 began (1 + k) (slice_index_or s0 k d)
            (slice_index_or s1 k d) (slice_index_or s2 k d).work (ends k d lt) (gathered k d lt1) (works k d lt1);
      })

module _ {C T Q A M W F : Type 0} {g : Ghosts C T Q A} (b : Board C T Q A) (stopped : FlusherStopped T Q A M)
    (done : WorkDone T Q A W) (flusher_done : WorkDone T Q A F) (began flushed : Bool) (number : ℕ)
    (m m1 m2 : Task C M T Q A g) (s s' : List (Task C W T Q A g)) (f f1 f2 : Task C F T Q A g) where
  pub flusher_ends : HaveEnded stopped done b began m m1 s s' → TaskEnds flusher_done b flushed number f f1
      → IsTaskOf b m2 → KeepsMain (view_in m1) (view_in m2) → HasCallsOf (view_in m2).past (hands_in m2)
      → AreAmong (hands_in f1) (others_in m2) → m2.work ≡ m1.work → f2.work ≡ f1.work
      → HasEnded stopped done flusher_done b began flushed number m m2 s s' f f2
  flusher_ends p e of keeps own gathered work same =
      let all = known_calls b m2 (first_calls (hands_in m2)) (view_in m2).past of (keeps.number ∙ p.number) refl own in
      record {
        of = of;
        number_is = keeps.number ∙ p.number;
        ended = record {
          moment = (view_in m2).past;
          goes_on = prefix_of_itself (view_in m2).past;
          main_waits = all.0;
          stops = subst (λ (w : M). stopped m.work w (callers_of b) (opening_of b) (first_calls (hands_in m2))) (sym work)
              (subst (λ (es : List (Event Q A)). stopped m.work m1.work (callers_of b) (opening_of b) es)
              (sym keeps.calls) p.work);
          played = sessions_told done (opening_of b) (AmongCallers (others_in m1)) (AmongCallers (others_in m2))
              (λ n own t. keeps.others (hand n own) t) began s s' (view_in m1).past (view_in m2).past keeps.past p.played;
          flushes = task_told b flusher_done (others_in m2) (view_in m2).past all.1 flushed number f f1 f2.work e gathered
              same;
        };
      }

module _ {C T Q A M W F : Type 0} {g : Ghosts C T Q A} (stopped : FlusherStopped T Q A M)
    (done : WorkDone T Q A W) (flusher_done : WorkDone T Q A F) (callers : ℕ) (opening : List T)
    (told told' : ToldCalls Q A) (to : (n : ℕ) (own : List (Event Q A)) → told n own → told' n own)
    (began flushed : Bool) (number : ℕ) (m m' : M) (s s' : List (Task C W T Q A g)) (f f' : F) where
  pub flusher_told : (now now' own : List (Event Q A)) → IsPrefix now now'
      → FlusherEnded stopped done flusher_done callers opening told began flushed number m m' s s' f f' now own
      → FlusherEnded stopped done flusher_done callers opening told' began flushed number m m' s s' f f' now' own
  flusher_told now now' own grows e = record {
    moment = e.moment;
    goes_on = prefix_then e.moment now now' e.goes_on grows;
    main_waits = e.main_waits;
    stops = e.stops;
    played = sessions_told done opening told told' to began s s' e.moment e.moment (prefix_of_itself e.moment) e.played;
    flushes = ends_told flusher_done opening (MadeBy told e.moment) (MadeBy told' e.moment)
        (λ n own t. (to n own t.0, t.1)) flushed number f f' e.flushes;
  }

module _ {C T Q A M W F : Type 0} {g : Ghosts C T Q A} (stopped : FlusherStopped T Q A M)
    (ended : WorkersStopped T Q A M) (done : WorkDone T Q A W) (flusher_done : WorkDone T Q A F) (callers : ℕ)
    (opening : List T) (told told' : ToldCalls Q A)
    (to : (n : ℕ) (own : List (Event Q A)) → told n own → told' n own) (began flushed : Bool) (number : ℕ) (m m' : M)
    (s s' : List (Task C W T Q A g)) (f f' : F) where
  pub main_told : (last : M) (now now' own own' : List (Event Q A)) → last ≡ m' → IsPrefix now now' → own ≡ own'
      → MainEnded stopped ended done flusher_done callers opening told began flushed number m m' s s' f f' now own
      → MainEnded stopped ended done flusher_done callers opening told' began flushed number m last s s' f f' now' own'
  main_told last now now' own own' is grows same e = record {
    middle = e.middle;
    stopping = e.stopping;
    before = flusher_told stopped done flusher_done callers opening told told' to began flushed number m e.middle s s' f f'
        now now' e.stopping grows e.before;
    ends = subst (λ (w : M). ended e.middle w opening began e.stopping own') (sym is)
        (subst (λ (es : List (Event Q A)). ended e.middle m' opening began e.stopping es) same e.ends);
  }

module _ {C T Q A M W F : Type 0} {g : Ghosts C T Q A} (b : Board C T Q A) (stopped : FlusherStopped T Q A M)
    (ended : WorkersStopped T Q A M) (done : WorkDone T Q A W) (flusher_done : WorkDone T Q A F) (began flushed : Bool)
    (number : ℕ) (m m1 m2 : Task C M T Q A g) (s s' : List (Task C W T Q A g)) (f f' : Task C F T Q A g) where
  pub main_ends : HasEnded stopped done flusher_done b began flushed number m m1 s s' f f' → IsTaskOf b m2
      → first_number (hands_in m2) ≡ 0
      → ended m1.work m2.work (opening_of b) began (first_calls (hands_in m1)) (first_calls (hands_in m2))
      → others_in m2 ≡ others_in m1 → IsPrefix (view_in m1).past (view_in m2).past
      → HasFinished stopped ended done flusher_done b began flushed number m m2 s s' f f'
  main_ends p of number_is ends others grows = record {
    of = of;
    number_is = number_is;
    play = record {
      middle = m1.work;
      stopping = first_calls (hands_in m1);
      before = flusher_told stopped done flusher_done (callers_of b) (opening_of b) (AmongCallers (others_in m1))
          (AmongCallers (others_in m2)) (λ n own t. subst (λ hs. IsAmong hs (hand n own)) (sym others) t) began flushed
          number m.work m1.work s s' f.work f'.work (view_in m1).past (view_in m2).past (first_calls (hands_in m1)) grows
          p.ended;
      ends = ends;
    };
  }
