-- What hangs on one caller's entries alone is the same over these entries.
use Rattle.std.proofs.Common.{◌≡◌, ◌∙◌, ℕ, ◌==◌, eqb, Bool, true, false, true≢false, ◌&&◌, cond, List, [], ◌∷◌, refl, sym, ap, eqb-true, if◌then◌else◌}
use Rattle.std.proofs.lemmas.Bool.{eqb-false}
use Rattle.turn_board.specs.declared.history.Event.{Event}
use Rattle.turn_board.specs.History.{of_caller}
use Rattle.core_events.specs.Cells.{worker_after, worker_of}
use Rattle.core_events.specs.Clients.{calls_of}
use Rattle.core_events.specs.Events.{Opening, flush_mail, OpenWrite, OpenRead, Commit, AbortEnd, CloseRead, TakeNote, CreateCube, FindCube, CubesFrom, CountersNow, RoundOpen, RoundClose, StoreFailed, ClientCall, OnDesk, OnNames, Post, Fetch, CloseMail, NoChange, WorkerMove, Take, NoJob, Work, Reply, CoreEvent, By, At}
use Rattle.core_events.specs.Fitting.{RoundProgress, progress_after_call, progress_after_move, round_progress}
use Rattle.cube_core.specs.Links.{EventOf, AreEventsAfter, AreEventsOf, is_call_of, is_move_at, is_of_rounds, MakesCalls, MakesMoves, MakesRounds, IsToldByCaller, HangsOn, HasOwnEvents}

module _ {Q A X : Type 0} (event : EventOf Q A) (caller : ℕ) (told : List CoreEvent → X) (by : IsToldByCaller event caller told)
    (hangs : HangsOn event caller told) where
  -- The events of the caller's own entries, behind events of which the same is told.
  record OwnAfter (earlier : List CoreEvent) (log : List (Event Q A)) (es : List CoreEvent) : Type 0 where
    own : List CoreEvent
    events : AreEventsAfter event earlier log own
    same : told es ≡ told own

  one-entry : (b : Bool) (e : Event Q A) (x : CoreEvent) (log : List (Event Q A)) (earlier fs es : List CoreEvent) → eqb e.caller caller ≡ b
      → told earlier ≡ told fs → event earlier e x
      → ((gs : List CoreEvent) → told (x ∷ earlier) ≡ told gs → OwnAfter gs (of_caller caller log) es)
      → OwnAfter fs (cond b (e ∷ of_caller caller log) (of_caller caller log)) es
  one-entry true e x log earlier fs es mine p is rest =
      let after = rest (x ∷ fs) (by.next x earlier fs p) in
      record { own = after.own; events = (x, hangs earlier fs e x (eqb-true e.caller caller mine) p is, after.events); same = after.same }
  one-entry false e x log earlier fs es other p is rest = rest fs (by.others earlier e x (eqb-false e.caller caller other) is ∙ p)

  own-after : (log : List (Event Q A)) (earlier fs es : List CoreEvent) → told earlier ≡ told fs → AreEventsAfter event earlier log es
      → OwnAfter fs (of_caller caller log) es
  own-after [] earlier fs es p is = record { own = fs; events = refl; same = ap told (sym is) ∙ p }
  own-after (e ∷ log) earlier fs es p is =
      one-entry (eqb e.caller caller) e is.0 log earlier fs es refl p is.1 (λ gs q. own-after log (is.0 ∷ earlier) gs es q is.2)

  pub own-part : (log : List (Event Q A)) (es : List CoreEvent) → AreEventsOf event log es → HasOwnEvents event caller told log es
  own-part log es is =
      let after = own-after log [] [] es refl is in record { own = after.own; events = after.events; same = after.same }

-- The calls of a client.

calls-same : (client : ℕ) (x : CoreEvent) (es fs : List CoreEvent) → calls_of client es ≡ calls_of client fs → calls_of client (x ∷ es) ≡ calls_of client (x ∷ fs)
calls-same client (By b call) es fs p = ap (λ (l : List ClientCall). if b == client then call ∷ l else l) p
calls-same client (At mail move) es fs p = p

calls-skip : (client : ℕ) (x : CoreEvent) (es : List CoreEvent) → is_call_of client x ≡ false → calls_of client (x ∷ es) ≡ calls_of client es
calls-skip client (By b call) es other = ap (λ (c : Bool). if c then call ∷ calls_of client es else calls_of client es) other
calls-skip client (At mail move) es other = refl

module _ {Q A : Type 0} where
  pub told-calls : (event : EventOf Q A) (caller client : ℕ) → MakesCalls event caller client → IsToldByCaller event caller (calls_of client)
  told-calls event caller client makes =
      record { next = calls-same client; others = λ es e x other is. calls-skip client x es (makes es e x other is) }

-- What a worker does.

moves-same : (mail : ℕ) (x : CoreEvent) (es fs : List CoreEvent) → worker_of mail es ≡ worker_of mail fs → worker_of mail (x ∷ es) ≡ worker_of mail (x ∷ fs)
moves-same mail (By b call) es fs p = p
moves-same mail (At other move) es fs p = ap (worker_after (other == mail) move) p

moves-skip : (mail : ℕ) (x : CoreEvent) (es : List CoreEvent) → is_move_at mail x ≡ false → worker_of mail (x ∷ es) ≡ worker_of mail es
moves-skip mail (By b call) es other = refl
moves-skip mail (At m move) es other = ap (λ (c : Bool). worker_after c move (worker_of mail es)) other

module _ {Q A : Type 0} where
  pub told-moves : (event : EventOf Q A) (caller mail : ℕ) → MakesMoves event caller mail → IsToldByCaller event caller (worker_of mail)
  told-moves event caller mail makes =
      record { next = moves-same mail; others = λ es e x other is. moves-skip mail x es (makes es e x other is) }

-- How far the flusher's rounds have come.

abbrev is_take : WorkerMove → Bool
is_take (Take client job) = true
is_take move = false

rounds-same : (o : Opening) (x : CoreEvent) (es fs : List CoreEvent) → round_progress o es ≡ round_progress o fs
    → round_progress o (x ∷ es) ≡ round_progress o (x ∷ fs)
rounds-same o (By b call) es fs p = ap (progress_after_call call) p
rounds-same o (At mail move) es fs p = ap (progress_after_move (mail == flush_mail o) move) p

move-skip : (here : Bool) (move : WorkerMove) (progress : RoundProgress) → (is_take move && here) ≡ false
    → progress_after_move here move progress ≡ progress
move-skip true (Take client job) progress other = absurd (true≢false other)
move-skip true (NoJob closed) progress other = refl
move-skip true (Work job answer) progress other = refl
move-skip true (Reply client answer) progress other = refl
move-skip false (Take client job) progress other = refl
move-skip false (NoJob closed) progress other = refl
move-skip false (Work job answer) progress other = refl
move-skip false (Reply client answer) progress other = refl

rounds-skip : (o : Opening) (x : CoreEvent) (es : List CoreEvent) → is_of_rounds o x ≡ false → round_progress o (x ∷ es) ≡ round_progress o es
rounds-skip o (By b (OnDesk (RoundOpen answer))) es other = absurd (true≢false other)
rounds-skip o (By b (OnDesk (RoundClose epoch end))) es other = absurd (true≢false other)
rounds-skip o (By b (OnDesk (OpenWrite statement epoch deps))) es other = refl
rounds-skip o (By b (OnDesk (OpenRead number statement epoch))) es other = refl
rounds-skip o (By b (OnDesk (Commit statement epoch))) es other = refl
rounds-skip o (By b (OnDesk (AbortEnd statement epoch cause))) es other = refl
rounds-skip o (By b (OnDesk (CloseRead number statement))) es other = refl
rounds-skip o (By b (OnDesk (TakeNote note counters))) es other = refl
rounds-skip o (By b (OnDesk (CreateCube statement decl answer))) es other = refl
rounds-skip o (By b (OnDesk (FindCube statement name answer))) es other = refl
rounds-skip o (By b (OnDesk (CubesFrom place cubes))) es other = refl
rounds-skip o (By b (OnDesk (CountersNow counters))) es other = refl
rounds-skip o (By b (OnDesk (StoreFailed failed))) es other = refl
rounds-skip o (By b (OnNames call)) es other = refl
rounds-skip o (By b (Post mail job)) es other = refl
rounds-skip o (By b (Fetch mail answer)) es other = refl
rounds-skip o (By b (CloseMail mail)) es other = refl
rounds-skip o (By b NoChange) es other = refl
rounds-skip o (At mail (Take client job)) es other = move-skip (mail == flush_mail o) (Take client job) (round_progress o es) other
rounds-skip o (At mail (NoJob closed)) es other = move-skip (mail == flush_mail o) (NoJob closed) (round_progress o es) refl
rounds-skip o (At mail (Work job answer)) es other = move-skip (mail == flush_mail o) (Work job answer) (round_progress o es) refl
rounds-skip o (At mail (Reply client answer)) es other = move-skip (mail == flush_mail o) (Reply client answer) (round_progress o es) refl

module _ {Q A : Type 0} where
  pub told-rounds : (o : Opening) (event : EventOf Q A) (caller : ℕ) → MakesRounds o event caller → IsToldByCaller event caller (round_progress o)
  told-rounds o event caller makes =
      record { next = rounds-same o; others = λ es e x other is. rounds-skip o x es (makes es e x other is) }
