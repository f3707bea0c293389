-- How the entries of a board's history are events of the core, and when cells are linked to it.
-- Source: this project's own; linearizability (Herlihy and Wing, 1990) makes one list of the calls of all threads.
use Rattle.std.specs.Prelude.{◌≡◌, ◌≢◌, ℕ, ◌==◌, Bool, true, false, List, [], ◌∷◌, ◌++◌}
use lib.ListN.{get_elem?}
use mathlib.Core.Option.{some}
use Rattle.turn_board.specs.declared.history.Event.{Event}
use Rattle.turn_board.specs.History.{CellStep, CallFit, of_caller}
use Rattle.core_events.specs.Events.{Opening, IsOpening, flush_mail, RoundOpen, RoundClose, OnDesk, Take, CoreEvent, By, At}
use Rattle.core_events.specs.Runs.{IsCoreRun}

-- Which event an entry may be, behind the events of the entries before it. That may be several: the partial result of
-- a query stands for many lists of rows.
abbrev pub EventOf : Type 0 → Type 0 → Type 1
EventOf Q A = List CoreEvent → Event Q A → CoreEvent → Type 0

module _ {Q A : Type 0} where
  -- Entries, the oldest first, are events behind earlier ones, the newest event first.
  abbrev pub AreEventsAfter : EventOf Q A → List CoreEvent → List (Event Q A) → List CoreEvent → Type 0
  AreEventsAfter event earlier [] es = earlier ≡ es
  AreEventsAfter event earlier (e ∷ log) es =
      (next : CoreEvent) × event earlier e next × AreEventsAfter event (next ∷ earlier) log es

  -- The entries of a history are these events.
  abbrev pub AreEventsOf : EventOf Q A → List (Event Q A) → List CoreEvent → Type 0
  AreEventsOf event log es = AreEventsAfter event [] log es

-- Who makes an event.
abbrev pub is_call_of : ℕ → CoreEvent → Bool
is_call_of client (By other call) = other == client
is_call_of client (At mail move) = false

abbrev pub is_move_at : ℕ → CoreEvent → Bool
is_move_at mail (By client call) = false
is_move_at mail (At other move) = other == mail

-- An event that the progress of the flusher's rounds hangs on.
abbrev pub is_of_rounds : Opening → CoreEvent → Bool
is_of_rounds o (By client (OnDesk (RoundOpen answer))) = true
is_of_rounds o (By client (OnDesk (RoundClose epoch end))) = true
is_of_rounds o (By client call) = false
is_of_rounds o (At mail (Take client job)) = mail == flush_mail o
is_of_rounds o (At mail move) = false

module _ {Q A : Type 0} where
  -- The calls of the client are entries of the caller alone.
  abbrev pub MakesCalls : EventOf Q A → ℕ → ℕ → Type 0
  MakesCalls event caller client = (es : List CoreEvent) (e : Event Q A) (x : CoreEvent) → e.caller ≢ caller
      → event es e x → is_call_of client x ≡ false

  -- The moves of the worker at the mail are entries of the caller alone.
  abbrev pub MakesMoves : EventOf Q A → ℕ → ℕ → Type 0
  MakesMoves event caller mail = (es : List CoreEvent) (e : Event Q A) (x : CoreEvent) → e.caller ≢ caller
      → event es e x → is_move_at mail x ≡ false

module _ {Q A : Type 0} (o : Opening) where
  -- The rounds are made by entries of the caller alone.
  abbrev pub MakesRounds : EventOf Q A → ℕ → Type 0
  MakesRounds event caller = (es : List CoreEvent) (e : Event Q A) (x : CoreEvent) → e.caller ≢ caller
      → event es e x → is_of_rounds o x ≡ false

module _ {Q A X : Type 0} where
  -- What is told of events one after the other, and is left by the entries of other callers.
  pub record IsToldByCaller (event : EventOf Q A) (caller : ℕ) (told : List CoreEvent → X) : Type 0 where
    pub next : (x : CoreEvent) (es fs : List CoreEvent) → told es ≡ told fs → told (x ∷ es) ≡ told (x ∷ fs)
    pub others : (es : List CoreEvent) (e : Event Q A) (x : CoreEvent) → e.caller ≢ caller → event es e x
        → told (x ∷ es) ≡ told es

  -- Which event an entry of the caller may be hangs on no more than what is told.
  abbrev pub HangsOn : EventOf Q A → ℕ → (List CoreEvent → X) → Type 0
  HangsOn event caller told = (es fs : List CoreEvent) (e : Event Q A) (x : CoreEvent) → e.caller ≡ caller
      → told es ≡ told fs → event es e x → event fs e x

  -- The caller's own entries are events of which the same is told.
  pub record HasOwnEvents (event : EventOf Q A) (caller : ℕ) (told : List CoreEvent → X) (log : List (Event Q A))
      (es : List CoreEvent) : Type 0 where
    pub own : List CoreEvent
    pub events : AreEventsOf event (of_caller caller log) own
    pub same : told es ≡ told own

-- An entry is an event with which the run goes on; its cell is what the events have made of it, and other cells are
-- left.
pub record IsCallLinked {T Q A : Type 0} (event : EventOf Q A) (stands : ℕ → T → List CoreEvent → Type 0) (o : Opening)
    (es : List CoreEvent) (e : Event Q A) (y : T) : Type 0 where
  pub next : CoreEvent
  pub is : event es e next
  pub run : IsCoreRun o (next ∷ es)
  pub own : stands e.cell y (next ∷ es)
  pub others : (k : ℕ) (z : T) → e.cell ≢ k → stands k z es → stands k z (next ∷ es)

-- Cells open as events do, also for the earlier entries of a history; a call that fits is on a cell that there is, and
-- is one event, which goes on with the run and makes of the cell what the step makes of it.
pub record IsLinked {T Q A : Type 0} (step : CellStep T Q A) (fits : CallFit T Q A)
    (opens : Opening → List T → List (Event Q A) → Type 0) (event : Opening → EventOf Q A)
    (stands : Opening → ℕ → T → List CoreEvent → Type 0) : Type 0 where
  pub begins : (o : Opening) (opening : List T) (log : List (Event Q A)) → opens o opening log → IsOpening o
  pub earlier : (o : Opening) (opening : List T) (log later : List (Event Q A)) → opens o opening (log ++ later)
      → opens o opening log
  pub stand : (o : Opening) (opening : List T) (log : List (Event Q A)) (k : ℕ) (x : T) → opens o opening log
      → get_elem? opening k ≡ some x → stands o k x []
  pub there : (o : Opening) (opening : List T) (log : List (Event Q A)) (by k : ℕ) (own : List (Event Q A)) (call : Q)
      → opens o opening log → fits opening by own k call → (x : T) × (get_elem? opening k ≡ some x)
  pub calls : (o : Opening) (opening : List T) (log : List (Event Q A)) (es : List CoreEvent) (e : Event Q A) (x y : T)
      → opens o opening (log ++ e ∷ []) → AreEventsOf (event o) log es → IsCoreRun o es
      → fits opening e.caller (of_caller e.caller log) e.cell e.call → stands o e.cell x es
      → step x e.call e.answer y → IsCallLinked (event o) (stands o) o es e y

module _ {Q A : Type 0} where
  -- The entries of a history are the events of a run.
  pub record HasRun (o : Opening) (event : EventOf Q A) (log : List (Event Q A)) : Type 0 where
    pub es : List CoreEvent
    pub events : AreEventsOf event log es
    pub run : IsCoreRun o es

module _ {T Q A : Type 0} where
  -- These are the events of a run, which has made of the cells what they are.
  pub record HasRunTo (o : Opening) (event : EventOf Q A) (stands : ℕ → T → List CoreEvent → Type 0) (opening : List T)
      (log : List (Event Q A)) (values : ℕ → T) : Type 0 where
    pub of : HasRun o event log
    pub cells : (k : ℕ) (x : T) → get_elem? opening k ≡ some x → stands k (values k) of.es
