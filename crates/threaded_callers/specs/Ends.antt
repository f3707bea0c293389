-- How works end on threads: where they were begun each was done by its caller, and else its caller made no call. When the
-- flusher was stopped all sessions had ended, and when the workers were the flusher had.
-- Source: this project's own; linearizability (Herlihy and Wing, 1990) makes one list of the calls of all threads.
use Rattle.std.specs.Prelude.{◌≡◌, ℕ, ◌+◌, ◌<◌, ◌≤◌, Bool, true, MatchBool, List, [], length, slice_index_or}
use lib.ListN.{get_elem?}
use mathlib.Core.List.{IsPrefix}
use mathlib.Core.Option.{some}
use Rattle.turn_board.specs.History.{CallFit, CellStep, AllFitAfter, LeadsTo, of_caller, of_cell}
use Rattle.turn_board.specs.declared.cells.Cells.{Ghosts}
use Rattle.turn_board.specs.declared.history.Event.{Event}
use Rattle.turn_board.specs.declared.history.Hand.{Hand}
use Rattle.threaded_callers.specs.Hands.{hand, IsAmong}
use Rattle.threaded_callers.specs.Tasks.{IsHeldBy}
use Rattle.threaded_callers.specs.declared.task.Task.{Task}
use Rattle.turn_board.specs.Passes.{opening_of}
use Rattle.turn_board.specs.declared.board.Board.{Board}

-- What was done: of a work before and after, the cells that the board opened with, a caller and its calls.
abbrev pub WorkDone : Type 0 → Type 0 → Type 0 → Type 0 → Type 1
WorkDone T Q A W = W → W → List T → ℕ → List (Event Q A) → Type 0

-- What is told of the calls of a caller.
abbrev pub ToldCalls : Type 0 → Type 0 → Type 1
ToldCalls Q A = ℕ → List (Event Q A) → Type 0

-- A caller is among these, with its calls.
abbrev pub AmongCallers : {Q A : Type 0} → List (Hand Q A) → ToldCalls Q A
AmongCallers others number own = IsAmong others (hand number own)

-- So many calls had been made at a moment, up to which the history stood so.
abbrev pub MadeBy : {Q A : Type 0} → ToldCalls Q A → List (Event Q A) → ToldCalls Q A
MadeBy told moment number own = told number own × (of_caller number moment ≡ own)

-- The history tells of a caller that it made these calls and no others.
abbrev pub InHistory : {Q A : Type 0} → List (Event Q A) → ToldCalls Q A
InHistory log number own = of_caller number log ≡ own

module _ {T Q A W : Type 0} (done : WorkDone T Q A W) (opening : List T) where
  -- Where it began, the work was done by these calls of the caller; else there are none, and it is as it was.
  abbrev pub EndsAs : Bool → ℕ → List (Event Q A) → W → W → Type 0
  EndsAs began number own before after =
      MatchBool began (done before after opening number own) ((own ≡ []) × (after ≡ before))

  -- It ends so by the calls that are told of the caller.
  pub record Ends (told : ToldCalls Q A) (began : Bool) (number : ℕ) (before after : W) : Type 0 where
    pub own : List (Event Q A)
    pub tells : told number own
    pub ends : EndsAs began number own before after

module _ {C T Q A W : Type 0} {g : Ghosts C T Q A} (done : WorkDone T Q A W) (b : Board C T Q A) where
  -- A task ends so, by the calls of the caller that it has.
  pub record TaskEnds (began : Bool) (number : ℕ) (before after : Task C W T Q A g) : Type 0 where
    pub own : List (Event Q A)
    pub held : IsHeldBy b number own after
    pub ends : EndsAs done (opening_of b) began number own before.work after.work

module _ {C T Q A W : Type 0} {g : Ghosts C T Q A} (done : WorkDone T Q A W) (opening : List T) (told : ToldCalls Q A) where
  -- So do all works, whose callers are numbered from one on.
  abbrev pub AllEnd : Bool → ℕ → List (Task C W T Q A g) → List (Task C W T Q A g) → Type 0
  AllEnd began from before after = (k : ℕ) (d : Task C W T Q A g) → k < length before
      → Ends done opening told began (from + k) (slice_index_or before k d).work (slice_index_or after k d).work

-- What main did to stop the flusher: of its work before and after, how many callers the board has, the cells that it
-- opened with, and main's calls.
abbrev pub FlusherStopped : Type 0 → Type 0 → Type 0 → Type 0 → Type 1
FlusherStopped T Q A M = M → M → ℕ → List T → List (Event Q A) → Type 0

-- What it did at the end: of its work before and after, the cells, whether the sessions had begun, and its calls before
-- and after.
abbrev pub WorkersStopped : Type 0 → Type 0 → Type 0 → Type 0 → Type 1
WorkersStopped T Q A M = M → M → List T → Bool → List (Event Q A) → List (Event Q A) → Type 0

module _ {C T Q A W : Type 0} {g : Ghosts C T Q A} (done : WorkDone T Q A W) (opening : List T) (told : ToldCalls Q A) where
  -- The sessions ended while main waited: at some moment they had made all their calls, and main none. The history goes on
  -- from there.
  pub record SessionsEnded (began : Bool) (before after : List (Task C W T Q A g)) (now : List (Event Q A)) : Type 0 where
    pub moment : List (Event Q A)
    pub goes_on : IsPrefix moment now
    pub main_waits : of_caller 0 moment ≡ []
    pub each : AllEnd done opening (MadeBy told moment) began 1 before after

module _ {C T Q A M W F : Type 0} {g : Ghosts C T Q A} (stopped : FlusherStopped T Q A M) (session_done : WorkDone T Q A W)
    (flusher_done : WorkDone T Q A F) (callers : ℕ) (opening : List T) (told : ToldCalls Q A) where
  -- The sessions ended, then main stopped the flusher, and then that ended while main waited: at some moment it had made
  -- all its calls, and main those alone by which it stopped the flusher.
  pub record FlusherEnded (began flushed : Bool) (number : ℕ) (main main' : M) (sessions sessions' : List (Task C W T Q A g))
      (flusher flusher' : F) (now own : List (Event Q A)) : Type 0 where
    pub moment : List (Event Q A)
    pub goes_on : IsPrefix moment now
    pub main_waits : of_caller 0 moment ≡ own
    pub stops : stopped main main' callers opening own
    pub played : SessionsEnded session_done opening told began sessions sessions' moment
    pub flushes : Ends flusher_done opening (MadeBy told moment) flushed number flusher flusher'

module _ {C T Q A M W F : Type 0} {g : Ghosts C T Q A} (stopped : FlusherStopped T Q A M)
    (ended : WorkersStopped T Q A M) (session_done : WorkDone T Q A W) (flusher_done : WorkDone T Q A F) (callers : ℕ)
    (opening : List T) (told : ToldCalls Q A) where
  -- So did main: it went on from its calls by which it stopped the flusher.
  pub record MainEnded (began flushed : Bool) (number : ℕ) (main main' : M) (sessions sessions' : List (Task C W T Q A g))
      (flusher flusher' : F) (now own : List (Event Q A)) : Type 0 where
    pub middle : M
    pub stopping : List (Event Q A)
    pub before : FlusherEnded stopped session_done flusher_done callers opening told began flushed number main middle
        sessions sessions' flusher flusher' now stopping
    pub ends : ended middle main' opening began stopping own

-- The history of a board that is shut: each call in it fitted, it is of the board's callers alone, and it leads from the
-- cells that the board opened with to those that are left.
pub record IsHistoryTo {T Q A : Type 0} (step : CellStep T Q A) (fits : CallFit T Q A) (callers : ℕ)
    (opening cells : List T) (log : List (Event Q A)) : Type 0 where
  pub long : length cells ≡ length opening
  pub fitting : AllFitAfter fits opening [] log
  pub leads : (k : ℕ) (x y : T) → get_elem? opening k ≡ some x → get_elem? cells k ≡ some y
      → LeadsTo step x (of_cell k log) y
  pub others : (by : ℕ) → callers ≤ by → of_caller by log ≡ []

module _ {C T Q A M W K F : Type 0} {g : Ghosts C T Q A} (step : CellStep T Q A) (fits : CallFit T Q A)
    (stopped : FlusherStopped T Q A M) (ended : WorkersStopped T Q A M) (session_done : WorkDone T Q A W)
    (worker_done : WorkDone T Q A K) (flusher_done : WorkDone T Q A F) (callers : ℕ) (opening : List T) where
  -- All ended, and there is one history of all their calls, which leaves the cells. In it main is caller 0, the sessions
  -- follow, then the workers, and the flusher is the last.
  pub record HaveRun (began flushed : Bool) (main main' : M) (sessions sessions' : List (Task C W T Q A g))
      (workers workers' : List (Task C K T Q A g)) (flusher flusher' : F) (cells : List T) : Type 0 where
    pub log : List (Event Q A)
    pub history : IsHistoryTo step fits callers opening cells log
    pub play : MainEnded stopped ended session_done flusher_done callers opening (InHistory log) began flushed
        (1 + length sessions + length workers) main main' sessions sessions' flusher flusher' log (of_caller 0 log)
    pub serving : AllEnd worker_done opening (InHistory log) true (1 + length sessions) workers workers'
