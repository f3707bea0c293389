-- Main's side of the threads, while the flusher and the workers have theirs.
-- Source: this project's own.
use Rattle.std.specs.Prelude.{◌≡◌, ◌+◌, ◌<◌, ℕ, Bool, List, [], IsTrue, length, slice_index_or}
use Rattle.board_callers.specs.Callers.{first_calls}
use Rattle.turn_board.specs.Hands.{HasCallsOf, first_number}
use Rattle.turn_board.specs.Passes.{callers_of, opening_of}
use Rattle.turn_board.specs.declared.board.Board.{Board}
use Rattle.turn_board.specs.declared.cells.Cells.{Ghosts}
use Rattle.threaded_callers.specs.Ends.{AmongCallers, FlusherEnded, FlusherStopped, MainEnded, SessionsEnded, WorkDone, WorkersStopped}
use Rattle.threaded_callers.specs.Starts.{HaveThreads}
use Rattle.threaded_callers.specs.Stations.{AreListed}
use Rattle.threaded_callers.specs.Tasks.{AreReady, IsHeldBy, IsMain, IsReady, IsTaskOf, IsWorked, hands_in, others_in, view_in}
use Rattle.threaded_callers.specs.declared.starter.ThreadStarter.{ThreadStarter}
use Rattle.threaded_callers.specs.declared.task.Task.{Task}

module _ {C T Q A M W : Type 0} {g : Ghosts C T Q A} (main_may : M → ℕ → List T → Type 0)
    (session_may : W → ℕ → List T → ℕ → Type 0) (b : Board C T Q A) where
  -- Nobody of main's side has made a call, and all may begin.
  pub record MayPlay (main : Task C M T Q A g) (sessions : List (Task C W T Q A g)) : Type 0 where
    pub first : IsMain b [] main
    pub fresh : HasCallsOf (view_in main).past (hands_in main)
    pub may_begin : main_may main.work (callers_of b) (opening_of b)
    pub ready : AreReady session_may b 1 sessions

module _ {C T Q A M W : Type 0} {g : Ghosts C T Q A} (stopped : FlusherStopped T Q A M) (session_done : WorkDone T Q A W)
    (b : Board C T Q A) where
  -- The sessions ended, and then main stopped the flusher.
  pub record HaveEnded (began : Bool) (main main' : Task C M T Q A g) (sessions sessions' : List (Task C W T Q A g))
      : Type 0 where
    pub of : IsTaskOf b main'
    pub number : first_number (hands_in main') ≡ 0
    pub work : stopped main.work main'.work (callers_of b) (opening_of b) (first_calls (hands_in main'))
    pub played : SessionsEnded session_done (opening_of b) (AmongCallers (others_in main')) began sessions sessions'
        (view_in main').past

module _ {C T Q A M W F : Type 0} {g : Ghosts C T Q A} (stopped : FlusherStopped T Q A M) (session_done : WorkDone T Q A W)
    (flusher_done : WorkDone T Q A F) (b : Board C T Q A) where
  -- The flusher ended as well.
  pub record HasEnded (began flushed : Bool) (number : ℕ) (main main' : Task C M T Q A g)
      (sessions sessions' : List (Task C W T Q A g)) (flusher flusher' : Task C F T Q A g) : Type 0 where
    pub of : IsTaskOf b main'
    pub number_is : first_number (hands_in main') ≡ 0
    pub ended : FlusherEnded stopped session_done flusher_done (callers_of b) (opening_of b)
        (AmongCallers (others_in main')) began flushed number main.work main'.work sessions sessions' flusher.work
        flusher'.work (view_in main').past (first_calls (hands_in main'))

module _ {C T Q A M W F : Type 0} {g : Ghosts C T Q A} (stopped : FlusherStopped T Q A M)
    (ended : WorkersStopped T Q A M) (session_done : WorkDone T Q A W) (flusher_done : WorkDone T Q A F)
    (b : Board C T Q A) where
  -- And main ended.
  pub record HasFinished (began flushed : Bool) (number : ℕ) (main main' : Task C M T Q A g)
      (sessions sessions' : List (Task C W T Q A g)) (flusher flusher' : Task C F T Q A g) : Type 0 where
    pub of : IsTaskOf b main'
    pub number_is : first_number (hands_in main') ≡ 0
    pub play : MainEnded stopped ended session_done flusher_done (callers_of b) (opening_of b)
        (AmongCallers (others_in main')) began flushed number main.work main'.work sessions sessions' flusher.work
        flusher'.work (view_in main').past (first_calls (hands_in main'))

module _ {C T Q A M W K F : Type 0} {g : Ghosts C T Q A} (main_may : M → ℕ → List T → Type 0)
    (session_may : W → ℕ → List T → ℕ → Type 0) (worker_may : K → ℕ → List T → ℕ → Type 0)
    (flusher_may : F → ℕ → List T → ℕ → Type 0) (b : Board C T Q A) (works : List K) (from : ℕ) where
  -- Main's side and the workers may begin, and these are listed.
  pub record MayServe (main : Task C M T Q A g) (sessions : List (Task C W T Q A g)) (workers : List (Task C K T Q A g))
      (flusher : Task C F T Q A g) : Type 0 where
    pub play : MayPlay main_may session_may b main sessions
    pub serve : AreListed worker_may b works from workers
    pub flush : (number : ℕ) × IsReady flusher_may b number flusher

module _ {C T Q A M W K F : Type 0} {g : Ghosts C T Q A} (stopped : FlusherStopped T Q A M)
    (stops : WorkersStopped T Q A M) (session_done : WorkDone T Q A W) (worker_done : WorkDone T Q A K)
    (flusher_done : WorkDone T Q A F) (b : Board C T Q A) where
  -- All ended, and the threads that they had.
  pub record HaveServed (began flushed : Bool) (main main' : Task C M T Q A g)
      (sessions sessions' : List (Task C W T Q A g)) (workers workers' : List (Task C K T Q A g))
      (flusher flusher' : Task C F T Q A g) (starter starter' : ThreadStarter) : Type 0 where
    pub long : length workers' ≡ length workers
    pub worked : (k : ℕ) (d : Task C K T Q A g) → k < length workers
        → IsWorked worker_done b (slice_index_or workers k d) (slice_index_or workers' k d)
    pub threads : HaveThreads (1 + length workers) began starter starter'
    pub first : IsTrue began → IsTrue flushed
    pub ended : (number : ℕ) → IsHeldBy b number [] flusher → HasFinished stopped stops session_done flusher_done b began
        flushed number main main' sessions sessions' flusher flusher'
