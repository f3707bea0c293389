-- Threads that are started one after the other.
use Rattle.std.proofs.Common.{◌≡◌, ℕ, ◌+◌, Bool, true, false, sym, ◌∙◌, arith}
use Rattle.std.proofs.lemmas.Bool.{false≢true}
use Rattle.threaded_callers.specs.Starts.{HaveThreads}
use Rattle.threaded_callers.specs.declared.starter.ThreadStarter.{ThreadStarter}

module _ (before between after : ThreadStarter) (rest all : ℕ) (more : all ≡ rest + 1) where
  -- One, and then the rest.
  pub one_more_thread : (began : Bool) → HaveThreads 1 true before between → HaveThreads (1 + rest) began between after
      → HaveThreads (1 + all) began before after
  one_more_thread true one then = let left = then.2 in let first = one.2 in (one.0, then.1, omega arith)
  one_more_thread false one then = then

  -- Where one was refused no works begin.
  pub none_begin : (began : Bool) → HaveThreads 1 false before between → HaveThreads (1 + rest) began between after
      → HaveThreads (1 + all) began before after
  none_begin true refused then = absurd (false≢true (sym then.0 ∙ refused))
  none_begin false refused then = then
