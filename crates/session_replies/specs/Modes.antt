-- The mode of a session as the code has it, and when a round follows a commit.
-- Source: this project's own.
use Rattle.std.specs.Prelude.{ℕ, ◌+◌, ◌%◌, ◌==◌, Bool, false, zero, suc}
use Rattle.cube_run.specs.SessionStates as state
use Rattle.cube_run.specs.SessionStates.{Mode}
use Rattle.session_replies.specs.declared.mode.SessionMode.{SessionMode}
use Rattle.session_replies.specs.declared.mode.SessionMode.TheVariants.{Idle, Open, Aborted}

-- The mode that it stands for.
abbrev pub mode_of : SessionMode → Mode
mode_of Idle = state.Idle
mode_of (Open writer) = state.Open writer
mode_of (Aborted epoch) = state.Aborted epoch

-- A round follows a session's commit after so many others: each time that its commits are a multiple of a number, and
-- never where that is 0.
abbrev pub round_follows : ℕ → ℕ → Bool
round_follows zero others = false
round_follows (suc n) others = (others + 1) % suc n == 0
