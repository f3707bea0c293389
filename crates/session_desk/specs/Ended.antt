-- The script of a session has ended: its end has left its entries.
-- Source: this project's own.
use Rattle.std.specs.Prelude.{◌≡◌, ℕ, ◌+◌, true, false, List, ◌++◌}
use Rattle.std.specs.List.{list_all, list_any}
use Rattle.cube_journal.specs.declared.journal_entry.JournalEntry.{JournalEntry}
use Rattle.cube_run.specs.RunTransactions.{DoneOperation}
use Rattle.cube_run.specs.SessionStates.{SessionState}
use Rattle.cube_run.specs.SessionSteps.{session_part}
use Rattle.cube_run.specs.StatementEntries.{script_end}
use Rattle.one_session.specs.Pasts.{Beginning, SessionPast, has_one_owner, last_number}
use Rattle.aosi_desk.specs.Desks.{DeskState, speaks_of_cubes}
use Rattle.session_desk.specs.declared.session.Session.{Session}
use Rattle.session_desk.specs.Standing.{StandsBehind, session_state}

-- The journal is what was behind, and behind that entries of which the session's are those of its end, and none speaks
-- of the list of cubes; each entry is the session's or the flusher's.
pub record HasEnded (beginning : Beginning) (past : SessionPast) (state : SessionState) (desk : DeskState)
    : Type 0 where
  pub safe : desk.register.safe ≡ beginning.safe
  pub added : List JournalEntry
  pub journal : desk.register.journal ≡ past.journal ++ added
  pub own : session_part 1 added ≡ script_end 1 (last_number past + 1) state.mode state.watch
  pub speaks_of_none : list_any speaks_of_cubes added ≡ false
  pub owned : list_all has_one_owner desk.register.journal ≡ true

-- The script ends at the desk, whatever is behind the session.
abbrev pub EndsAtDesk : DeskState → Session → DeskState → Type 0
EndsAtDesk desk session new_desk =
    (beginning : Beginning) (past : SessionPast) (names : List (List (List (List ℕ)))) (done : List DoneOperation)
    → StandsBehind beginning past (record { desk = desk; names = names; session = session; done = done })
    → HasEnded beginning past (session_state session) new_desk
