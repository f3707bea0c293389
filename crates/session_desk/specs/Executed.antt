-- A statement is executed: what is behind the session grows by it, and stands behind the session as it then is; and each
-- run that goes on from there answers the statement so.
-- Source: this project's own.
use Rattle.std.specs.Prelude.{◌≡◌, ℕ, List}
use Rattle.cube_journal.specs.declared.journal_entry.JournalEntry.{JournalEntry}
use Rattle.cube_journal.specs.declared.reply.Reply.{Reply}
use Rattle.cube_run.specs.RunRecords.{RunRecord, Sentence}
use Rattle.cube_run.specs.RunText.{IsReply}
use Rattle.cube_run.specs.RunTransactions.{DoneOperation}
use Rattle.cube_run.specs.SessionStates.{session_after}
use Rattle.cube_run.specs.SessionSteps.{session_part}
use Rattle.one_session.specs.Behind.{last_step}
use Rattle.one_session.specs.Pasts.{Beginning, GoesOn, IsOneMore, SessionPast}
use Rattle.aosi_desk.specs.Desks.{DeskState}
use Rattle.session_desk.specs.declared.answered.Answered.{Answered}
use Rattle.session_desk.specs.declared.answered.Answered.TheVariants.{Replied, Stopped}
use Rattle.session_desk.specs.declared.session.Session.{Session}
use Rattle.session_desk.specs.Standing.{StandsBehind, World, session_state}

-- A statement that says this is executed, and the session is answered so.
pub record HasExecuted (beginning : Beginning) (before : SessionPast) (sentence : Sentence) (old now : World)
    (said : Reply) : Type 0 where
  pub after : SessionPast
  pub added : List JournalEntry
  pub more : IsOneMore before after sentence added
  pub becomes : session_state now.session
      ≡ session_after (session_state old.session) sentence (session_part 1 added)
  pub answers : (run : RunRecord) → GoesOn beginning after run
      → IsReply run (last_step after (session_state old.session) sentence added) said
  pub stands : StandsBehind beginning after now

-- A statement is executed at the desk alone, whatever is behind the session: no dictionary and no row changes.
abbrev pub ExecutesAtDesk : Sentence → DeskState → Session → DeskState → Session → Reply → Type 0
ExecutesAtDesk sentence desk session new_desk new_session said =
    (beginning : Beginning) (past : SessionPast) (names : List (List (List (List ℕ)))) (done : List DoneOperation)
    → StandsBehind beginning past (record { desk = desk; names = names; session = session; done = done })
    → HasExecuted beginning past sentence
    (record { desk = desk; names = names; session = session; done = done })
    (record { desk = new_desk; names = names; session = new_session; done = done })
    said

-- Where a statement is answered, its reply is such a one.
abbrev pub IfReplied : Answered → (Reply → Type 0) → Type 0
IfReplied (Replied said) IsRight = IsRight said
IfReplied Stopped IsRight = Unit {0}

-- Where it is not, this holds.
abbrev pub OnStopped : Answered → Type 0 → Type 0
OnStopped (Replied said) P = Unit {0}
OnStopped Stopped P = P
