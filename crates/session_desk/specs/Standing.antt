-- What is behind the one session of a run stands behind the session as it is now, and behind the desk.
-- Source: this project's own.
use Rattle.std.specs.Prelude.{◌≡◌, ℕ, List, None, unwrap_or}
use Rattle.cube_run.specs.RunRecords.{RunRecord, cubes_at}
use Rattle.cube_run.specs.RunTransactions.{DoneOperation}
use Rattle.cube_run.specs.SessionStates.{SessionState}
use Rattle.one_session.specs.Behind.{HaveDone, cubes_behind}
use Rattle.one_session.specs.Changes.{AreInEpochOrder}
use Rattle.one_session.specs.Pasts.{Beginning, GoesOn, IsOwned, SessionPast, last_number}
use Rattle.aosi_desk.specs.State.{state_of}
use Rattle.aosi_desk.specs.Desks.{DeskState}
use Rattle.session_replies.specs.Modes.{mode_of}
use Rattle.session_desk.specs.declared.session.Session.{Session}
use Rattle.session_desk.specs.AtDesk.{change_epoch}
use Rattle.session_desk.specs.CubesBefore.{AgreeWithCubes}

-- The state of a session, which has no watch.
abbrev pub session_state : Session → SessionState
session_state session = record { mode = mode_of session.mode; watch = None; commits = session.commits }

-- What a session works with, and has done: its desk and the texts of the dictionaries; itself; and the operations that
-- its statements did, which no code keeps.
pub record World : Type 0 where
  pub desk : DeskState
  pub names : List (List (List (List ℕ)))
  pub session : Session
  pub done : List DoneOperation

-- What is behind the session stands behind all this, whatever may follow: the desk has its journal, and the cubes that
-- are there by it, and in each run that goes on, with which the journal agrees; the dictionaries have its names; the
-- session's statements are counted; they have done these operations and left the session so; and the operations stand
-- in order up to the epoch of the next one.
pub record StandsBehind (beginning : Beginning) (past : SessionPast) (now : World) : Type 0 where
  pub safe : now.desk.register.safe ≡ beginning.safe
  pub journal : now.desk.register.journal ≡ past.journal
  pub there : cubes_behind beginning past ≡ now.desk.cubes
  pub cubes : (run : RunRecord) → GoesOn beginning past run → cubes_at run past.journal ≡ now.desk.cubes
  pub agrees : (run : RunRecord) → GoesOn beginning past run
      → AgreeWithCubes run run.cubes past.journal now.desk.cubes
  pub names : past.names ≡ now.names
  pub number : last_number past ≡ now.session.statements
  pub every : beginning.round_every ≡ unwrap_or now.session.round_every 0
  pub owned : IsOwned past
  pub done : HaveDone beginning past now.done (session_state now.session)
  pub order : AreInEpochOrder past now.done
      (change_epoch (state_of now.desk.register) (mode_of now.session.mode))
