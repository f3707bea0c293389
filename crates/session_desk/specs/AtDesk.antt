-- What a desk has between two statements of the one session that it serves: the writer of the transaction that the
-- session has open, if it has one, and nothing else that is open.
-- Source: AOSI (ICDE 2018), pending transactions; that a session holds one snapshot at most is this project's own.
use Rattle.std.specs.Prelude.{◌≡◌, ℕ, ◌+◌, ◌-◌, ◌<◌, ◌≤◌, false, true, List, [], ◌∷◌, ◌++◌, None}
use Rattle.cube_values.specs.declared.snapshot.Snapshot.{Snapshot}
use Rattle.cube_journal.specs.Counters.{JournalState}
use Rattle.cube_journal.specs.declared.counters.OpenSnapshot.{OpenSnapshot}
use Rattle.cube_journal.specs.declared.journal_entry.JournalEntry.{JournalEntry}
use Rattle.cube_run.specs.SessionStates.{Mode, Open}
use Rattle.aosi_desk.specs.State.{state_of}
use Rattle.aosi_desk.specs.Desks.{DeskState, desk_over}
use Rattle.session_replies.specs.Modes.{mode_of}
use Rattle.session_replies.specs.declared.mode.SessionMode.{SessionMode}
use Rattle.session_replies.specs.declared.mode.SessionMode.TheVariants as variant
use Rattle.session_desk.specs.declared.session.Session.{Session}

-- The open snapshots: the writer of the transaction that is open, with the epoch before its own as bound.
abbrev pub snapshots_in : Mode → List OpenSnapshot
snapshots_in (Open writer) = (record { session = 1; bound = writer.epoch - 1; snapshot = writer }) ∷ []
snapshots_in mode = []

-- The pending epochs: that of the transaction that is open.
abbrev pub pending_in : Mode → List ℕ
pending_in (Open writer) = writer.epoch ∷ []
pending_in mode = []

-- A writer that took the last epoch, when no other was pending.
pub record IsLastWriter (ec : ℕ) (writer : Snapshot) : Type 0 where
  pub last : ec ≡ writer.epoch + 1
  pub alone : writer.deps ≡ []
  pub own : writer.own ≡ true

-- The writer of the transaction that is open is such a one.
abbrev pub HasLastWriter : ℕ → Mode → Type 0
HasLastWriter ec (Open writer) = IsLastWriter ec writer
HasLastWriter ec mode = Unit {0}

-- The epoch that the session's next change of rows has: that of its open transaction, or EC.
abbrev pub change_epoch : JournalState → Mode → ℕ
change_epoch s (Open writer) = writer.epoch
change_epoch s mode = s.ec

-- Nothing is open but the transaction of a session of this mode. No round is, and none was lost.
pub record IsServing (s : JournalState) (safe : ℕ) (mode : Mode) : Type 0 where
  pub snapshots : s.snapshots ≡ snapshots_in mode
  pub pending : s.pending ≡ pending_in mode
  pub writer : HasLastWriter s.ec mode
  pub kept : safe < change_epoch s mode
  pub round : s.round ≡ None
  pub store : s.store_failed ≡ false

-- The desk serves this session alone.
pub record IsAtDesk (desk : DeskState) (session : Session) : Type 0 where
  pub alone : desk.register.sessions ≡ 1
  pub serving : IsServing (state_of desk.register) desk.register.safe (mode_of session.mode)
  pub counted : session.commits ≤ session.statements

-- A desk with more entries.
abbrev pub desk_with_entries : DeskState → List JournalEntry → DeskState
desk_with_entries desk entries =
    desk_over desk (record desk.register { journal = desk.register.journal ++ entries })

-- A transaction is open.
abbrev pub IsOpen : SessionMode → Type 0
IsOpen (variant.Open writer) = Unit {0}
IsOpen m = ⊥

-- A transaction is open with this epoch.
abbrev pub IsOpenAt : SessionMode → ℕ → Type 0
IsOpenAt (variant.Open writer) epoch = epoch ≡ writer.epoch
IsOpenAt m epoch = ⊥

-- Whatever mode of the session a desk served, it still does, and with the same cubes.
pub record KeepsServing (old new : DeskState) : Type 0 where
  pub cubes : new.cubes ≡ old.cubes
  pub sessions : new.register.sessions ≡ old.register.sessions
  pub safe : new.register.safe ≡ old.register.safe
  pub serving : (mode : Mode) → IsServing (state_of old.register) old.register.safe mode
      → IsServing (state_of new.register) old.register.safe mode
