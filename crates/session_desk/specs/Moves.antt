-- What a statement does to the transaction of its session, by the desk: what is open, and which epochs are committed.
-- Source: AOSI (ICDE 2018), begin, commit and abort of a transaction.
use Rattle.std.specs.Prelude.{◌≡◌, ℕ, ◌≤◌, Bool, false, ◌==◌, ◌||◌, Option, Some, None}
use Rattle.std.specs.List.{list_any}
use Rattle.std.specs.Option.{option_map_or}
use Rattle.cube_run.specs.RunTransactions.{is_commit_of}
use Rattle.cube_run.specs.SessionStates.{Mode, Idle, Open, Aborted}
use Rattle.cube_run.specs.SessionSteps.{session_part}
use Rattle.aosi_desk.specs.State.{state_of}
use Rattle.aosi_desk.specs.Desks.{DeskState}
use Rattle.session_replies.specs.Modes.{mode_of}
use Rattle.session_desk.specs.declared.session.Session.{Session}

-- The session has committed the transaction of an epoch.
abbrev pub is_committed_at : DeskState → ℕ → Bool
is_committed_at desk epoch = list_any (is_commit_of epoch) (session_part 1 desk.register.journal)

-- An epoch is that of the transaction that is open.
abbrev pub is_open_at : Mode → ℕ → Bool
is_open_at (Open writer) epoch = epoch == writer.epoch
is_open_at mode epoch = false

-- No transaction is open.
abbrev pub NothingIsOpen : Mode → Type 0
NothingIsOpen (Open writer) = ⊥
NothingIsOpen mode = Unit {0}

-- A transaction that is open stays so; one that begins takes the next epoch.
abbrev pub KeepsOpen : ℕ → Mode → Mode → Type 0
KeepsOpen next (Open writer) mode = mode ≡ Open writer
KeepsOpen next Idle (Open writer) = writer.epoch ≡ next
KeepsOpen next (Aborted epoch) (Open writer) = ⊥
KeepsOpen next mode new = Unit {0}

-- The same of a session and of its desk before a statement.
abbrev pub OpenStays : DeskState → Session → Session → Type 0
OpenStays desk session now = KeepsOpen (state_of desk.register).ec (mode_of session.mode) (mode_of now.mode)

-- The epoch is this one, if there is one.
abbrev pub is_epoch_of : Option ℕ → ℕ → Bool
is_epoch_of one epoch = option_map_or (λ e. epoch == e) one false

-- The next epoch does not fall, and this epoch is committed, if there is one, and no other.
pub record MovesOn (committed : Option ℕ) (old new : DeskState) : Type 0 where
  pub next : (state_of old.register).ec ≤ (state_of new.register).ec
  pub commits : (epoch : ℕ)
      → is_committed_at new epoch ≡ (is_committed_at old epoch || is_epoch_of committed epoch)

-- The epoch of the transaction that is open, if there is one.
abbrev pub epoch_open_in : Mode → Option ℕ
epoch_open_in (Open writer) = Some writer.epoch
epoch_open_in mode = None
