-- How the tickets of sessions agree with the open snapshots and the pending epochs.
use Rattle.std.specs.Prelude.{◌≡◌, ℕ, ◌<◌, Bool, true, false, List, [], ◌∷◌, Option, Some, None, IsSomeAnd, slice_index_or}
use Rattle.std.specs.List.{count_by}
use Rattle.cube_journal.specs.declared.counters.OpenSnapshot.{OpenSnapshot}
use Rattle.linked_roll.specs.declared.ticket.Ticket.{Ticket}
use Rattle.linked_roll.specs.Members.{Member, item_by_ticket}
use Rattle.aosi_desk.specs.declared.hold.Hold.{Hold}
use Rattle.aosi_desk.specs.declared.hold.Hold.TheVariants.{Free, Reader, Writer}

-- What a session holds.
abbrev pub hold_of : List Hold → ℕ → Hold
hold_of holds session = slice_index_or holds session Free

-- The ticket of the open snapshot.
abbrev pub snapshot_ticket : Hold → Option Ticket
snapshot_ticket Free = None
snapshot_ticket (Reader ticket) = Some ticket
snapshot_ticket (Writer ticket other) = Some ticket

-- The ticket of the pending epoch.
abbrev pub pending_ticket : Hold → Option Ticket
pending_ticket Free = None
pending_ticket (Reader ticket) = None
pending_ticket (Writer ticket other) = Some other

abbrev pub is_writer : Hold → Bool
is_writer Free = false
is_writer (Reader ticket) = false
is_writer (Writer ticket other) = true

abbrev pub is_reader : Hold → Bool
is_reader Free = false
is_reader (Reader ticket) = true
is_reader (Writer ticket other) = false

-- Of each open snapshot, its session has the ticket.
abbrev pub AreHeld : List Hold → List (Member OpenSnapshot) → Type 0
AreHeld holds [] = Unit {0}
AreHeld holds (m ∷ snapshots) = (snapshot_ticket (hold_of holds m.item.session) ≡ Some m.ticket) × AreHeld holds
    snapshots

-- The open snapshot is the session's, and of this kind.
abbrev pub IsOpenOf : ℕ → Bool → OpenSnapshot → Type 0
IsOpenOf session own o = (o.session ≡ session) × (o.snapshot.own ≡ own)

-- A session's tickets find its open snapshot, and of a writer its epoch among the pending ones.
abbrev pub HoldFits : List (Member OpenSnapshot) → List (Member ℕ) → ℕ → Hold → Type 0
HoldFits snapshots pending session Free = Unit {0}
HoldFits snapshots pending session (Reader ticket) = IsSomeAnd (item_by_ticket snapshots ticket)
    (IsOpenOf session false)
HoldFits snapshots pending session (Writer ticket other) =
    IsSomeAnd (item_by_ticket snapshots ticket)
    (λ o. IsOpenOf session true o × (item_by_ticket pending other ≡ Some o.snapshot.epoch))

-- The tickets agree with both rolls, and no two sessions have one pending epoch.
pub record HoldsFit (holds : List Hold) (snapshots : List (Member OpenSnapshot)) (pending : List (Member ℕ)) : Type
    0 where
  pub held : AreHeld holds snapshots
  pub fit : (session : ℕ) → HoldFits snapshots pending session (hold_of holds session)
  pub own : (a b : ℕ) (t : Ticket) → pending_ticket (hold_of holds a) ≡ Some t
      → pending_ticket (hold_of holds b) ≡ Some t → a ≡ b

-- Only the sessions hold writers, and there is one pending epoch for each of them.
pub record WritersCount (holds : List Hold) (sessions pending : ℕ) : Type 0 where
  pub few : (session : ℕ) → sessions < session → is_writer (hold_of holds session) ≡ false
  pub first : is_writer (hold_of holds 0) ≡ false
  pub count : count_by is_writer holds ≡ pending

-- Epochs rise strictly from above one number to below another.
abbrev pub Rise : ℕ → List ℕ → ℕ → Type 0
Rise low [] high = low < high
Rise low (e ∷ epochs) high = (low < e) × Rise e epochs high
