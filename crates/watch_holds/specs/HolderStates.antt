-- What the two holders of a session hold between two of its calls, as four states, and which calls lead from one to
-- another.
--
--   in state                     the session makes                      and then is in state
--   NoReader                     OpenRead under a holder's number       LeadingReader
--   LeadingReader                a scan on each shard by that reader    LeadingReader
--   LeadingReader or OneReader   OpenRead under the other number        TwoReaders
--                                CloseRead under the number             NoReader
--   TwoReaders                   a delta on each shard, from the epoch  TwoReaders
--                                of the older to that of the newer
--                                CloseRead of the older                 OneReader, the newer
--                                CloseRead of the newer                 OneReader, the older
--
-- A leading reader was opened while the other holder held nothing; it is one reader, too. The session makes these calls
-- where it is ready, whatever it holds under its own number, and then is ready and holds that. Its calls under its own
-- number, and its groups of jobs, leave the holders in their state.
-- Source: this project's own; AOSI (ICDE 2018) for readers, and materialized views kept by their changes (Gupta, Mumick,
-- Subrahmanian, SIGMOD 1993) for what the two readers of a watch are compared for.
use Rattle.std.specs.Prelude.{◌≡◌, ◌≢◌, ◌⊎◌, ℕ, List, [], ◌∷◌, Option, Some, None}
use Rattle.cube_run.specs.SessionStates.{first_holder, second_holder}
use Rattle.core_events.specs.Clients.{Holding, ClientState, holds_without, reader_up_to}

-- A number under which the session holds a reader for a watch.
abbrev pub IsHolderOf : ℕ → ℕ → Type 0
IsHolderOf session number = (number ≡ first_holder session) ⊎ (number ≡ second_holder session)

-- What holders hold: no reader; one that leads, or one, under a number and up to an epoch; or two, in the order of
-- opening.
pub data HeldReaders : Type 0 where
  NoReader : HeldReaders
  LeadingReader : (number epoch : ℕ) → HeldReaders
  OneReader : (number epoch : ℕ) → HeldReaders
  TwoReaders : (older from newer to : ℕ) → HeldReaders

abbrev pub reader_under : ℕ → ℕ → Holding
reader_under number epoch = record { number = number; snapshot = reader_up_to epoch }

-- No holder leads, or this one does.
abbrev pub LeadsAtMost : ℕ → Option ℕ → Type 0
LeadsAtMost number leader = (leader ≡ None) ⊎ (leader ≡ Some number)

module _ (session : ℕ) (holds : List Holding) (leader : Option ℕ) where
  pub record HoldsNoReader : Type 0 where
    pub others : holds_without session holds ≡ []
    pub leads : leader ≡ None

  pub record HoldsOneReader (number epoch : ℕ) : Type 0 where
    pub holder : IsHolderOf session number
    pub others : holds_without session holds ≡ reader_under number epoch ∷ []
    pub leads : LeadsAtMost number leader

  pub record HoldsTwoReaders (older from newer to : ℕ) : Type 0 where
    pub first : IsHolderOf session older
    pub second : IsHolderOf session newer
    pub apart : older ≢ newer
    pub others : holds_without session holds ≡ reader_under older from ∷ reader_under newer to ∷ []
    pub leads : LeadsAtMost older leader

  abbrev pub HoldReaders : HeldReaders → Type 0
  HoldReaders NoReader = HoldsNoReader
  HoldReaders (LeadingReader number epoch) = HoldsOneReader number epoch × (leader ≡ Some number)
  HoldReaders (OneReader number epoch) = HoldsOneReader number epoch
  HoldReaders (TwoReaders older from newer to) = HoldsTwoReaders older from newer to

-- The session's holders hold these.
abbrev pub HasReaders : ℕ → HeldReaders → ClientState → Type 0
HasReaders session readers k = HoldReaders session k.holds k.leader readers

-- The number is none of those that hold, and a second reader may be opened at most.
abbrev pub IsFreeBeside : ℕ → HeldReaders → Type 0
IsFreeBeside number NoReader = Unit {0}
IsFreeBeside number (LeadingReader other epoch) = other ≢ number
IsFreeBeside number (OneReader other epoch) = other ≢ number
IsFreeBeside number (TwoReaders older from newer to) = ⊥

-- The readers once one more is opened.
abbrev pub readers_with : ℕ → ℕ → HeldReaders → HeldReaders
readers_with number epoch NoReader = LeadingReader number epoch
readers_with number epoch (LeadingReader other from) = TwoReaders other from number epoch
readers_with number epoch (OneReader other from) = TwoReaders other from number epoch
readers_with number epoch (TwoReaders older from newer to) = TwoReaders older from newer to

-- The number is one of those that hold.
abbrev pub HasReaderUnder : ℕ → HeldReaders → Type 0
HasReaderUnder number NoReader = ⊥
HasReaderUnder number (LeadingReader other epoch) = other ≡ number
HasReaderUnder number (OneReader other epoch) = other ≡ number
HasReaderUnder number (TwoReaders older from newer to) = (older ≡ number) ⊎ (newer ≡ number)
