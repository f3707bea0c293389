-- The counters of a journal. A run begins at the epoch that its store keeps safe, or at 0, and each entry changes them.
-- Source: AOSI (ICDE 2018), EC, LCE, LSE and the pending transactions; bounds and rounds are this project's own.
use Rattle.std.specs.Prelude.{ℕ, ◌+◌, ◌-◌, Bool, true, false, not, ◌==◌, List, [], ◌∷◌, ◌++◌, Option, Some, None, fold, filter, min, if◌then◌else◌}
use Rattle.cube_values.specs.declared.snapshot.Snapshot.{Snapshot}
use Rattle.cube_journal.specs.declared.counters.Counters.{Counters}
use Rattle.cube_journal.specs.declared.counters.OpenSnapshot.{OpenSnapshot}
use Rattle.cube_journal.specs.declared.journal_entry.JournalEntry.{JournalEntry}
use Rattle.cube_journal.specs.declared.journal_entry.JournalEntry.TheVariants as entry
use Rattle.cube_journal.specs.declared.journal_entry.LostCause.TheVariants.{Disk}
use Rattle.cube_journal.specs.Entries.{takes_epoch}

-- What a journal has come to: EC, the next epoch; the pending epochs, of transactions that began and have not ended;
-- LSE, the latest safe epoch; the open snapshots in the order of opening; the epoch of the open round; and whether a
-- round was lost to the disk.
pub record JournalState : Type 0 where
  pub ec : ℕ
  pub pending : List ℕ
  pub lse : ℕ
  pub snapshots : List OpenSnapshot
  pub round : Option ℕ
  pub store_failed : Bool

-- LCE, the latest committed epoch: the one before the least of the pending epochs and EC.
abbrev pub lce : JournalState → ℕ
lce s = fold min s.ec s.pending - 1

-- The bound of the snapshot that was opened first among these, or else another epoch.
abbrev pub oldest_bound : List OpenSnapshot → ℕ → ℕ
oldest_bound [] epoch = epoch
oldest_bound (o ∷ snapshots) epoch = o.bound

-- The target of a round: the bound of the snapshot that was opened first, or LCE where none is open.
abbrev pub target : JournalState → ℕ
target s = oldest_bound s.snapshots (lce s)

-- The snapshot that a session holds.
abbrev pub held_by : List OpenSnapshot → ℕ → Option Snapshot
held_by [] session = None
held_by (o ∷ snapshots) session = if o.session == session then Some o.snapshot else held_by snapshots session

-- EC rises with each epoch that is taken.
abbrev pub ec_after : ℕ → JournalEntry → ℕ
ec_after ec e = if takes_epoch e then ec + 1 else ec

-- The epoch of a transaction is pending from its Begin to its Committed or Aborted.
abbrev pub pending_after : List ℕ → JournalEntry → List ℕ
pending_after pending (entry.Begin session statement epoch deps) = pending ++ epoch ∷ []
pending_after pending (entry.Committed session statement epoch) = filter (λ e. not (e == epoch)) pending
pending_after pending (entry.Aborted session statement epoch cause) = filter (λ e. not (e == epoch)) pending
pending_after pending _ = pending

-- The end of a round that kept all makes its epoch the safe one.
abbrev pub lse_after : ℕ → JournalEntry → ℕ
lse_after lse (entry.Safe epoch) = epoch
lse_after lse _ = lse

-- Open snapshots without those of a session.
abbrev pub snapshots_without : ℕ → List OpenSnapshot → List OpenSnapshot
snapshots_without session snapshots = filter (λ o. not (o.session == session)) snapshots

-- A snapshot is open from its Begin or Read to its session's Committed, Aborted or ReadEnd. Its bound is LCE before.
abbrev pub snapshots_after : ℕ → List OpenSnapshot → JournalEntry → List OpenSnapshot
snapshots_after bound snapshots (entry.Begin session statement epoch deps) =
    snapshots
    ++ (record { session = session; bound = bound; snapshot = record { epoch = epoch; deps = deps; own = true } }) ∷ []
snapshots_after bound snapshots (entry.Read session statement epoch) =
    snapshots
    ++ (record { session = session; bound = bound; snapshot = record { epoch = epoch; deps = []; own = false } }) ∷ []
snapshots_after bound snapshots (entry.ReadEnd session statement) = snapshots_without session snapshots
snapshots_after bound snapshots (entry.Committed session statement epoch) = snapshots_without session snapshots
snapshots_after bound snapshots (entry.Aborted session statement epoch cause) = snapshots_without session snapshots
snapshots_after bound snapshots _ = snapshots

-- A round is open from its Round to the next Safe or RoundLost.
abbrev pub round_after : Option ℕ → JournalEntry → Option ℕ
round_after round (entry.Round epoch) = Some epoch
round_after round (entry.Safe epoch) = None
round_after round (entry.RoundLost epoch cause) = None
round_after round _ = round

-- The store has failed once a round is lost to the disk.
abbrev pub store_failed_after : Bool → JournalEntry → Bool
store_failed_after failed (entry.RoundLost epoch Disk) = true
store_failed_after failed _ = failed

-- What one more entry makes of it.
abbrev pub state_after : JournalState → JournalEntry → JournalState
state_after s e = record {
  ec = ec_after s.ec e;
  pending = pending_after s.pending e;
  lse = lse_after s.lse e;
  snapshots = snapshots_after (lce s) s.snapshots e;
  round = round_after s.round e;
  store_failed = store_failed_after s.store_failed e;
}

-- How a run begins whose store keeps all up to a safe epoch; a run without a store begins at 0.
abbrev pub opening_state : ℕ → JournalState
opening_state safe =
    record { ec = safe + 1; pending = []; lse = safe; snapshots = []; round = None; store_failed = false }

-- What a journal has come to.
abbrev pub journal_state : ℕ → List JournalEntry → JournalState
journal_state safe journal = fold state_after (opening_state safe) journal

-- The counters in a state.
abbrev pub counters_in : JournalState → Counters
counters_in s = record { ec = s.ec; lce = lce s; lse = s.lse; pending = s.pending }

-- The counters of a journal.
abbrev pub counters : ℕ → List JournalEntry → Counters
counters safe journal = counters_in (journal_state safe journal)
