-- The fields of a register are what its journal says.
use Rattle.std.specs.Prelude.{◌≡◌, ℕ, ◌+◌, ◌-◌, ◌^◌, ◌≤◌, Bool, true, false, fold, min, replicate, List, [], ◌∷◌, ◌++◌, length, slice_set, Option, Some, None, vec_capacity}
use Rattle.cube_values.specs.declared.snapshot.Snapshot.{Snapshot}
use Rattle.cube_journal.specs.declared.counters.Counters.{Counters}
use Rattle.cube_journal.specs.declared.counters.OpenSnapshot.{OpenSnapshot}
use Rattle.cube_journal.specs.declared.journal_entry.LostCause.TheVariants.{Disk, Memory}
use Rattle.aosi_desk.specs.declared.answer.RoundEnd.{RoundEnd}
use Rattle.aosi_desk.specs.declared.answer.RoundEnd.TheVariants.{Safe, Lost}
use Rattle.cube_journal.specs.declared.journal_entry.JournalEntry.{JournalEntry}
use Rattle.cube_journal.specs.Counters.{JournalState, journal_state, oldest_bound}
use Rattle.cube_journal.specs.Legal.{CountersAllowAll}
use Rattle.linked_roll.specs.declared.ticket.Ticket.{Ticket}
use Rattle.linked_roll.specs.Members.{Member, member, item_by_ticket, items, members_without, TicketsDiffer}
use Rattle.aosi_desk.specs.Holds.{hold_of, HoldFits, HoldsFit, WritersCount, Rise}
use Rattle.aosi_desk.specs.declared.hold.Hold.{Hold}
use Rattle.aosi_desk.specs.declared.hold.Hold.TheVariants.{Free, Reader, Writer}
use Rattle.aosi_desk.specs.declared.fields.Fields.{Fields}

-- The fields without their spare room.
pub record Contents : Type 0 where
  pub journal : List JournalEntry
  pub ec : ℕ
  pub lse : ℕ
  pub snapshots : List (Member OpenSnapshot)
  pub pending : List (Member ℕ)
  pub holds : List Hold
  pub round : Option ℕ
  pub store_failed : Bool

abbrev pub contents : Fields → Contents
contents f = record {
  journal = f.journal.items;
  ec = f.ec;
  lse = f.lse;
  snapshots = f.snapshots.members;
  pending = f.pending.members;
  holds = f.holds.items;
  round = f.round;
  store_failed = f.store_failed;
}

-- Those of an empty journal.
abbrev pub opening_contents : ℕ → Contents
opening_contents safe = record {
  journal = [];
  ec = safe + 1;
  lse = safe;
  snapshots = [];
  pending = [];
  holds = replicate 49 Free;
  round = None;
  store_failed = false;
}

-- The latest committed epoch.
abbrev pub lce_of : Contents → ℕ
lce_of k = fold min k.ec (items k.pending) - 1

-- The target of a round.
abbrev pub target_of : Contents → ℕ
target_of k = oldest_bound (items k.snapshots) (lce_of k)

-- The snapshot of a writer that opens next.
abbrev pub next_snapshot : Contents → Snapshot
next_snapshot k = record { epoch = k.ec; deps = items k.pending; own = true }

-- The counters.
abbrev pub counters_of : Contents → Counters
counters_of k = record { ec = k.ec; lce = lce_of k; lse = k.lse; pending = items k.pending }

-- With one more entry.
abbrev pub with_last : Contents → JournalEntry → Contents
with_last k e = record k { journal = k.journal ++ e ∷ [] }

-- The tickets of a session agree with the rolls.
abbrev pub HasTickets : Contents → ℕ → Type 0
HasTickets k session = HoldFits k.snapshots k.pending session (hold_of k.holds session)

-- The round of an epoch is closed.
abbrev pub without_round : Contents → ℕ → RoundEnd → Contents
without_round k epoch Safe = record k { lse = epoch; round = None }
without_round k epoch (Lost Disk) = record k { round = None; store_failed = true }
without_round k epoch (Lost Memory) = record k { round = None }

-- They are those of a state.
pub record ShowsState (k : Contents) (s : JournalState) : Type 0 where
  pub ec : k.ec ≡ s.ec
  pub lse : k.lse ≡ s.lse
  pub round : k.round ≡ s.round
  pub store_failed : k.store_failed ≡ s.store_failed
  pub snapshots : items k.snapshots ≡ s.snapshots
  pub pending : items k.pending ≡ s.pending

-- How large they are.
pub record FitsSizes (k : Contents) (sessions safe : ℕ) : Type 0 where
  pub holds : length k.holds ≡ 49
  pub few : sessions ≤ 16
  pub low : safe ≤ 2 ^ 61
  pub ec : k.ec ≤ safe + 1 + length k.journal

-- The journal is legal by its counters, and the other fields agree with it.
pub record FitsJournal (k : Contents) (sessions safe : ℕ) : Type 0 where
  pub legal : CountersAllowAll safe [] k.journal
  pub state : ShowsState k (journal_state safe k.journal)
  pub sizes : FitsSizes k sessions safe
  pub holds : HoldsFit k.holds k.snapshots k.pending
  pub writers : WritersCount k.holds sessions (length k.pending)
  pub rise : Rise 0 (items k.pending) k.ec
  pub snapshot_tickets : TicketsDiffer k.snapshots
  pub pending_tickets : TicketsDiffer k.pending

-- How many entries an open round is owed.
abbrev pub round_owed : Option ℕ → ℕ
round_owed None = 0
round_owed (Some epoch) = 1

-- How many entries will end what is open: one for each open snapshot, and one for an open round.
abbrev pub entries_owed : Contents → ℕ
entries_owed k = length k.snapshots + round_owed k.round

-- So many entries fit with no memory, beside those that will end what is open.
abbrev pub HasRoomFor : Fields → ℕ → Type 0
HasRoomFor f more = length f.journal.items + (entries_owed (contents f) + more) ≤ vec_capacity f.journal

-- A writer's snapshot is opened, and the next epoch taken.
pub record BeginsSnapshot (old new : Contents) (o : OpenSnapshot) : Type 0 where
  pub ticket : Ticket
  pub other : Ticket
  pub fresh : item_by_ticket old.snapshots ticket ≡ None
  pub other_fresh : item_by_ticket old.pending other ≡ None
  pub is : new ≡ record old {
    ec = old.ec + 1;
    snapshots = old.snapshots ++ member ticket o ∷ [];
    pending = old.pending ++ member other old.ec ∷ [];
    holds = slice_set old.holds o.session (Writer ticket other);
  }

-- A reader's snapshot is opened.
pub record Reads (old new : Contents) (o : OpenSnapshot) : Type 0 where
  pub ticket : Ticket
  pub fresh : item_by_ticket old.snapshots ticket ≡ None
  pub is : new ≡ record old {
    snapshots = old.snapshots ++ member ticket o ∷ [];
    holds = slice_set old.holds o.session (Reader ticket);
  }

-- The writer of a session ends, and its epoch is pending no more.
pub record EndsWriter (old new : Contents) (session epoch : ℕ) : Type 0 where
  pub ticket : Ticket
  pub other : Ticket
  pub was : hold_of old.holds session ≡ Writer ticket other
  pub found : item_by_ticket old.pending other ≡ Some epoch
  pub is : new ≡ record old {
    snapshots = members_without ticket old.snapshots;
    pending = members_without other old.pending;
    holds = slice_set old.holds session Free;
  }

-- The reader of a session ends.
pub record EndsReader (old new : Contents) (session : ℕ) : Type 0 where
  pub ticket : Ticket
  pub was : hold_of old.holds session ≡ Reader ticket
  pub is : new ≡ record old {
    snapshots = members_without ticket old.snapshots;
    holds = slice_set old.holds session Free;
  }
