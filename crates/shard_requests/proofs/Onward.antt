-- What calls leave that go on from others, and what a session then holds.
use Rattle.std.proofs.Common.{ℕ, Bool, true, false, List, [], ◌∷◌, ◌++◌, inl, inr, refl}
use Rattle.std.specs.Bool.{OnFalse, OnTrue}
use Rattle.core_program.specs.CoreFits.{CoreEntry}
use Rattle.core_states.proofs.LeftCalls.{left-nothing, left-then}
use Rattle.cube_core.specs.declared.cell.CoreCell.{CoreCell}
use Rattle.cube_journal.specs.declared.journal_entry.JournalEntry.{JournalEntry}
use Rattle.cube_journal.specs.declared.journal_entry.JournalEntry.TheVariants as entry
use Rattle.cube_run.specs.StatementEntries.{LeavesRound, round_done}
use Rattle.session_snapshots.specs.KnownHolds.{HoldsTheSame}
use Rattle.linked_shards.specs.CellShards.{CoreShardStands}
use Rattle.linked_shards.specs.declared.cell.CoreShard.{CoreShard}
use Rattle.shard_events.specs.ShardsInRuns.{FitsShard, ShardAnswerSays}
use Rattle.shard_requests.specs.RoundsAfter.{HasFollowed, HasStoppedInRound}
use Rattle.shard_statements.specs.OverShards.{LeavesOverShards}

-- A session that holds the same twice holds the same.
pub same-then : (session : ℕ) (cells : List (CoreCell CoreShard)) (caller : ℕ) (own : List CoreEntry)
    (mid_cells : List (CoreCell CoreShard)) (mid_caller : ℕ) (mid : List CoreEntry)
    (new_cells : List (CoreCell CoreShard)) (new_caller : ℕ) (now : List CoreEntry)
    → HoldsTheSame FitsShard CoreShardStands ShardAnswerSays session cells caller own mid_cells mid_caller mid
    → HoldsTheSame FitsShard CoreShardStands ShardAnswerSays session mid_cells mid_caller mid new_cells new_caller now
    → HoldsTheSame FitsShard CoreShardStands ShardAnswerSays session cells caller own new_cells new_caller now
same-then session cells caller own mid_cells mid_caller mid new_cells new_caller now one two = record {
  ready = λ held holds. two.ready held (one.ready held holds);
  reader = λ s holds. two.reader s (one.reader s holds);
  writer = λ s holds. two.writer s (one.writer s holds);
}

module _ (cells : List (CoreCell CoreShard)) (caller session : ℕ) where
  abbrev Left : List CoreEntry → List CoreEntry → List JournalEntry → Type 0
  Left own now added = LeavesOverShards cells caller session own now added

  -- By calls, and then more.
  pub goes-on : (own mid now : List CoreEntry) (added more : List JournalEntry) → Left own mid added → Left mid now more
      → Left own now (added ++ more)
  goes-on own mid now added more one two =
      left-then FitsShard CoreShardStands ShardAnswerSays cells caller session own mid now added more one two

  pub true-then : (own mid now : List CoreEntry) (more : List JournalEntry) (is : Bool) → Left own mid []
      → OnTrue is (Left mid now more) → OnTrue is (Left own now more)
  true-then own mid now more true one two = goes-on own mid now [] more one two
  true-then own mid now more false one two = tt

  pub false-then : (own mid now : List CoreEntry) (is : Bool) → Left own mid [] → OnFalse is (Left mid now [])
      → OnFalse is (Left own now [])
  false-then own mid now true one two = tt
  false-then own mid now false one two = goes-on own mid now [] [] one two

  module _ (statement : ℕ) where
    abbrev Follows : List CoreEntry → List CoreEntry → Type 0
    Follows own now = HasFollowed cells caller session statement true own now

    abbrev Stops : List CoreEntry → List CoreEntry → Type 0
    Stops own now = HasStoppedInRound cells caller session statement own now

    abbrev flushed : List JournalEntry
    flushed = entry.Flushed session statement ∷ []

    -- A round is noted, and then its purge.
    pub follows-noted : (own mid now : List CoreEntry) (epoch : ℕ) (is : Bool) → Left own mid flushed
        → OnTrue is (Left mid now (entry.Purged session statement epoch ∷ [])) → OnTrue is (Follows own now)
    follows-noted own mid now epoch true one two = record {
      added = entry.Flushed session statement ∷ entry.Purged session statement epoch ∷ [];
      left = goes-on own mid now flushed (entry.Purged session statement epoch ∷ []) one two;
      follows = round_done epoch;
    }
    follows-noted own mid now epoch false one two = tt

    pub stops-noted : (own mid now : List CoreEntry) (is : Bool) → Left own mid flushed → OnFalse is (Left mid now [])
        → OnFalse is (Stops own now)
    stops-noted own mid now true one two = tt
    stops-noted own mid now false one two =
        record { added = flushed; left = goes-on own mid now flushed [] one two; half = inr refl }

    -- It stops with nothing noted.
    pub stops-at-once : (own now : List CoreEntry) → Left own now [] → Stops own now
    stops-at-once own now left = record { added = []; left = left; half = inl refl }

    pub stops-false : (own now : List CoreEntry) (is : Bool) → OnFalse is (Left own now []) → OnFalse is (Stops own now)
    stops-false own now true left = tt
    stops-false own now false left = stops-at-once own now left

    -- The round is refused.
    pub follows-refused : (own now : List CoreEntry) (code : ℕ) (is : Bool)
        → LeavesRound session statement (entry.Refused session statement code ∷ [])
        → OnTrue is (Left own now (entry.Refused session statement code ∷ [])) → OnTrue is (Follows own now)
    follows-refused own now code true round left =
        record { added = entry.Refused session statement code ∷ []; left = left; follows = round }
    follows-refused own now code false round left = tt

    -- It goes on from calls that leave nothing.
    pub follows-then : (own mid now : List CoreEntry) (is : Bool) → Left own mid [] → OnTrue is (Follows mid now)
        → OnTrue is (Follows own now)
    follows-then own mid now true one two =
        record { added = two.added; left = goes-on own mid now [] two.added one two.left; follows = two.follows }
    follows-then own mid now false one two = tt

    pub stops-then : (own mid now : List CoreEntry) (is : Bool) → Left own mid [] → OnFalse is (Stops mid now)
        → OnFalse is (Stops own now)
    stops-then own mid now true one two = tt
    stops-then own mid now false one two =
        record { added = two.added; left = goes-on own mid now [] two.added one two.left; half = two.half }

    -- Nothing follows where no round is due.
    pub follows-none : (own : List CoreEntry) → HasFollowed cells caller session statement false own own
    follows-none own = record {
      added = [];
      left = left-nothing FitsShard CoreShardStands ShardAnswerSays cells caller session own;
      follows = refl;
    }
