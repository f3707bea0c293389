-- The calls of a statement that changes rows go on, and leave the readers of its session.
use Rattle.std.proofs.Common.{ℕ, List, [], ◌++◌, subst, append_assoc}
use mathlib.Core.List.{IsPrefix}
use Rattle.core_cubes.proofs.CallsForStatements.{plain-for}
use Rattle.core_cubes.proofs.CallsGoOn.{go-on-as, go-on-then}
use Rattle.core_cubes.specs.StatementCalls.{IsCallFor}
use Rattle.core_events.specs.Events.{OpenWrite, OpenRead, Commit, AbortEnd, CloseRead, TakeNote, CreateCube, FindCube, CubesFrom, CountersNow, RoundOpen, RoundClose, StoreFailed, ClientCall, OnDesk, OnNames, Post, Fetch, CloseMail, NoChange}
use Rattle.core_states.specs.OwnCalls.{OwnCallsLeave}
use Rattle.core_program.specs.CoreFits.{CoreEntry}
use Rattle.core_states.proofs.LeftCalls.{left-nothing, longer-front}
use Rattle.core_states.specs.LeftBehind.{AddsEntries, GoOnByCalls, IsPlainCall, LeavesReaders}
use Rattle.cube_core.specs.declared.cell.CoreCell.{CoreCell}
use Rattle.cube_journal.specs.declared.journal_entry.JournalEntry.{JournalEntry}
use Rattle.cube_language.specs.declared.statement.Statement.{Statement}
use Rattle.linked_shards.specs.CellShards.{CoreShardStands}
use Rattle.shard_events.specs.ShardsInRuns.{FitsShard, ShardAnswerSays}
use Rattle.linked_shards.specs.declared.cell.CoreShard.{CoreShard}
use Rattle.core_changes.specs.CallsOfChanges.{IsCallOfChange, LeavesForChange}
use Rattle.cube_core.specs.HoldStates.{IsUnderOwnNumber}
use Rattle.shard_statements.specs.OverShards.{LeavesOverShards}

under-own : (a : ℕ) (c : ClientCall) → LeavesReaders c → IsUnderOwnNumber a c
under-own a (OnDesk (OpenRead holder statement epoch)) leaves = absurd leaves
under-own a (OnDesk (CloseRead holder statement)) leaves = absurd leaves
under-own a (OnDesk (OpenWrite statement epoch deps)) leaves = tt
under-own a (OnDesk (Commit statement epoch)) leaves = tt
under-own a (OnDesk (AbortEnd statement epoch cause)) leaves = tt
under-own a (OnDesk (TakeNote note counters)) leaves = tt
under-own a (OnDesk (CreateCube statement decl said)) leaves = tt
under-own a (OnDesk (FindCube statement name found)) leaves = tt
under-own a (OnDesk (CubesFrom place cubes)) leaves = tt
under-own a (OnDesk (CountersNow counters)) leaves = tt
under-own a (OnDesk (RoundOpen answer)) leaves = tt
under-own a (OnDesk (RoundClose epoch end)) leaves = tt
under-own a (OnDesk (StoreFailed failed)) leaves = tt
under-own a (OnNames c) leaves = tt
under-own a (Post mail job) leaves = tt
under-own a (Fetch mail said) leaves = tt
under-own a (CloseMail mail) leaves = tt
under-own a NoChange leaves = tt

module _ (cells : List (CoreCell CoreShard)) (caller session number : ℕ) (s : Statement) where
  abbrev GoOn : (ClientCall → Type 0) → List CoreEntry → List CoreEntry → Type 0
  GoOn Is own now = GoOnByCalls FitsShard CoreShardStands ShardAnswerSays cells caller session Is own now

  abbrev Left : List CoreEntry → List CoreEntry → List JournalEntry → Type 0
  Left own now added = LeavesForChange cells caller session number s own now added

  pub by-search : (own now : List CoreEntry) (added : List JournalEntry) → IsPrefix own now
      → AddsEntries FitsShard CoreShardStands ShardAnswerSays cells caller session own now added
      → GoOn (IsCallFor number s) own now → Left own now added
  by-search own now added more adds goes = record {
    more = more;
    entries = adds;
    calls =
        go-on-as FitsShard CoreShardStands ShardAnswerSays cells caller session (IsCallFor number s)
        (IsCallOfChange number s) own now (λ c is. record { speaks = is.speaks; readers = is.readers }) goes;
  }

  pub by-plain-calls : (own now : List CoreEntry) (added : List JournalEntry)
      → LeavesOverShards cells caller session own now added → Left own now added
  by-plain-calls own now added left =
      by-search own now added left.more left.entries
      (go-on-as FitsShard CoreShardStands ShardAnswerSays cells caller session IsPlainCall (IsCallFor number s) own now
      (plain-for number s) left.plain)

  pub by-no-call : (own : List CoreEntry) → Left own own []
  by-no-call own =
      by-plain-calls own own [] (left-nothing FitsShard CoreShardStands ShardAnswerSays cells caller session own)

  pub by-more-calls : (own mid now : List CoreEntry) (added more : List JournalEntry) → Left own mid added
      → Left mid now more → Left own now (added ++ more)
  by-more-calls own mid now added more one two = record {
    more = longer-front own mid now one.more two.more;
    entries = λ entries leave.
        subst (λ (es : List JournalEntry). OwnCallsLeave FitsShard CoreShardStands ShardAnswerSays cells caller session
        now es) (append_assoc entries added more) (two.entries (entries ++ added) (one.entries entries leave));
    calls =
        go-on-then FitsShard CoreShardStands ShardAnswerSays cells caller session (IsCallOfChange number s) own mid now
        two.more one.calls two.calls;
  }

  pub leaves-watch : (own now : List CoreEntry) (added : List JournalEntry) → Left own now added
      → GoOn (IsUnderOwnNumber session) own now
  leaves-watch own now added left =
      go-on-as FitsShard CoreShardStands ShardAnswerSays cells caller session (IsCallOfChange number s)
      (IsUnderOwnNumber session) own now (λ c is. under-own session c is.readers) left.calls
