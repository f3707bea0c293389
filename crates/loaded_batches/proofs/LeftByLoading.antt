-- What the calls of a LOAD leave: no entry, and rows at one epoch alone.
use Rattle.std.proofs.Common.{◌≡◌, ◌∙◌, ℕ, List, [], ◌∷◌, ◌++◌, refl, sym, ap, subst, append-nil}
use Rattle.std.specs.List.{AllByRecursion}
use Rattle.core_cubes.specs.StatementCalls.{SpeaksFor}
use Rattle.core_events.specs.Clients.{calls_of}
use Rattle.core_events.specs.Events.{Opening, OnDesk, OnNames, Post, Fetch, CloseMail, NoChange, ClientCall}
use Rattle.core_events.specs.Jobs.{Append, DropBox, Scan, Delta, Rollback, Purge, CopyRound, Flush}
use Rattle.core_states.specs.OwnCalls.{OwnCallsLeave}
use Rattle.core_program.specs.CoreFits.{CoreEntry}
use Rattle.core_records.specs.OwnEntries.{entries_by_calls}
use Rattle.core_states.specs.LeftBehind.{AddsCalls, AddsEntries, GoOnByCalls, LeavesReaders}
use Rattle.cube_core.specs.declared.cell.CoreCell.{CoreCell}
use Rattle.cube_journal.specs.declared.journal_entry.JournalEntry.{JournalEntry}
use Rattle.cube_language.specs.declared.statement.Statement.{Statement}
use Rattle.linked_shards.specs.CellShards.{CoreShardStands}
use Rattle.shard_events.specs.ShardsInRuns.{FitsShard, ShardAnswerSays}
use Rattle.linked_shards.specs.declared.cell.CoreShard.{CoreShard}
use Rattle.posted_pasts.proofs.AddedCalls.{at-epoch}
use Rattle.posted_pasts.specs.PostsAdded.{AddsAtEpoch, LearnsThat, PostsAtEpoch}
use Rattle.loaded_batches.specs.LoadingCalls.{GoesOnLoading, IsLoadCall}
use Rattle.loaded_batches.proofs.LoadingMoments.{later-before}

leaves-none : (o : Opening) (a cube epoch : ℕ) (added past : List ClientCall)
    → AllByRecursion (IsLoadCall cube epoch) added
    → entries_by_calls o a (added ++ past) ≡ entries_by_calls o a past
leaves-none o a cube epoch [] past each = refl
leaves-none o a cube epoch (OnNames c ∷ added) past each = leaves-none o a cube epoch added past each.1
leaves-none o a cube epoch (Post mail job ∷ added) past each = leaves-none o a cube epoch added past each.1
leaves-none o a cube epoch (Fetch mail outcome ∷ added) past each = leaves-none o a cube epoch added past each.1
leaves-none o a cube epoch (NoChange ∷ added) past each = leaves-none o a cube epoch added past each.1
leaves-none o a cube epoch (OnDesk c ∷ added) past each = absurd each.0
leaves-none o a cube epoch (CloseMail mail ∷ added) past each = absurd each.0

pub speaks : (cube epoch number : ℕ) (s : Statement) (call : ClientCall) → IsLoadCall cube epoch call → SpeaksFor number s call
speaks cube epoch number s (OnNames c) is = tt
speaks cube epoch number s (Post mail job) is = tt
speaks cube epoch number s (Fetch mail outcome) is = tt
speaks cube epoch number s NoChange is = tt
speaks cube epoch number s (OnDesk c) is = absurd is
speaks cube epoch number s (CloseMail mail) is = absurd is

pub without-readers : (cube epoch : ℕ) (call : ClientCall) → IsLoadCall cube epoch call → LeavesReaders call
without-readers cube epoch (OnNames c) is = tt
without-readers cube epoch (Post mail job) is = tt
without-readers cube epoch (Fetch mail outcome) is = tt
without-readers cube epoch NoChange is = tt
without-readers cube epoch (OnDesk c) is = absurd is
without-readers cube epoch (CloseMail mail) is = absurd is

at-its-epoch : (cube epoch : ℕ) (call : ClientCall) → IsLoadCall cube epoch call → PostsAtEpoch epoch call
at-its-epoch cube epoch (OnNames c) is = tt
at-its-epoch cube epoch (Post mail (Append other at rows)) is = is.1
at-its-epoch cube epoch (Post mail (DropBox other at box)) is = absurd is
at-its-epoch cube epoch (Post mail (Scan query s)) is = tt
at-its-epoch cube epoch (Post mail (Delta query from to)) is = tt
at-its-epoch cube epoch (Post mail (Rollback at)) is = tt
at-its-epoch cube epoch (Post mail (Purge at)) is = tt
at-its-epoch cube epoch (Post mail (CopyRound from to)) is = tt
at-its-epoch cube epoch (Post mail Flush) is = tt
at-its-epoch cube epoch (Fetch mail outcome) is = tt
at-its-epoch cube epoch NoChange is = tt
at-its-epoch cube epoch (OnDesk c) is = absurd is
at-its-epoch cube epoch (CloseMail mail) is = absurd is

each-is : (Is Then : ClientCall → Type 0) → ((call : ClientCall) → Is call → Then call) → (calls : List ClientCall)
    → AllByRecursion Is calls → AllByRecursion Then calls
each-is Is Then step [] each = tt
each-is Is Then step (call ∷ calls) each = (step call each.0, each-is Is Then step calls each.1)

module _ (cells : List (CoreCell CoreShard)) (caller session cube epoch : ℕ) (own now : List CoreEntry)
    (goes : GoesOnLoading cells caller session cube epoch own now) where
  pub no-entries : AddsEntries FitsShard CoreShardStands ShardAnswerSays cells caller session own now []
  no-entries = λ entries leave.
      subst (λ (es : List JournalEntry).
      OwnCallsLeave FitsShard CoreShardStands ShardAnswerSays cells caller session now es) (sym (append-nil entries))
      (λ o log run es later are.
      let a : AddsCalls FitsShard CoreShardStands ShardAnswerSays (IsLoadCall cube epoch) o session own es =
      goes.calls o log run es later are
      in
      ap (entries_by_calls o session) a.calls
      ∙ leaves-none o session cube epoch a.added (calls_of session a.before) a.each
      ∙ leave o log run a.before (later-before cells caller session o own now log run goes.more later) a.events)

  pub by-such : (Then : ClientCall → Type 0) → ((call : ClientCall) → IsLoadCall cube epoch call → Then call)
      → GoOnByCalls FitsShard CoreShardStands ShardAnswerSays cells caller session Then own now
  by-such Then step = λ o log run es later are.
      let a : AddsCalls FitsShard CoreShardStands ShardAnswerSays (IsLoadCall cube epoch) o session own es =
      goes.calls o log run es later are
      in
      record {
        before = a.before;
        events = a.events;
        added = a.added;
        calls = a.calls;
        each = each-is (IsLoadCall cube epoch) Then step a.added a.each;
      }

  pub speak-for : (number : ℕ) (s : Statement)
      → GoOnByCalls FitsShard CoreShardStands ShardAnswerSays cells caller session (SpeaksFor number s) own now
  speak-for number s = by-such (SpeaksFor number s) (speaks cube epoch number s)

  pub leave-readers : GoOnByCalls FitsShard CoreShardStands ShardAnswerSays cells caller session LeavesReaders own now
  leave-readers = by-such LeavesReaders (without-readers cube epoch)

  pub nothing-else : LearnsThat FitsShard CoreShardStands ShardAnswerSays (AddsAtEpoch epoch) cells caller session own
      now
  nothing-else = λ o log run es later are.
      let a : AddsCalls FitsShard CoreShardStands ShardAnswerSays (IsLoadCall cube epoch) o session own es =
      goes.calls o log run es later are
      in
      record {
        before = a.before;
        events = a.events;
        adds =
            coe 1 0 (i. AddsAtEpoch epoch session o (calls_of session a.before) (a.calls i))
            (at-epoch o session epoch a.added (calls_of session a.before)
            (each-is (IsLoadCall cube epoch) (PostsAtEpoch epoch) (at-its-epoch cube epoch) a.added a.each));
      }
