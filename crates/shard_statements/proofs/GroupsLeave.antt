-- A group of jobs that are neither rows nor deletions leaves no entry, by plain calls.
use Rattle.std.proofs.Common.{◌≡◌, ◌∙◌, ℕ, zero, suc, ◌+◌, List, [], ◌∷◌, ◌++◌, length, replicate, refl, sym, ap, subst, arith, append-nil}
use Rattle.std.specs.List.{AllByRecursion}
use Rattle.cube_core.specs.BoardCells.{call_job}
use Rattle.core_program.proofs.KnownCalls.{earlier-run}
use Rattle.core_program.specs.Knowing.{IsLaterRun}
use Rattle.core_events.specs.Clients.{calls_of}
use Rattle.core_events.specs.Events.{Opening, OnDesk, OnNames, Post, Fetch, CloseMail, NoChange, ClientCall, CoreEvent}
use Rattle.core_states.specs.OwnCalls.{OwnCallsLeave}
use Rattle.core_program.specs.CoreFits.{CoreEntry}
use Rattle.core_records.specs.OwnEntries.{entries_by_calls}
use Rattle.core_states.proofs.LeftCalls.{all-of-both}
use Rattle.core_states.specs.LeftBehind.{IsPlainCall, LeavesBehind}
use Rattle.cube_core.specs.declared.cell.CoreCell.{CoreCell}
use Rattle.cube_core.specs.declared.shard.ShardCall.{ShardCall}
use Rattle.cube_core.specs.declared.shard.ShardCall.TheVariants as call
use Rattle.cube_journal.specs.declared.journal_entry.JournalEntry.{JournalEntry}
use Rattle.job_groups.specs.AskedEach.{HasMore, IsGroupCall}
use Rattle.job_groups.specs.AskedSome.{posts_among}
use Rattle.job_groups.specs.EachPosted.{posts_from}
use Rattle.linked_shards.specs.CellShards.{CoreShardStands}
use Rattle.linked_shards.specs.declared.cell.CoreShard.{CoreShard}
use Rattle.session_groups.specs.ShardGroups.{HasAskedAll}
use Rattle.shard_events.specs.ShardsInRuns.{FitsShard, ShardAnswerSays}

group-leaves-none : (o : Opening) (a : ℕ) (added past : List ClientCall) → AllByRecursion IsGroupCall added
    → entries_by_calls o a (added ++ past) ≡ entries_by_calls o a past
group-leaves-none o a [] past only = refl
group-leaves-none o a (Post number job ∷ added) past only = group-leaves-none o a added past only.1
group-leaves-none o a (Fetch number outcome ∷ added) past only = group-leaves-none o a added past only.1
group-leaves-none o a (NoChange ∷ added) past only = group-leaves-none o a added past only.1
group-leaves-none o a (OnDesk c ∷ added) past only = absurd only.0
group-leaves-none o a (OnNames c ∷ added) past only = absurd only.0
group-leaves-none o a (CloseMail number ∷ added) past only = absurd only.0

-- Those that are no posts are plain.
quiet : (later : List ClientCall) → AllByRecursion IsGroupCall later → posts_among later ≡ []
    → AllByRecursion IsPlainCall later
quiet [] only none = tt
quiet (Post number job ∷ later) only none =
    let many = ap (λ (l : List ClientCall). length l) none in absurd (omega (arith, many))
quiet (Fetch number outcome ∷ later) only none = (tt, quiet later only.1 none)
quiet (NoChange ∷ later) only none = (tt, quiet later only.1 none)
quiet (OnDesk c ∷ later) only none = absurd only.0
quiet (OnNames c ∷ later) only none = absurd only.0
quiet (CloseMail number ∷ later) only none = absurd only.0

-- The job of a call is neither rows nor a deletion.
abbrev pub IsPlainJob : ShardCall → Type 0
IsPlainJob c = (number : ℕ) → IsPlainCall (Post number (call_job c))

posts-are-plain : (c : ShardCall) → IsPlainJob c → (number n : ℕ)
    → AllByRecursion IsPlainCall (posts_from number (replicate n c))
posts-are-plain c plain number zero = tt
posts-are-plain c plain number (suc n) =
    all-of-both IsPlainCall (posts_from (number + 1) (replicate n c)) (Post number (call_job c) ∷ [])
    (posts-are-plain c plain (number + 1) n) (plain number, tt)

first-part : (xs ys : List ClientCall) → AllByRecursion IsGroupCall (xs ++ ys) → AllByRecursion IsGroupCall xs
first-part [] ys all = tt
first-part (x ∷ xs) ys all = (all.0, first-part xs ys all.1)

module _ (cells : List (CoreCell CoreShard)) (caller session : ℕ) (own now : List CoreEntry) where
  abbrev Left : List JournalEntry → Type 0
  Left added = LeavesBehind FitsShard CoreShardStands ShardAnswerSays cells caller session own now added

  abbrev Later : Opening → List CoreEntry → List CoreEntry → List CoreEvent → Type 0
  Later o mine log run = IsLaterRun FitsShard CoreShardStands ShardAnswerSays cells o caller mine log run

  before-more : (o : Opening) (log : List CoreEntry) (run : List CoreEvent) → HasMore own now → Later o now log run
      → Later o own log run
  before-more o log run m later =
      earlier-run FitsShard CoreShardStands ShardAnswerSays cells o caller own m.more log run
      (subst (λ (l : List CoreEntry). Later o l log run) m.whole later)

  no-entry-more : (entries : List JournalEntry)
      → OwnCallsLeave FitsShard CoreShardStands ShardAnswerSays cells caller session now entries
      → OwnCallsLeave FitsShard CoreShardStands ShardAnswerSays cells caller session now (entries ++ [])
  no-entry-more entries leave =
      subst (λ (es : List JournalEntry). OwnCallsLeave FitsShard CoreShardStands ShardAnswerSays cells caller session now es)
      (sym (append-nil entries)) leave

  pub left-by-group : (shards : ℕ) (c : ShardCall) → IsPlainJob c → HasAskedAll cells caller session shards c own now
      → Left []
  left-by-group shards c plain_job asked = record {
    more = (asked.more.more, sym asked.more.whole);
    entries = λ entries leave. no-entry-more entries (λ o log run es later are.
        let h = asked.learns o log run es later are in
        ap (entries_by_calls o session) h.asked.past
        ∙ group-leaves-none o session h.asked.added (calls_of session h.asked.before) h.asked.only
        ∙ leave o log run h.asked.before (before-more o log run asked.more later) h.asked.events);
    plain = λ o log run es later are.
        let h = asked.learns o log run es later are in
        let posts = posts_from 0 (replicate shards c) in
        let only : AllByRecursion IsGroupCall (h.later ++ posts) =
        subst (λ (l : List ClientCall). AllByRecursion IsGroupCall l) h.order h.asked.only
        in
        record {
          before = h.asked.before;
          events = h.asked.events;
          added = h.later ++ posts;
          calls = h.asked.past ∙ ap (λ (l : List ClientCall). l ++ calls_of session h.asked.before) h.order;
          each = all-of-both IsPlainCall h.later posts (quiet h.later (first-part h.later posts only) h.none)
              (posts-are-plain c plain_job 0 shards);
        };
  }

  pub left-by-rollback : (shards epoch : ℕ) → HasAskedAll cells caller session shards (call.Rollback epoch) own now
      → Left []
  left-by-rollback shards epoch asked = left-by-group shards (call.Rollback epoch) (λ number. tt) asked
