-- Main posts a purge to each shard, and fetches the answer of each.
use Rattle.std.proofs.Common.{◌≡◌, ◌∙◌, ℕ, zero, suc, ◌+◌, ◌<◌, ◌≤◌, List, [], ◌∷◌, ◌++◌, length, replicate, slice_get, Some, refl, sym, ap, subst, arith}
use Rattle.std.proofs.lemmas.List.{length-replicate}
use Rattle.core_program.specs.ClientCalls.{HasFetched, LearnsByFetch, post_entry}
use Rattle.cube_core.specs.Links.{AreEventsOf}
use Rattle.cube_core.specs.BoardCells.{IsEntryEvent, job_asked}
use Rattle.core_program.proofs.KnownCalls.{post-learns}
use Rattle.core_program.specs.Knowing.{IsClientOf, Knows, MayFetchFrom, MayPostJob}
use Rattle.core_events.specs.Events.{Opening, CoreEvent, Post}
use Rattle.core_program.specs.CoreFits.{CoreEntry, OpensCells}
use Rattle.cube_core.specs.declared.cell.CoreCell.{CoreCell}
use Rattle.cube_core.specs.declared.jobs.Job.{Job}
use Rattle.cube_core.specs.declared.jobs.JobAnswer.{JobAnswer}
use Rattle.cube_core.specs.declared.jobs.Work.TheVariants as work
use Rattle.cube_core.specs.declared.shard.ShardCall.{ShardCall}
use Rattle.cube_core.specs.declared.shard.ShardCall.TheVariants as call
use Rattle.job_groups.proofs.GroupLoops.{FetchedSome, PostedSome, fetched-next, fetched-none, knows-each, knows-fetch, knows-post, learns-of-each, number-is, posted-next, posted-none}
use Rattle.job_groups.proofs.Waits.{all-differ, as-many, numbers_from}
use Rattle.job_groups.specs.AskedEach.{AreShardMails, HasMore, MayAskEach}
use Rattle.job_groups.specs.EachPosted.{LearnsOfEach}
use Rattle.linked_shards.specs.CellShards.{CoreShardStands}
use Rattle.linked_shards.specs.declared.cell.CoreShard.{CoreShard}
use Rattle.session_groups.proofs.InTurn.{one-kind}
use Rattle.shard_events.specs.ShardsInRuns.{FitsShard, ShardAnswerSays}

there-same : (n k : ℕ) (c : ShardCall) → k < n → slice_get (replicate n c) k ≡ Some c
there-same zero k c low = absurd (omega (arith, low))
there-same (suc n) zero c low = refl
there-same (suc n) (suc k) c low = there-same n k c (omega (arith, low))

module _ (cells : List (CoreCell CoreShard)) (shards epoch : ℕ) (own : List CoreEntry) where
  abbrev purge : ShardCall
  purge = call.Purge epoch

  abbrev calls : List ShardCall
  calls = replicate shards purge

  abbrev numbers : List ℕ
  numbers = numbers_from 0 (length calls)

  abbrev job : Job
  job = record { session = 0; statement = 0; work = work.Shard purge }

  -- So many are posted.
  abbrev pub HasPosted : ℕ → List CoreEntry → Type 0
  HasPosted n now = PostedSome FitsShard CoreShardStands ShardAnswerSays cells 0 0 numbers calls own n now

  -- So many answers are fetched.
  pub record HasFetchedSome (n : ℕ) (now : List CoreEntry) : Type 0 where
    pub answers : List JobAnswer
    pub so_far : FetchedSome FitsShard CoreShardStands ShardAnswerSays cells 0 0 numbers calls own n answers now

  abbrev May : Type 0
  May = Knows FitsShard CoreShardStands ShardAnswerSays cells 0 0 own (MayAskEach FitsShard 0 calls)

  number-of : (n : ℕ) → n < shards → slice_get numbers n ≡ Some n
  number-of n low = let long = length-replicate shards purge in number-is (length calls) n (omega (arith, low, long))

  pub none-posted : HasPosted 0 own
  none-posted = posted-none FitsShard CoreShardStands ShardAnswerSays cells 0 0 numbers calls own

  pub may-post-next : (n : ℕ) (now : List CoreEntry) → HasPosted n now → May → n < shards
      → Knows FitsShard CoreShardStands ShardAnswerSays cells 0 0 now (MayPostJob FitsShard 0 n job)
  may-post-next n now posted may low =
      knows-post FitsShard CoreShardStands ShardAnswerSays cells 0 0 numbers calls own (one-kind shards purge) (all-differ 0 (length calls)) n n 0 now
      purge posted (knows-each FitsShard CoreShardStands ShardAnswerSays cells 0 0 calls own may) (number-of n low) (there-same shards n purge low)

  pub one-posted : (n : ℕ) (now next : List CoreEntry) → HasPosted n now → May → n < shards
      → IsClientOf FitsShard CoreShardStands ShardAnswerSays cells 0 0
      → AreShardMails FitsShard CoreShardStands ShardAnswerSays cells 0 shards (2 + shards)
      → next ≡ now ++ post_entry 0 0 (2 + shards + n) job ∷ [] → HasPosted (n + 1) next
  one-posted n now next posted may low acts mails is =
      posted-next FitsShard CoreShardStands ShardAnswerSays cells 0 0 numbers calls own (one-kind shards purge) (all-differ 0 (length calls)) n n
      (2 + shards + n) 0 now next purge posted (knows-each FitsShard CoreShardStands ShardAnswerSays cells 0 0 calls own may) (number-of n low)
      (there-same shards n purge low) is
      (λ o log es opens are. post-learns FitsShard CoreShardStands ShardAnswerSays cells 0 0 acts n (2 + shards + n) now job o log es (mails.each n low) opens are)

  pub none-fetched : (n : ℕ) (now : List CoreEntry) → n ≡ shards → 1 ≤ n → HasPosted n now → HasFetchedSome 0 now
  none-fetched n now all some posted = record {
    answers = [];
    so_far = fetched-none FitsShard CoreShardStands ShardAnswerSays cells 0 0 numbers calls own n [] now
        (all ∙ sym (length-replicate shards purge) ∙ sym (as-many 0 (length calls))) some refl posted;
  }

  pub may-fetch-next : (n : ℕ) (now : List CoreEntry) → HasFetchedSome n now → n < shards
      → Knows FitsShard CoreShardStands ShardAnswerSays cells 0 0 now (MayFetchFrom 0 n)
  may-fetch-next n now fetched low =
      knows-fetch FitsShard CoreShardStands ShardAnswerSays cells 0 0 numbers calls own n n fetched.answers now fetched.so_far (number-of n low)

  pub one-fetched : (n : ℕ) (now next : List CoreEntry) (said : JobAnswer) → HasFetchedSome n now → n < shards
      → HasFetched 0 0 (2 + shards + n) said now next → LearnsByFetch FitsShard CoreShardStands ShardAnswerSays cells 0 n said now next
      → HasFetchedSome (n + 1) next
  one-fetched n now next said fetched low got learns = record {
    answers = fetched.answers ++ said ∷ [];
    so_far = fetched-next FitsShard CoreShardStands ShardAnswerSays cells 0 0 numbers calls own (one-kind shards purge) (all-differ 0 (length calls)) n n
        (2 + shards + n) fetched.answers now next purge said fetched.so_far (number-of n low) (there-same shards n purge low) got learns;
  }

  pub all-learnt : (n : ℕ) (now : List CoreEntry) → n ≡ shards → (f : HasFetchedSome n now)
      → LearnsOfEach FitsShard CoreShardStands ShardAnswerSays cells 0 0 calls f.answers own now
  all-learnt n now all f =
      learns-of-each FitsShard CoreShardStands ShardAnswerSays cells 0 0 calls own n f.answers now (all ∙ sym (length-replicate shards purge)) f.so_far
