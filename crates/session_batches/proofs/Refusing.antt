-- The first refusal, by answers and by the outcomes that they stand for.
use Rattle.std.proofs.Common.{◌≡◌, ◌∙◌, ℕ, suc, ◌||◌, List, [], ◌∷◌, length, slice_get, Some, refl, sym, ap, arith}
use Rattle.std.specs.List.{list_any}
use Rattle.cube_core.specs.BoardCells.{AnswerSays, call_job}
use Rattle.cube_values.specs.declared.row.CodedRow.{CodedRow}
use Rattle.core_events.specs.Jobs.{Append, JobOutcome, Done, ShardFull, Found, Compared, Copied, StoreLost, OutOfMemory, is_refusal}
use Rattle.cube_core.specs.declared.jobs.FlushAnswer.TheVariants as flush
use Rattle.cube_core.specs.declared.jobs.JobAnswer.{JobAnswer}
use Rattle.cube_core.specs.declared.jobs.JobAnswer.TheVariants as reply
use Rattle.cube_core.specs.declared.shard.ShardAnswer.TheVariants as answer
use Rattle.cube_core.specs.declared.shard.ShardCall.{ShardCall}
use Rattle.cube_core.specs.declared.shard.ShardCall.TheVariants as shard
use Rattle.job_groups.specs.AskedEach.{StandForEach}
use Rattle.linked_shards.specs.CellShards.{CoreShardStands}
use Rattle.shard_events.specs.ShardsInRuns.{FitsShard, ShardAnswerSays}
use Rattle.session_batches.specs.BatchCalls.{AreAppends, IsAppend}
use Rattle.session_batches.specs.Refusals.{first_refusal, first_refused, is_refused, put_by_answer, put_by_outcome}
use Rattle.session_batches.specs.declared.answers.PutEnd.{PutEnd}
use Rattle.session_batches.specs.declared.answers.PutEnd.TheVariants as put

-- An answer to an append tells what its outcome does.
pub told-append : (cube epoch : ℕ) (rows : List CodedRow) (said : JobAnswer) (outcome : JobOutcome) (n : ℕ)
    → AnswerSays ShardAnswerSays (Append cube epoch rows) said outcome → put_by_answer n said ≡ put_by_outcome n outcome
told-append cube epoch rows (reply.Shard answer.Done) outcome n says = ap (put_by_outcome n) (sym says)
told-append cube epoch rows (reply.Shard (answer.ShardFull full)) outcome n says = ap (put_by_outcome n) (sym says)
told-append cube epoch rows (reply.Shard answer.NoMemory) outcome n says = ap (put_by_outcome n) (sym says)
told-append cube epoch rows (reply.Shard a) outcome n says = absurd says
told-append cube epoch rows (reply.Flush flush.Done) outcome n says = ap (put_by_outcome n) (sym says)
told-append cube epoch rows (reply.Flush flush.StoreFailed) outcome n says = ap (put_by_outcome n) (sym says)
told-append cube epoch rows (reply.Flush flush.NoMemory) outcome n says = ap (put_by_outcome n) (sym says)

told-alike : (c : ShardCall) (said : JobAnswer) (outcome : JobOutcome) (n : ℕ) → IsAppend c
    → AnswerSays ShardAnswerSays (call_job c) said outcome → put_by_answer n said ≡ put_by_outcome n outcome
told-alike (shard.Append cube shape epoch rows) said outcome n is says =
    told-append cube epoch rows.rows said outcome n says
told-alike c said outcome n is says = absurd is

-- Where each answer tells what its outcome does, they tell of the same first refusal.
pub refusals-same : (numbers : List ℕ) (answers : List JobAnswer) (outcomes : List JobOutcome)
    → length answers ≡ length numbers → length outcomes ≡ length numbers
    → ((place n : ℕ) (said : JobAnswer) (outcome : JobOutcome) → slice_get numbers place ≡ Some n
    → slice_get answers place ≡ Some said → slice_get outcomes place ≡ Some outcome
    → put_by_answer n said ≡ put_by_outcome n outcome)
    → first_refusal put_by_answer numbers answers ≡ first_refusal put_by_outcome numbers outcomes
refusals-same [] answers outcomes said_all os each = refl
refusals-same (n ∷ numbers) [] outcomes said_all os each = absurd (omega (arith, said_all))
refusals-same (n ∷ numbers) (a ∷ answers) [] said_all os each = absurd (omega (arith, os))
refusals-same (n ∷ numbers) (a ∷ answers) (outcome ∷ outcomes) said_all os each =
    let first = each 0 n a outcome refl refl refl in
    let rest =
    refusals-same numbers answers outcomes (omega (arith, said_all)) (omega (arith, os))
    (λ place m said there. each (suc place) m said there)
    in
    λ i. first_refused (first i) (rest i)

-- Answers and outcomes tell of the same first refusal.
pub refusals-alike : (numbers : List ℕ) (calls : List ShardCall) (answers : List JobAnswer) (outcomes : List JobOutcome)
    → length calls ≡ length numbers → length answers ≡ length numbers → length outcomes ≡ length numbers
    → AreAppends calls
    → StandForEach FitsShard CoreShardStands ShardAnswerSays calls answers outcomes
    → first_refusal put_by_answer numbers answers ≡ first_refusal put_by_outcome numbers outcomes
refusals-alike [] calls answers outcomes cs said_all os are stand = refl
refusals-alike (n ∷ numbers) [] answers outcomes cs said_all os are stand = absurd (omega (arith, cs))
refusals-alike (n ∷ numbers) (c ∷ calls) [] outcomes cs said_all os are stand = absurd (omega (arith, said_all))
refusals-alike (n ∷ numbers) (c ∷ calls) (a ∷ answers) [] cs said_all os are stand = absurd (omega (arith, os))
refusals-alike (n ∷ numbers) (c ∷ calls) (a ∷ answers) (outcome ∷ outcomes) cs said_all os are stand =
    let first = told-alike c a outcome n are.0 (stand 0 c a outcome refl refl refl) in
    let rest =
    refusals-alike numbers calls answers outcomes (omega (arith, cs)) (omega (arith, said_all)) (omega (arith, os))
    are.1
    (λ k d said there. stand (suc k) d said there)
    in
    λ i. first_refused (first i) (rest i)

refused-or : (p q : PutEnd) → is_refused (first_refused p q) ≡ (is_refused p || is_refused q)
refused-or put.Done q = refl
refused-or (put.ShardFull n rows) q = refl
refused-or (put.OutOfMemory n) q = refl

refused-one : (n : ℕ) (outcome : JobOutcome) → is_refused (put_by_outcome n outcome) ≡ is_refusal outcome
refused-one n Done = refl
refused-one n (ShardFull rows) = refl
refused-one n (Found rows) = refl
refused-one n (Compared came went) = refl
refused-one n (Copied view) = refl
refused-one n StoreLost = refl
refused-one n OutOfMemory = refl

-- One was refused just where one of the outcomes is a refusal.
pub refused-any : (numbers : List ℕ) (outcomes : List JobOutcome) → length outcomes ≡ length numbers
    → is_refused (first_refusal put_by_outcome numbers outcomes) ≡ list_any is_refusal outcomes
refused-any [] [] same = refl
refused-any [] (outcome ∷ outcomes) same = absurd (omega (arith, same))
refused-any (n ∷ numbers) [] same = absurd (omega (arith, same))
refused-any (n ∷ numbers) (outcome ∷ outcomes) same =
    let rest = refused-any numbers outcomes (omega (arith, same)) in
    refused-or (put_by_outcome n outcome) (first_refusal put_by_outcome numbers outcomes)
    ∙ (λ i. refused-one n outcome i || rest i)
