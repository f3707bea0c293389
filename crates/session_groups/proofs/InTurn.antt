-- Answers one after the other, by their places, and what is refused among them.
use Rattle.std.proofs.Common.{◌≡◌, ◌∙◌, ℕ, zero, suc, ◌+◌, ◌<◌, ◌≤◌, ◌||◌, List, [], ◌∷◌, ◌++◌, append_assoc, append-nil, length, replicate, slice_get, Some, refl, sym, ap, arith}
use Rattle.std.specs.List.{list_any}
use Rattle.std.proofs.lemmas.List.{length-replicate}
use Rattle.std.proofs.lemmas.Option.{none-some, same_Some, slice_get_within}
use Rattle.cube_values.specs.declared.query.BoundQuery.{BoundQuery}
use Rattle.cube_values.specs.declared.snapshot.Snapshot.{Snapshot}
use Rattle.cube_values.specs.declared.span.Span.{Span}
use Rattle.cube_core.specs.BoardCells.{AnswerSays, call_job}
use Rattle.core_events.specs.Groups.{Received}
use Rattle.core_events.specs.Jobs.{JobOutcome, DropBox, Scan, Rollback, Found, is_refusal}
use Rattle.core_serial.specs.Queries.{rows_fetched, rows_of_answer}
use Rattle.cube_core.specs.declared.jobs.FlushAnswer.TheVariants as flush
use Rattle.cube_core.specs.declared.jobs.JobAnswer.{JobAnswer}
use Rattle.cube_core.specs.declared.jobs.JobAnswer.TheVariants as reply
use Rattle.cube_core.specs.declared.shard.ShardAnswer.TheVariants as answer
use Rattle.cube_core.specs.declared.shard.ShardCall.{ShardCall}
use Rattle.job_groups.specs.AskedEach.{AreOfOneKind, StandForEach, kind_of_calls, received}
use Rattle.core_events.specs.Groups.{kind_of}
use Rattle.linked_shards.specs.CellShards.{CoreShardStands}
use Rattle.session_groups.specs.AnswersInTurn.{HoldInTurn, StandsForFound, is_undone, rows_of_outcomes}
use Rattle.shard_events.specs.ShardsInRuns.{FitsShard, ShardAnswerSays}

-- The same call for each shard.

pub get-same : (n k : ℕ) (c d : ShardCall) → slice_get (replicate n c) k ≡ Some d → c ≡ d
get-same zero k c d is = absurd (none-some d is)
get-same (suc n) zero c d is = same_Some c d is
get-same (suc n) (suc k) c d is = get-same n k c d is

there-same : (n k : ℕ) (c : ShardCall) → k < n → slice_get (replicate n c) k ≡ Some c
there-same zero k c low = absurd (omega (arith, low))
there-same (suc n) zero c low = refl
there-same (suc n) (suc k) c low = there-same n k c (omega (arith, low))

pub kind-same : (n : ℕ) (c : ShardCall) → 1 ≤ n → kind_of_calls (replicate n c) ≡ kind_of (call_job c)
kind-same zero c some = absurd (omega (arith, some))
kind-same (suc n) c some = refl

pub one-kind : (n : ℕ) (c : ShardCall) → AreOfOneKind (replicate n c)
one-kind zero c number d is = absurd (none-some d is)
one-kind (suc n) c number d is = ap (λ (x : ShardCall). kind_of (call_job x)) (sym (get-same (suc n) number c d is))

-- By their places.
by-places : (Stands : JobAnswer → JobOutcome → Type 0) (answers : List JobAnswer) (outcomes : List JobOutcome) → length answers ≡ length outcomes
    → ((number : ℕ) (said : JobAnswer) (outcome : JobOutcome) → slice_get answers number ≡ Some said → slice_get outcomes number ≡ Some outcome
    → Stands said outcome) → HoldInTurn Stands answers outcomes
by-places Stands [] [] same each = tt
by-places Stands [] (outcome ∷ outcomes) same each = absurd (omega (arith, same))
by-places Stands (said ∷ answers) [] same each = absurd (omega (arith, same))
by-places Stands (said ∷ answers) (outcome ∷ outcomes) same each = (
  each 0 said outcome refl refl,
  by-places Stands answers outcomes (omega (arith, same)) (λ number a b is there. each (suc number) a b is there),
)

pub stand-in-turn : (Stands : JobAnswer → JobOutcome → Type 0) (n : ℕ) (c : ShardCall) (answers : List JobAnswer) (outcomes : List JobOutcome)
    → length answers ≡ n → length outcomes ≡ length (replicate n c)
    → StandForEach FitsShard CoreShardStands ShardAnswerSays (replicate n c) answers outcomes
    → ((said : JobAnswer) (outcome : JobOutcome) → AnswerSays ShardAnswerSays (call_job c) said outcome → Stands said outcome)
    → HoldInTurn Stands answers outcomes
stand-in-turn Stands n c answers outcomes some each stand tells =
    let all = length-replicate n c in
    by-places Stands answers outcomes (omega (arith, some, each, all))
    (λ number said outcome is there.
    let low = slice_get_within answers number said is in
    tells said outcome (stand number c said outcome (there-same n number c (omega (arith, low, some))) is there))

-- What an answer to a call may stand for.

pub found-as : (query : BoundQuery) (s : Snapshot) (said : JobAnswer) (outcome : JobOutcome)
    → AnswerSays ShardAnswerSays (Scan query s) said outcome → StandsForFound query said outcome
found-as query s (reply.Shard (answer.Scanned found)) (Found rows) h = h
found-as query s (reply.Shard (answer.Scanned found)) outcome h = absurd h
found-as query s said outcome h = tt

pub undone-drop : (cube epoch : ℕ) (box : Span) (said : JobAnswer) (outcome : JobOutcome)
    → AnswerSays ShardAnswerSays (DropBox cube epoch box) said outcome → is_refusal outcome ≡ is_undone said
undone-drop cube epoch box (reply.Flush flush.Done) outcome h = ap is_refusal h
undone-drop cube epoch box (reply.Flush flush.StoreFailed) outcome h = ap is_refusal h
undone-drop cube epoch box (reply.Flush flush.NoMemory) outcome h = ap is_refusal h
undone-drop cube epoch box (reply.Shard answer.Done) outcome h = ap is_refusal h
undone-drop cube epoch box (reply.Shard (answer.ShardFull rows)) outcome h = ap is_refusal h
undone-drop cube epoch box (reply.Shard answer.NoMemory) outcome h = ap is_refusal h
undone-drop cube epoch box (reply.Shard said) outcome h = absurd h

pub undone-rollback : (epoch : ℕ) (said : JobAnswer) (outcome : JobOutcome) → AnswerSays ShardAnswerSays (Rollback epoch) said outcome
    → is_refusal outcome ≡ is_undone said
undone-rollback epoch (reply.Flush flush.Done) outcome h = ap is_refusal h
undone-rollback epoch (reply.Flush flush.StoreFailed) outcome h = ap is_refusal h
undone-rollback epoch (reply.Flush flush.NoMemory) outcome h = ap is_refusal h
undone-rollback epoch (reply.Shard answer.Done) outcome h = ap is_refusal h
undone-rollback epoch (reply.Shard (answer.ShardFull rows)) outcome h = ap is_refusal h
undone-rollback epoch (reply.Shard answer.NoMemory) outcome h = ap is_refusal h
undone-rollback epoch (reply.Shard said) outcome h = absurd h

pub any-undone : (answers : List JobAnswer) (outcomes : List JobOutcome)
    → HoldInTurn (λ said outcome. is_refusal outcome ≡ is_undone said) answers outcomes
    → list_any is_refusal outcomes ≡ list_any is_undone answers
any-undone [] [] hold = refl
any-undone [] (outcome ∷ outcomes) hold = absurd hold
any-undone (said ∷ answers) [] hold = absurd hold
any-undone (said ∷ answers) (outcome ∷ outcomes) hold = λ i. hold.0 i || any-undone answers outcomes hold.1 i

-- The rows that were fetched.
rows-from : (number : ℕ) (outcomes : List JobOutcome) (older : List Received)
    → rows_fetched (received number outcomes older) ≡ rows_fetched older ++ rows_of_outcomes outcomes
rows-from number [] older = sym (append-nil (rows_fetched older))
rows-from number (x ∷ xs) older =
    rows-from (number + 1) xs (record { mail = number; answer = x } ∷ older)
    ∙ append_assoc (rows_fetched older) (rows_of_answer x) (rows_of_outcomes xs)

pub rows-in-turn : (outcomes : List JobOutcome) → rows_fetched (received 0 outcomes []) ≡ rows_of_outcomes outcomes
rows-in-turn outcomes = rows-from 0 outcomes []
