-- What comes of rows that were put: they are there, or a shard refused its own.
-- Source: this project's own.
use Rattle.std.specs.Prelude.{ℕ, Bool, true, false, List, ◌∷◌, if◌then◌else◌}
use Rattle.core_events.specs.Jobs.{JobOutcome, ShardFull, is_refusal}
use Rattle.cube_core.specs.declared.jobs.FlushAnswer.{FlushAnswer}
use Rattle.cube_core.specs.declared.jobs.FlushAnswer.TheVariants as flush
use Rattle.cube_core.specs.declared.jobs.JobAnswer.{JobAnswer}
use Rattle.cube_core.specs.declared.jobs.JobAnswer.TheVariants as reply
use Rattle.cube_core.specs.declared.shard.ShardAnswer.{ShardAnswer}
use Rattle.cube_core.specs.declared.shard.ShardAnswer.TheVariants as answer
use Rattle.session_batches.specs.declared.answers.PutEnd.{PutEnd}
use Rattle.session_batches.specs.declared.answers.PutEnd.TheVariants as put

-- A shard refused its rows.
abbrev pub is_refused : PutEnd → Bool
is_refused put.Done = false
is_refused p = true

-- What an outcome of a shard's append tells. It refuses because it is full, or is out of memory.
abbrev pub put_by_outcome : ℕ → JobOutcome → PutEnd
put_by_outcome shard (ShardFull rows) = put.ShardFull shard rows
put_by_outcome shard outcome = if is_refusal outcome then put.OutOfMemory shard else put.Done

-- The same by answers.

abbrev pub put_by_shard : ℕ → ShardAnswer → PutEnd
put_by_shard shard (answer.ShardFull rows) = put.ShardFull shard rows
put_by_shard shard answer.NoMemory = put.OutOfMemory shard
put_by_shard shard a = put.Done

-- The flusher's answers, none of which a shard gives.
abbrev pub put_by_flush : ℕ → FlushAnswer → PutEnd
put_by_flush shard flush.Done = put.Done
put_by_flush shard a = put.OutOfMemory shard

abbrev pub put_by_answer : ℕ → JobAnswer → PutEnd
put_by_answer shard (reply.Shard a) = put_by_shard shard a
put_by_answer shard (reply.Flush a) = put_by_flush shard a

-- The first of two that refuses.
abbrev pub first_refused : PutEnd → PutEnd → PutEnd
first_refused put.Done later = later
first_refused earlier later = earlier

-- The first refusal of those of some shards, in their order.
abbrev pub first_refusal : {A : Type 0} → (ℕ → A → PutEnd) → List ℕ → List A → PutEnd
first_refusal told (shard ∷ shards) (a ∷ said) = first_refused (told shard a) (first_refusal told shards said)
first_refusal told shards said = put.Done
