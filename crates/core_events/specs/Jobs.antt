-- What is asked of a shard, or of the flusher, through its mail, and what is answered.
-- Source: Cubrick (VLDB 2016), one queue and one thread for each shard; AOSI (ICDE 2018), append, delete, rollback and
-- purge of a partition. Deltas, copies of rounds and boxes of coordinates are this project's own.
use Rattle.std.specs.Prelude.{ℕ, Bool, true, false, List}
use Rattle.cube_values.specs.declared.query.BoundQuery.{BoundQuery}
use Rattle.cube_values.specs.declared.row.CodedRow.{CodedRow}
use Rattle.cube_values.specs.declared.snapshot.Snapshot.{Snapshot}
use Rattle.cube_values.specs.declared.span.Span.{Span}
use Rattle.core_events.specs.ShardView.{ShardView}

-- A job. A cube is named by its place in the list of cubes.
pub data CoreJob : Type 0 where
  -- rows of one cube are put, by a transaction
  Append : (cube epoch : ℕ) (rows : List CodedRow) → CoreJob
  -- the rows of a box are deleted, by a transaction
  DropBox : (cube epoch : ℕ) (box : Span) → CoreJob
  -- the rows of a query are looked for
  Scan : (query : BoundQuery) (snapshot : Snapshot) → CoreJob
  -- the rows of a query that came and went from one reader to another
  Delta : (query : BoundQuery) (from to : ℕ) → CoreJob
  -- what a transaction wrote is taken back
  Rollback : (epoch : ℕ) → CoreJob
  -- rows and marks that no snapshot needs are taken out
  Purge : (epoch : ℕ) → CoreJob
  -- what a round has of the shard: the epochs above the first number up to the second
  CopyRound : (from to : ℕ) → CoreJob
  -- a round, asked of the flusher
  Flush : CoreJob

-- An answer. A partial result stands for a list of rows, and is that list here.
pub data JobOutcome : Type 0 where
  Done : JobOutcome
  -- the shard has so many rows, and these are too many besides; nothing changed
  ShardFull : (rows : ℕ) → JobOutcome
  Found : (rows : List CodedRow) → JobOutcome
  Compared : (came went : List CodedRow) → JobOutcome
  Copied : (view : ShardView) → JobOutcome
  -- a round was lost to the disk
  StoreLost : JobOutcome
  -- out of memory; nothing changed
  OutOfMemory : JobOutcome

-- The job was not done.
abbrev pub is_refusal : JobOutcome → Bool
is_refusal (ShardFull rows) = true
is_refusal StoreLost = true
is_refusal OutOfMemory = true
is_refusal answer = false
