-- What a brick holds, by the epochs of its runs and marks, and when a client has had all shards purge up to an epoch.
-- Source: AOSI (ICDE 2018), purge of a partition up to LSE.
use Rattle.std.specs.Prelude.{◌≡◌, ℕ, ◌<◌, Bool, true, false, ◌||◌, ◌==◌, nat_le, List, [], ◌∷◌, ◌++◌}
use Rattle.cube_values.specs.declared.row.CodedRow.{CodedRow}
use Rattle.core_events.specs.ShardView.{BrickEntry, RowRun, RowMark, EpochSet, rows_where}
use Rattle.core_events.specs.Jobs.{CoreJob, Purge, Done}
use Rattle.core_events.specs.Events.{WorkerMove, Work, CoreEvent, By, At}
use Rattle.core_events.specs.Groups.{Purges, JobGroup}
use Rattle.core_events.specs.Fitting.{HasAllDone}

-- The rows of the epochs up to one that a brick holds, in the order in which they were appended.
abbrev pub rows_held_up_to : ℕ → List BrickEntry → List CodedRow
rows_held_up_to epoch [] = []
rows_held_up_to epoch (RowRun e rows ∷ older) = rows_held_up_to epoch older ++ rows_where (nat_le e epoch) rows
rows_held_up_to epoch (RowMark e ∷ older) = rows_held_up_to epoch older

-- No mark of a brick is of an epoch up to one.
abbrev pub HasNoMarkUpTo : ℕ → List BrickEntry → Type 0
HasNoMarkUpTo epoch [] = Unit {0}
HasNoMarkUpTo epoch (RowRun e rows ∷ older) = HasNoMarkUpTo epoch older
HasNoMarkUpTo epoch (RowMark e ∷ older) = (epoch < e) × HasNoMarkUpTo epoch older

-- A brick has no mark.
abbrev pub HasNoMark : List BrickEntry → Type 0
HasNoMark [] = Unit {0}
HasNoMark (RowRun e rows ∷ older) = HasNoMark older
HasNoMark (RowMark e ∷ older) = ⊥

-- The group purges up to the epoch, and the client has the answers of all shards, none of them a refusal.
pub record HasPurgedShards (shards epoch : ℕ) (g : JobGroup) : Type 0 where
  pub purges : g.kind ≡ Purges epoch
  pub done : HasAllDone shards g

-- The epochs up to which purges were made on a shard.
abbrev pub purged_after_job : CoreJob → EpochSet → EpochSet
purged_after_job (Purge epoch) purged e = epoch == e || purged e
purged_after_job job purged e = purged e

abbrev pub purged_after_move : Bool → WorkerMove → EpochSet → EpochSet
purged_after_move true (Work job Done) purged e = purged_after_job job purged e
purged_after_move here move purged e = purged e

abbrev pub was_purged : ℕ → List CoreEvent → EpochSet
was_purged shard [] e = false
was_purged shard (By a call ∷ es) e = was_purged shard es e
was_purged shard (At mail move ∷ es) e = purged_after_move (mail == shard) move (was_purged shard es) e
