-- All that a brick was ever told: the appends and deletions that were done there, and which transactions were rolled
-- back there.
-- Source: this project's own.
use Rattle.std.specs.Prelude.{ℕ, ◌%◌, Bool, true, false, ◌&&◌, ◌||◌, ◌==◌, List, [], ◌∷◌, if◌then◌else◌}
use Rattle.core_events.specs.ShardView.{BrickEntry, RowRun, RowMark, EpochSet}
use Rattle.core_events.specs.Jobs.{CoreJob, Append, DropBox, Rollback, Done}
use Rattle.core_events.specs.Events.{Opening, WorkerMove, Work, CoreEvent, By, At}
use Rattle.core_events.specs.Cells.{rows_of_brick, box_has_brick}

-- What a job adds to what a brick of its cube was told.
abbrev pub told_after_job : Opening → ℕ → ℕ → CoreJob → List BrickEntry → List BrickEntry
told_after_job o cube brick (Append other epoch rows) told =
    if other == cube then RowRun epoch (rows_of_brick o cube brick rows) ∷ told else told
told_after_job o cube brick (DropBox other epoch box) told =
    if other == cube && box_has_brick o cube box brick then RowMark epoch ∷ told else told
told_after_job o cube brick job told = told

abbrev pub told_after_move : Opening → Bool → ℕ → ℕ → WorkerMove → List BrickEntry → List BrickEntry
told_after_move o true cube brick (Work job Done) told = told_after_job o cube brick job told
told_after_move o here cube brick move told = told

-- The runs and marks, the newest first. It only grows: rollbacks and purges take nothing out.
abbrev pub told_of : Opening → List CoreEvent → ℕ → ℕ → List BrickEntry
told_of o [] cube brick = RowRun o.safe (rows_of_brick o cube brick (o.rows cube)) ∷ []
told_of o (By a call ∷ es) cube brick = told_of o es cube brick
told_of o (At mail move ∷ es) cube brick =
    told_after_move o (mail == brick % o.shards) cube brick move (told_of o es cube brick)

-- The epochs that were rolled back on a shard.
abbrev pub rolled_after_job : CoreJob → EpochSet → EpochSet
rolled_after_job (Rollback epoch) rolled e = epoch == e || rolled e
rolled_after_job job rolled e = rolled e

abbrev pub rolled_after_move : Bool → WorkerMove → EpochSet → EpochSet
rolled_after_move true (Work job Done) rolled e = rolled_after_job job rolled e
rolled_after_move here move rolled e = rolled e

abbrev pub rolled_back : ℕ → List CoreEvent → EpochSet
rolled_back shard [] e = false
rolled_back shard (By a call ∷ es) e = rolled_back shard es e
rolled_back shard (At mail move ∷ es) e = rolled_after_move (mail == shard) move (rolled_back shard es) e
