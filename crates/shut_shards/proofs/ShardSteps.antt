-- What a call on a shard leaves of the marks of its bricks.
use Rattle.std.proofs.Common.{◌≡◌, ℕ, ◌==◌, Bool, true, false, ◌&&◌, ◌+◌, List, [], ◌∷◌, length, if◌then◌else◌}
use Rattle.cube_values.specs.declared.entry.Entry.TheVariants.{Run, Mark}
use Rattle.cube_values.specs.declared.row.CodedRow.{CodedRow}
use Rattle.brick_map.specs.Births.{BrickContent, content_purged, content_with_mark, content_with_rows, content_without, has_brick, rows_of_brick}
use Rattle.cube_core.specs.declared.shard.ShardAnswer.{ShardAnswer}
use Rattle.cube_core.specs.declared.shard.ShardAnswer.TheVariants as answer
use Rattle.cube_core.specs.declared.shard.ShardCall.{ShardCall}
use Rattle.cube_core.specs.declared.shard.ShardCall.TheVariants as call
use Rattle.cube_core.specs.BoardCells.{call_job}
use Rattle.shard_cell.specs.Answers.{brick_after_append, brick_after_drop}
use Rattle.shard_cell.specs.Shards.{ShardState, shard_brick}
use Rattle.shard_events.specs.ShardCalls.{ShardStep}
use Rattle.final_shards.proofs.PurgedShards.{MarksAbove}
use Rattle.shut_shards.specs.ShutShards.{HasNoMarksUpTo}
use Rattle.shut_shards.proofs.KeptMarks.{NoneUpTo, none-purged, none-with, none-without, purged-none}

with-rows : (low epoch : ℕ) (rows : List CodedRow) (c : BrickContent) → NoneUpTo low c.entries
    → NoneUpTo low (content_with_rows epoch rows c).entries
with-rows low epoch [] c none = none
with-rows low epoch (row ∷ rows) c none =
    none-with low c.entries (Run epoch (length c.rows + length (row ∷ rows))) none tt

-- What each brick then has.
abbrev HaveBricks : ShardState → (ℕ → ℕ → BrickContent) → Type 0
HaveBricks new contents = (cube brick : ℕ) → shard_brick new cube brick ≡ contents cube brick

by-bricks : (low : ℕ) (new : ShardState) (contents : ℕ → ℕ → BrickContent) → HaveBricks new contents
    → ((cube brick : ℕ) → NoneUpTo low (contents cube brick).entries) → HasNoMarksUpTo low new
by-bricks low new contents are none = λ cube brick.
    coe 1 0 (i. NoneUpTo low (are cube brick i).entries) (none cube brick)

same-shard : (low : ℕ) (old new : ShardState) → new ≡ old → HasNoMarksUpTo low old → HasNoMarksUpTo low new
same-shard low old new same none = coe 1 0 (i. HasNoMarksUpTo low (same i)) none

pub marks-stay : (low : ℕ) (old new : ShardState) (c : ShardCall) (a : ShardAnswer) → MarksAbove low (call_job c)
    → ShardStep old c a new → HasNoMarksUpTo low old → HasNoMarksUpTo low new
marks-stay low old new (call.Append at shape epoch rows) answer.Done above step none =
    by-bricks low new (brick_after_append shape.shape.sizes at epoch rows.rows old) step.1
    (λ cube brick. here (cube == at) cube brick)
  where
    here : (b : Bool) (cube brick : ℕ) → NoneUpTo low
        (if b
        then content_with_rows epoch (rows_of_brick shape.shape.sizes brick rows.rows) (shard_brick old cube brick)
        else shard_brick old cube brick).entries
    here true cube brick =
        with-rows low epoch (rows_of_brick shape.shape.sizes brick rows.rows) (shard_brick old cube brick)
        (none cube brick)
    here false cube brick = none cube brick
marks-stay low old new (call.Append at shape epoch rows) (answer.ShardFull full) above step none =
    by-bricks low new (shard_brick old) step.1.bricks none
marks-stay low old new (call.Append at shape epoch rows) answer.NoMemory above step none =
    by-bricks low new (shard_brick old) step.1.bricks none
marks-stay low old new (call.Append at shape epoch rows) a above step none = absurd step
marks-stay low old new (call.DropBox at shape epoch box) answer.Done above step none =
    by-bricks low new (brick_after_drop shape.shape.sizes at epoch box old) step.1
    (λ cube brick. here (cube == at && has_brick shape.shape.sizes box brick) cube brick)
  where
    here : (b : Bool) (cube brick : ℕ) → NoneUpTo low
        (if b then content_with_mark epoch (shard_brick old cube brick) else shard_brick old cube brick).entries
    here true cube brick =
        none-with low (shard_brick old cube brick).entries (Mark epoch (length (shard_brick old cube brick).rows))
        (none cube brick) above
    here false cube brick = none cube brick
marks-stay low old new (call.DropBox at shape epoch box) answer.NoMemory above step none =
    by-bricks low new (shard_brick old) step.1.bricks none
marks-stay low old new (call.DropBox at shape epoch box) a above step none = absurd step
marks-stay low old new (call.Scan shape query snapshot) (answer.Scanned found) above step none =
    same-shard low old new step.0 none
marks-stay low old new (call.Scan shape query snapshot) answer.NoMemory above step none =
    same-shard low old new step none
marks-stay low old new (call.Scan shape query snapshot) a above step none = absurd step
marks-stay low old new (call.Delta shape query from to) (answer.Changed change) above step none =
    same-shard low old new step.0 none
marks-stay low old new (call.Delta shape query from to) answer.NoMemory above step none =
    same-shard low old new step none
marks-stay low old new (call.Delta shape query from to) a above step none = absurd step
marks-stay low old new (call.Rollback epoch) answer.Done above step none =
    by-bricks low new (λ cube brick. content_without epoch (shard_brick old cube brick)) step.1
    (λ cube brick. none-without low epoch (shard_brick old cube brick).entries (none cube brick))
marks-stay low old new (call.Rollback epoch) a above step none = absurd step
marks-stay low old new (call.Purge epoch) answer.Done above step none =
    by-bricks low new (λ cube brick. content_purged epoch (shard_brick old cube brick)) step.1
    (λ cube brick. none-purged low epoch (shard_brick old cube brick).entries (none cube brick))
marks-stay low old new (call.Purge epoch) a above step none = absurd step
marks-stay low old new (call.CopyRound from to) (answer.Copied copied) above step none =
    same-shard low old new step.0 none
marks-stay low old new (call.CopyRound from to) answer.NoMemory above step none = same-shard low old new step none
marks-stay low old new (call.CopyRound from to) a above step none = absurd step

pub marks-go : (epoch : ℕ) (old new : ShardState) (a : ShardAnswer) → ShardStep old (call.Purge epoch) a new
    → HasNoMarksUpTo epoch new
marks-go epoch old new answer.Done step =
    by-bricks epoch new (λ cube brick. content_purged epoch (shard_brick old cube brick)) step.1
    (λ cube brick. purged-none epoch (shard_brick old cube brick).entries)
marks-go epoch old new a step = absurd step
