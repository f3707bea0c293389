-- A shard in the core's words, after calls on it and in what it answers.
use Rattle.std.specs.Prelude.{◌≡◌, ℕ, ◌<◌, ◌≤◌, ◌==◌, ◌&&◌, max, List, ◌∷◌, if◌then◌else◌}
use Rattle.cube_values.specs.declared.row.CodedRow.{CodedRow}
use Rattle.cube_values.specs.declared.shape.Size.{Size}
use Rattle.cube_values.specs.declared.snapshot.Snapshot.{Snapshot}
use Rattle.cube_values.specs.declared.span.Span.{Span}
use Rattle.cube_values.specs.Sees.{sees}
use Rattle.brick_map.specs.Births.{BrickContent, content_purged, content_without, has_brick, rows_of_brick}
use Rattle.brick_map.specs.Copied.{round_part_with}
use Rattle.core_events.specs.Runs.{rows_in_span, rows_shown_besides}
use Rattle.core_events.specs.ShardView.{RowRun, RowMark, ShardView, ShowAlike, brick_rows_seen, entries_after_purge, entries_of_round, entries_without_epoch, every_epoch}
use Rattle.shard_cell.specs.Answers.{brick_after_append, brick_after_drop, brick_rows_apart, brick_rows_shown}
use Rattle.shard_cell.specs.Shards.{ShardState, shard_brick}
use Rattle.shard_views.specs.Views.{IsUniform, IsWholeContent, ShowAlikeAbove, brick_view, part_view, sight_of}

-- A purge takes out the marks up to its epoch and the rows that they hide.
abbrev pub PurgesTheSame : Type 0
PurgesTheSame = (epoch : ℕ) (c : BrickContent) → IsWholeContent c
    → ShowAlikeAbove epoch (brick_view (content_purged epoch c)) (entries_after_purge every_epoch epoch (brick_view c))

-- What a shard has, also of bricks that are not there.
abbrev pub shard_view : ShardState → ShardView
shard_view shard cube number = brick_view (shard_brick shard cube number)

-- A shard is what the core takes it for, where no purge was above an epoch: each brick shows the same.
abbrev pub StandsForView : ℕ → ShardState → ShardView → Type 0
StandsForView low shard view = (cube brick : ℕ) → ShowAlikeAbove low (shard_view shard cube brick) (view cube brick)

-- A shard is what the core takes it for, and each of its bricks is whole.
pub record IsViewedAs (low : ℕ) (shard : ShardState) (view : ShardView) : Type 0 where
  pub whole : (cube number : ℕ) → IsWholeContent (shard_brick shard cube number)
  pub stands : StandsForView low shard view

-- What calls make of a view: the core's words.
abbrev pub view_after_append : List Size → ℕ → ℕ → List CodedRow → ShardView → ShardView
view_after_append sizes cube epoch rows view other number =
    if cube == other then RowRun epoch (rows_of_brick sizes number rows) ∷ view other number else view other number

abbrev pub view_after_drop : List Size → ℕ → ℕ → Span → ShardView → ShardView
view_after_drop sizes cube epoch box view other number =
    if cube == other && has_brick sizes box number then RowMark epoch ∷ view other number else view other number

abbrev pub view_after_rollback : ℕ → ShardView → ShardView
view_after_rollback epoch view cube number = entries_without_epoch epoch (view cube number)

abbrev pub view_after_purge : ℕ → ShardView → ShardView
view_after_purge epoch view cube number = entries_after_purge every_epoch epoch (view cube number)

-- A shard after an append, a deletion or a rollback of an epoch above that of the last purge is what the core takes it
-- for.
pub record CallsAreViewed (low epoch cube : ℕ) (sizes : List Size) (old : ShardState) (view : ShardView) : Type 0 where
  pub appended : (rows : List CodedRow) (new : ShardState)
      → ((other number : ℕ) → shard_brick new other number ≡ brick_after_append sizes cube epoch rows old other number)
      → IsViewedAs low new (view_after_append sizes cube epoch rows view)
  pub deleted : (box : Span) (new : ShardState)
      → ((other number : ℕ) → shard_brick new other number ≡ brick_after_drop sizes cube epoch box old other number)
      → IsViewedAs low new (view_after_drop sizes cube epoch box view)
  pub rolled_back : (new : ShardState)
      → ((other number : ℕ) → shard_brick new other number ≡ content_without epoch (shard_brick old other number))
      → IsViewedAs low new (view_after_rollback epoch view)

abbrev pub ShardsAreViewed : Type 0
ShardsAreViewed = (low epoch cube : ℕ) (sizes : List Size) (old : ShardState) (view : ShardView)
    → low < epoch → IsViewedAs low old view → CallsAreViewed low epoch cube sizes old view

-- So it is after a purge, of any epoch.
abbrev pub PurgesAreViewed : Type 0
PurgesAreViewed = (low epoch : ℕ) (old new : ShardState) (view : ShardView) → IsViewedAs low old view
    → ((cube number : ℕ) → shard_brick new cube number ≡ content_purged epoch (shard_brick old cube number))
    → IsViewedAs (max low epoch) new (view_after_purge epoch view)

-- What a viewed shard answers of each brick: what queries of snapshots find that do not tell the epochs up to that of
-- the last purge apart, and what a round from there on copies.
pub record AnswersAreViewed (low : ℕ) (shard : ShardState) (view : ShardView) : Type 0 where
  pub scanned : (cube number : ℕ) (span : Span) (snapshot : Snapshot) → IsUniform low (sees snapshot)
      → brick_rows_shown span snapshot (shard_brick shard cube number)
      ≡ rows_in_span span (brick_rows_seen snapshot (view cube number))
  pub compared : (cube number : ℕ) (span : Span) (one other : Snapshot)
      → IsUniform low (sees one) → IsUniform low (sees other)
      → brick_rows_apart span one other (shard_brick shard cube number)
      ≡ rows_in_span span (rows_shown_besides (sight_of one) (sight_of other) (view cube number))
  pub copied : (cube number from to : ℕ) → low ≤ from
      → ShowAlike (part_view (round_part_with from to number (shard_brick shard cube number)))
      (entries_of_round from to (view cube number))

abbrev pub ShardsAnswerAsViewed : Type 0
ShardsAnswerAsViewed = (low : ℕ) (shard : ShardState) (view : ShardView)
    → IsViewedAs low shard view → AnswersAreViewed low shard view
