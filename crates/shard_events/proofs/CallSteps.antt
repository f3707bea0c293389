-- A shard after a call stands for what the job makes of the view, and what it answers is of the view.
use Rattle.std.proofs.Common.{◌≡◌, ◌∙◌, ℕ, ◌%◌, ◌^◌, ◌<◌, ◌≤◌, ◌==◌, ◌&&◌, max, Bool, true, false, true≢false, List, [], ◌∷◌, All, refl, sym, ap, arith, eqb-true, eq-eqb, if◌then◌else◌}
use Rattle.cube_values.specs.declared.row.CodedRow.{CodedRow}
use Rattle.cube_values.specs.declared.shape.CubeShape.{CubeShape}
use Rattle.cube_values.specs.declared.shape.Size.{Size}
use Rattle.cube_values.specs.declared.snapshot.Snapshot.{Snapshot}
use Rattle.cube_values.specs.declared.span.Span.{Span}
use Rattle.cube_values.specs.Sees.{sees}
use Rattle.brick_map.specs.Births.{BrickContent, content_purged, content_with_mark, content_with_rows, content_without, has_brick, rows_of_brick}
use Rattle.core_events.specs.Cells.{brick_after_job, box_has_brick, sizes_of_cube}
use Rattle.core_events.specs.Events.{Opening}
use Rattle.core_events.specs.Jobs.{Append, DropBox, Rollback, Purge, Done}
use Rattle.core_events.specs.Runs.{AreByBrick}
use Rattle.core_events.specs.ShardView.{BrickEntry, RowRun, RowMark, ShardView, entries_after_purge, entries_without_epoch, every_epoch, rows_where}
use Rattle.cube_core.specs.BoardCells.{SeesAllUpTo, view_after_work}
use Rattle.shard_cell.specs.Answers.{brick_after_append, brick_after_drop}
use Rattle.shard_cell.specs.Shards.{ShardState, shard_brick}
use Rattle.shard_views.specs.Views.{IsUniform}
use Rattle.shard_events.specs.ViewedShards.{IsViewedAs, view_after_append, view_after_drop, view_after_purge, view_after_rollback}
use Rattle.shard_events.proofs.ViewedCalls.{purges_are_viewed, shards_are_viewed}
use Rattle.shard_events.specs.ShardCalls.{KeepsSettings, KeepsSettingsWith}
use Rattle.shard_events.specs.ShardsInRuns.{IsShapeInRun, IsRowOfShard, HasNoZeroRun, StandsInRun}
use Rattle.shard_events.proofs.OwnViews.{full_view, own_full, viewed_whole, viewed_stands, done_view}
use Rattle.shard_events.proofs.RowlessBricks.{appended_rowless, purged_rowless, rolled_rowless, none_elsewhere}
use Rattle.shard_events.proofs.ZeroRuns.{appended_later, marked_later, purged_later, rolled_later}

-- the shape that comes with a call is that of the cube
sizes_known : (o : Opening) (cube other : ℕ) (shape : CubeShape) → IsShapeInRun o cube shape → (cube == other) ≡ true → shape.shape.sizes ≡ sizes_of_cube o other
sizes_known o cube other shape f is =
    ap (λ (s : CubeShape). s.shape.sizes) f.same ∙ ap (sizes_of_cube o) (eqb-true cube other is)

appended_alike : (o : Opening) (cube epoch other brick : ℕ) (shape : CubeShape) (rows : List CodedRow) (xs : List BrickEntry) → IsShapeInRun o cube shape
    → (if cube == other then RowRun epoch (rows_of_brick shape.shape.sizes brick rows) ∷ xs else xs)
    ≡ brick_after_job o other brick (Append cube epoch rows) xs
appended_alike o cube epoch other brick shape rows xs f = by_test (cube == other) refl where
  by_test : (t : Bool) → (cube == other) ≡ t → (if t then RowRun epoch (rows_of_brick shape.shape.sizes brick rows) ∷ xs else xs)
      ≡ (if t then RowRun epoch (rows_of_brick (sizes_of_cube o other) brick rows) ∷ xs else xs)
  by_test true is = ap (λ (sizes : List Size). RowRun epoch (rows_of_brick sizes brick rows) ∷ xs) (sizes_known o cube other shape f is)
  by_test false is = refl

marked_alike : (o : Opening) (cube epoch other brick : ℕ) (shape : CubeShape) (box : Span) (xs : List BrickEntry) → IsShapeInRun o cube shape
    → (if cube == other && has_brick shape.shape.sizes box brick then RowMark epoch ∷ xs else xs)
    ≡ brick_after_job o other brick (DropBox cube epoch box) xs
marked_alike o cube epoch other brick shape box xs f = by_test (cube == other) refl where
  by_test : (t : Bool) → (cube == other) ≡ t → (if t && has_brick shape.shape.sizes box brick then RowMark epoch ∷ xs else xs)
      ≡ (if t && box_has_brick o other box brick then RowMark epoch ∷ xs else xs)
  by_test true is = ap (λ (sizes : List Size). if has_brick sizes box brick then RowMark epoch ∷ xs else xs) (sizes_known o cube other shape f is)
  by_test false is = refl

kept_limit : (old new : ShardState) → new.limit ≡ old.limit → old.limit ≤ 2 ^ 40 → new.limit ≤ 2 ^ 40
kept_limit old new same le = coe 1 0 (i. same i ≤ 2 ^ 40) le

pub appended_stands : (o : Opening) (number low cube epoch : ℕ) (shape : CubeShape) (rows : List CodedRow) (old new : ShardState) (view : ShardView)
    → IsShapeInRun o cube shape → All (IsRowOfShard o number shape) rows → low < epoch → StandsInRun o number low old view
    → KeepsSettingsWith cube shape old new
    → ((other brick : ℕ) → shard_brick new other brick ≡ brick_after_append shape.shape.sizes cube epoch rows old other brick)
    → StandsInRun o number low new (view_after_work o number (Append cube epoch rows) Done view)
appended_stands o number low cube epoch shape rows old new view f of_shard above h keeps bricks =
    let full = full_view o number old view in
    viewed_stands o number low new (view_after_append shape.shape.sizes cube epoch rows full) (view_after_work o number (Append cube epoch rows) Done view)
    (kept_limit old new keeps.limit h.limit) (keeps.shapes o.shapes (sym f.same) h.shapes)
    ((shards_are_viewed low epoch cube shape.shape.sizes old full above (viewed_whole o number low old view h)).appended rows new bricks)
    (λ other brick. coe 1 0 (i. HasNoZeroRun (bricks other brick i).entries) (later other brick (other == cube)))
    (λ other brick out. ap (λ (c : BrickContent). c.rows) (bricks other brick) ∙ rowless other brick out (other == cube))
    (λ other brick is.
    ap (λ (xs : List BrickEntry). if cube == other then RowRun epoch (rows_of_brick shape.shape.sizes brick rows) ∷ xs else xs) (own_full o number old view other brick is)
    ∙ appended_alike o cube epoch other brick shape rows (view other brick) f
    ∙ sym (done_view o number other brick (Append cube epoch rows) view is))
  where
    later : (other brick : ℕ) (t : Bool)
        → HasNoZeroRun (if t then content_with_rows epoch (rows_of_brick shape.shape.sizes brick rows) (shard_brick old other brick) else shard_brick old other brick).entries
    later other brick true = appended_later epoch (rows_of_brick shape.shape.sizes brick rows) (shard_brick old other brick) (omega (arith, above)) (h.later other brick)
    later other brick false = h.later other brick

    rowless : (other brick : ℕ) → (brick % o.shards ≡ number → ⊥) → (t : Bool)
        → (if t then content_with_rows epoch (rows_of_brick shape.shape.sizes brick rows) (shard_brick old other brick) else shard_brick old other brick).rows ≡ []
    rowless other brick out true =
        appended_rowless epoch (rows_of_brick shape.shape.sizes brick rows) (shard_brick old other brick)
        (none_elsewhere o number brick shape rows out of_shard) (h.others other brick out)
    rowless other brick out false = h.others other brick out

pub marked_stands : (o : Opening) (number low cube epoch : ℕ) (shape : CubeShape) (box : Span) (old new : ShardState) (view : ShardView)
    → IsShapeInRun o cube shape → low < epoch → StandsInRun o number low old view → KeepsSettingsWith cube shape old new
    → ((other brick : ℕ) → shard_brick new other brick ≡ brick_after_drop shape.shape.sizes cube epoch box old other brick)
    → StandsInRun o number low new (view_after_work o number (DropBox cube epoch box) Done view)
marked_stands o number low cube epoch shape box old new view f above h keeps bricks =
    let full = full_view o number old view in
    viewed_stands o number low new (view_after_drop shape.shape.sizes cube epoch box full) (view_after_work o number (DropBox cube epoch box) Done view)
    (kept_limit old new keeps.limit h.limit) (keeps.shapes o.shapes (sym f.same) h.shapes)
    ((shards_are_viewed low epoch cube shape.shape.sizes old full above (viewed_whole o number low old view h)).deleted box new bricks)
    (λ other brick. coe 1 0 (i. HasNoZeroRun (bricks other brick i).entries) (later other brick (other == cube && has_brick shape.shape.sizes box brick)))
    (λ other brick out. ap (λ (c : BrickContent). c.rows) (bricks other brick) ∙ rowless other brick out (other == cube && has_brick shape.shape.sizes box brick))
    (λ other brick is.
    ap (λ (xs : List BrickEntry). if cube == other && has_brick shape.shape.sizes box brick then RowMark epoch ∷ xs else xs) (own_full o number old view other brick is)
    ∙ marked_alike o cube epoch other brick shape box (view other brick) f
    ∙ sym (done_view o number other brick (DropBox cube epoch box) view is))
  where
    later : (other brick : ℕ) (t : Bool) → HasNoZeroRun (if t then content_with_mark epoch (shard_brick old other brick) else shard_brick old other brick).entries
    later other brick true = marked_later epoch (shard_brick old other brick) (h.later other brick)
    later other brick false = h.later other brick

    rowless : (other brick : ℕ) → (brick % o.shards ≡ number → ⊥) → (t : Bool)
        → (if t then content_with_mark epoch (shard_brick old other brick) else shard_brick old other brick).rows ≡ []
    rowless other brick out true = h.others other brick out
    rowless other brick out false = h.others other brick out

pub rolled_stands : (o : Opening) (number low epoch : ℕ) (old new : ShardState) (view : ShardView) → low < epoch → StandsInRun o number low old view
    → KeepsSettings old new → ((cube brick : ℕ) → shard_brick new cube brick ≡ content_without epoch (shard_brick old cube brick))
    → StandsInRun o number low new (view_after_work o number (Rollback epoch) Done view)
rolled_stands o number low epoch old new view above h keeps bricks =
    let full = full_view o number old view in
    viewed_stands o number low new (view_after_rollback epoch full) (view_after_work o number (Rollback epoch) Done view)
    (kept_limit old new keeps.limit h.limit) (keeps.shapes o.shapes h.shapes)
    ((shards_are_viewed low epoch 0 [] old full above (viewed_whole o number low old view h)).rolled_back new bricks)
    (λ cube brick. coe 1 0 (i. HasNoZeroRun (bricks cube brick i).entries) (rolled_later epoch (shard_brick old cube brick) (h.later cube brick)))
    (λ cube brick out. ap (λ (c : BrickContent). c.rows) (bricks cube brick) ∙ rolled_rowless epoch (shard_brick old cube brick) (h.others cube brick out))
    (λ cube brick is.
    ap (entries_without_epoch epoch) (own_full o number old view cube brick is) ∙ sym (done_view o number cube brick (Rollback epoch) view is))

pub purged_stands : (o : Opening) (number low epoch : ℕ) (old new : ShardState) (view : ShardView) → epoch ≤ low → StandsInRun o number low old view
    → KeepsSettings old new → ((cube brick : ℕ) → shard_brick new cube brick ≡ content_purged epoch (shard_brick old cube brick))
    → StandsInRun o number low new (view_after_work o number (Purge epoch) Done view)
purged_stands o number low epoch old new view up h keeps bricks =
    let full = full_view o number old view in
    let same : max low epoch ≡ low = omega (arith, up) in
    viewed_stands o number low new (view_after_purge epoch full) (view_after_work o number (Purge epoch) Done view)
    (kept_limit old new keeps.limit h.limit) (keeps.shapes o.shapes h.shapes)
    (coe 0 1 (i. IsViewedAs (same i) new (view_after_purge epoch full))
    (purges_are_viewed low epoch old new full (viewed_whole o number low old view h) bricks))
    (λ cube brick. coe 1 0 (i. HasNoZeroRun (bricks cube brick i).entries) (purged_later epoch (shard_brick old cube brick) (h.later cube brick)))
    (λ cube brick out. ap (λ (c : BrickContent). c.rows) (bricks cube brick) ∙ purged_rowless epoch (shard_brick old cube brick) (h.others cube brick out))
    (λ cube brick is.
    ap (entries_after_purge every_epoch epoch) (own_full o number old view cube brick is) ∙ sym (done_view o number cube brick (Purge epoch) view is))

-- a snapshot that sees all up to LSE does not tell these epochs apart
pub all_uniform : (low : ℕ) (s : Snapshot) → SeesAllUpTo low s → IsUniform low (sees s)
all_uniform low s all = λ a b p q. all a p ∙ sym (all b q)

-- rows that are brick by brick what a function gives of the shard's bricks are what another gives of the view's
pub by_bricks : (o : Opening) (number low cube : ℕ) (shape : CubeShape) (shard : ShardState) (view : ShardView) (rows : List CodedRow)
    (found : BrickContent → List CodedRow) (seen : List BrickEntry → List CodedRow) → IsShapeInRun o cube shape → StandsInRun o number low shard view
    → ((brick : ℕ) → rows_of_brick shape.shape.sizes brick rows ≡ found (shard_brick shard cube brick))
    → ((c : BrickContent) → c.rows ≡ [] → found c ≡ [])
    → ((brick : ℕ) → found (shard_brick shard cube brick) ≡ seen (full_view o number shard view cube brick))
    → AreByBrick o number cube rows (λ brick. seen (view cube brick))
by_bricks o number low cube shape shard view rows found seen f h each none same = λ brick.
    ap (λ (s : CubeShape). rows_of_brick s.shape.sizes brick rows) (sym f.same) ∙ each brick ∙ by_test brick (brick % o.shards == number) refl
  where
    by_test : (brick : ℕ) (t : Bool) → (brick % o.shards == number) ≡ t → found (shard_brick shard cube brick) ≡ rows_where t (seen (view cube brick))
    by_test brick true is = same brick ∙ ap seen (own_full o number shard view cube brick (eqb-true (brick % o.shards) number is))
    by_test brick false is = none (shard_brick shard cube brick) (h.others cube brick (λ e. true≢false (sym (eq-eqb (brick % o.shards) number e) ∙ is)))
