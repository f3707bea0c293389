-- A shard that stands in a run, as one that is viewed whole: of the bricks of other shards it is seen as it is.
use Rattle.std.proofs.Common.{◌≡◌, ◌∙◌, ℕ, ◌%◌, ◌^◌, ◌≤◌, ◌==◌, Bool, true, false, List, [], refl, sym, ap, eqb-true, eq-eqb, if◌then◌else◌}
use Rattle.cube_values.specs.declared.row.CodedRow.{CodedRow}
use Rattle.brick_map.specs.Births.{BrickContent}
use Rattle.core_events.specs.Cells.{brick_after_job, brick_after_move}
use Rattle.core_events.specs.Events.{Opening, Work}
use Rattle.core_events.specs.Jobs.{CoreJob, Done, ShardFull, Found, Compared, Copied, OutOfMemory}
use Rattle.core_events.specs.ShardView.{BrickEntry, ShardView}
use Rattle.cube_core.specs.BoardCells.{view_after_work}
use Rattle.shard_cell.specs.Shards.{ShardState, HasShapes, shard_brick}
use Rattle.shard_views.specs.Views.{IsWholeContent, ShowAlikeAbove, brick_view}
use Rattle.shard_views.proofs.Above.{rise_above}
use Rattle.shard_events.specs.ViewedShards.{IsViewedAs, shard_view}
use Rattle.shard_events.specs.ShardsInRuns.{HasNoZeroRun, StandsInRun}

abbrev pub full_view : Opening → ℕ → ShardState → ShardView → ShardView
full_view o number shard view cube brick = if brick % o.shards == number then view cube brick else shard_view shard cube brick

pub own_full : (o : Opening) (number : ℕ) (shard : ShardState) (view : ShardView) (cube brick : ℕ) → brick % o.shards ≡ number
    → full_view o number shard view cube brick ≡ view cube brick
own_full o number shard view cube brick is =
    ap (λ (b : Bool). if b then view cube brick else shard_view shard cube brick) (eq-eqb (brick % o.shards) number is)

same_shown : (low : ℕ) (a : List BrickEntry) → ShowAlikeAbove low a a
same_shown low a = record { rows = λ epochs marks u. refl; apart = λ one other u w. refl; hidden = λ marks epoch l. refl }

pub viewed_whole : (o : Opening) (number low : ℕ) (shard : ShardState) (view : ShardView) → StandsInRun o number low shard view
    → IsViewedAs low shard (full_view o number shard view)
viewed_whole o number low shard view h = record {
  whole = h.whole;
  stands = λ cube brick. by_test cube brick (brick % o.shards == number) refl;
} where
  by_test : (cube brick : ℕ) (t : Bool) → (brick % o.shards == number) ≡ t
      → ShowAlikeAbove low (shard_view shard cube brick) (if t then view cube brick else shard_view shard cube brick)
  by_test cube brick true is = h.own cube brick (eqb-true (brick % o.shards) number is)
  by_test cube brick false is = same_shown low (shard_view shard cube brick)

-- what a job makes of a view: nothing, where it is not done
pub full_idle : (o : Opening) (job : CoreJob) (n cube brick : ℕ) (xs : List BrickEntry) (here : Bool)
    → brick_after_move o here cube brick (Work job (ShardFull n)) xs ≡ xs
full_idle o job n cube brick xs true = refl
full_idle o job n cube brick xs false = refl

pub memory_idle : (o : Opening) (job : CoreJob) (cube brick : ℕ) (xs : List BrickEntry) (here : Bool)
    → brick_after_move o here cube brick (Work job OutOfMemory) xs ≡ xs
memory_idle o job cube brick xs true = refl
memory_idle o job cube brick xs false = refl

pub found_idle : (o : Opening) (job : CoreJob) (rows : List CodedRow) (cube brick : ℕ) (xs : List BrickEntry) (here : Bool)
    → brick_after_move o here cube brick (Work job (Found rows)) xs ≡ xs
found_idle o job rows cube brick xs true = refl
found_idle o job rows cube brick xs false = refl

pub compared_idle : (o : Opening) (job : CoreJob) (came went : List CodedRow) (cube brick : ℕ) (xs : List BrickEntry) (here : Bool)
    → brick_after_move o here cube brick (Work job (Compared came went)) xs ≡ xs
compared_idle o job came went cube brick xs true = refl
compared_idle o job came went cube brick xs false = refl

pub copied_idle : (o : Opening) (job : CoreJob) (copy : ShardView) (cube brick : ℕ) (xs : List BrickEntry) (here : Bool)
    → brick_after_move o here cube brick (Work job (Copied copy)) xs ≡ xs
copied_idle o job copy cube brick xs true = refl
copied_idle o job copy cube brick xs false = refl

-- and its step on the bricks of its number where it is
pub done_view : (o : Opening) (number cube brick : ℕ) (job : CoreJob) (view : ShardView) → brick % o.shards ≡ number
    → view_after_work o number job Done view cube brick ≡ brick_after_job o cube brick job (view cube brick)
done_view o number cube brick job view is =
    ap (λ (here : Bool). brick_after_move o here cube brick (Work job Done) (view cube brick)) (eq-eqb number (brick % o.shards) (sym is))

-- a shard that did not change stands for a view that did not, and LSE may rise
pub same_stands : (o : Opening) (number low later : ℕ) (old new : ShardState) (view other : ShardView) → low ≤ later
    → StandsInRun o number low old view → new.limit ≡ old.limit → HasShapes o.shapes new
    → ((cube brick : ℕ) → shard_brick new cube brick ≡ shard_brick old cube brick)
    → ((cube brick : ℕ) → brick % o.shards ≡ number → other cube brick ≡ view cube brick)
    → StandsInRun o number later new other
same_stands o number low later old new view other l h limit shapes same views = record {
  limit = coe 1 0 (i. limit i ≤ 2 ^ 40) h.limit;
  shapes = shapes;
  whole = λ cube brick. coe 1 0 (i. IsWholeContent (same cube brick i)) (h.whole cube brick);
  later = λ cube brick. coe 1 0 (i. HasNoZeroRun (same cube brick i).entries) (h.later cube brick);
  others = λ cube brick out. ap (λ (c : BrickContent). c.rows) (same cube brick) ∙ h.others cube brick out;
  own = λ cube brick is.
      coe 1 0 (i. ShowAlikeAbove later (brick_view (same cube brick i)) (views cube brick is i))
      (rise_above low later (shard_view old cube brick) (view cube brick) l (h.own cube brick is));
}

-- a shard that is viewed as a whole view stands for what that is of its own bricks
pub viewed_stands : (o : Opening) (number low : ℕ) (shard : ShardState) (view other : ShardView) → shard.limit ≤ 2 ^ 40
    → HasShapes o.shapes shard → IsViewedAs low shard view
    → ((cube brick : ℕ) → HasNoZeroRun (shard_brick shard cube brick).entries)
    → ((cube brick : ℕ) → (brick % o.shards ≡ number → ⊥) → (shard_brick shard cube brick).rows ≡ [])
    → ((cube brick : ℕ) → brick % o.shards ≡ number → view cube brick ≡ other cube brick)
    → StandsInRun o number low shard other
viewed_stands o number low shard view other limit shapes h later others same = record {
  limit = limit;
  shapes = shapes;
  whole = h.whole;
  later = later;
  others = others;
  own = λ cube brick is. coe 0 1 (i. ShowAlikeAbove low (shard_view shard cube brick) (same cube brick is i)) (h.stands cube brick);
}
