-- Bricks without rows, as contents and in the core's words.
use Rattle.std.proofs.Common.{◌≡◌, ◌∙◌, ℕ, zero, suc, ◌-◌, ◌%◌, ◌==◌, Bool, true, false, cond, not, ◌&&◌, List, [], ◌∷◌, ◌++◌, take, drop, filter, refl, sym, ap, All, eqb-true}
use Rattle.std.specs.List.{items_where_true}
use Rattle.std.proofs.lemmas.List.Elements.{All-head, All-tail}
use Rattle.cube_values.specs.declared.entry.Entry.{Entry}
use Rattle.cube_values.specs.declared.entry.Entry.TheVariants.{Run, Mark}
use Rattle.cube_values.specs.declared.row.CodedRow.{CodedRow}
use Rattle.cube_values.specs.declared.shape.CubeShape.{CubeShape}
use Rattle.cube_values.specs.declared.snapshot.Snapshot.{Snapshot}
use Rattle.cube_values.specs.declared.span.Span.{Span}
use Rattle.brick_address.specs.Addresses.{brick_of}
use Rattle.brick_map.specs.Births.{BrickContent, content_purged, content_with_rows, content_without, rows_of_brick}
use Rattle.brick_store.specs.Deltas.{seen_apart}
use Rattle.cube_values.specs.Spans.{span_has_row}
use Rattle.epochs_vector.specs.Seen.{seen_rows}
use Rattle.epochs_vector.specs.Without.{staying_bits}
use Rattle.purge_plan.specs.Purged.{spared_bits}
use Rattle.shard_cell.specs.Answers.{brick_rows_apart, brick_rows_shown}
use Rattle.core_events.specs.Events.{Opening}
use Rattle.core_events.specs.ShardView.{BrickEntry, RowRun, RowMark, EpochSet, entries_of_round, epochs_before_mark, is_below_mark, is_within_round, rows_shown_to, rows_where}
use Rattle.shard_views.specs.Views.{brick_view}
use Rattle.shard_views.proofs.Alike.{view_from, where_none}
use Rattle.shard_events.specs.ShardsInRuns.{IsRowOfShard}

-- no run has rows
abbrev pub HasNoRows : List BrickEntry → Type 0
HasNoRows [] = Unit {0}
HasNoRows (RowRun epoch rows ∷ older) = (rows ≡ []) × HasNoRows older
HasNoRows (RowMark epoch ∷ older) = HasNoRows older

-- so nobody sees any
where_rowless : (b : Bool) (rows : List CodedRow) → rows ≡ [] → rows_where b rows ≡ []
where_rowless b rows e = ap (rows_where b) e ∙ where_none b

pub none_shown : (epochs marks : EpochSet) (xs : List BrickEntry) → HasNoRows xs → rows_shown_to epochs marks xs ≡ []
none_shown epochs marks [] h = refl
none_shown epochs marks (RowRun k rows ∷ older) h =
    λ i. none_shown epochs marks older h.1 i ++ where_rowless (epochs k && not (is_below_mark marks k older)) rows h.0 i
none_shown epochs marks (RowMark k ∷ older) h = none_shown (epochs_before_mark (marks k) k epochs) marks older h

pub none_in_round : (from to : ℕ) (xs : List BrickEntry) → HasNoRows xs → HasNoRows (entries_of_round from to xs)
none_in_round from to [] h = tt
none_in_round from to (RowRun k rows ∷ older) h = by_test (none_in_round from to older h.1) (is_within_round from to k) where
  by_test : HasNoRows (entries_of_round from to older) → (t : Bool) → HasNoRows (cond t (RowRun k rows ∷ entries_of_round from to older) (entries_of_round from to older))
  by_test rest true = (h.0, rest)
  by_test rest false = rest
none_in_round from to (RowMark k ∷ older) h = by_test (none_in_round from to older h) (is_within_round from to k) where
  by_test : HasNoRows (entries_of_round from to older) → (t : Bool) → HasNoRows (cond t (RowMark k ∷ entries_of_round from to older) (entries_of_round from to older))
  by_test rest true = rest
  by_test rest false = rest

-- a brick's view, without rows
abbrev no_rows : List CodedRow
no_rows = []

drop_none : (n : ℕ) → drop n no_rows ≡ []
drop_none zero = refl
drop_none (suc n) = refl

take_first_none : (k : ℕ) → take k no_rows ≡ []
take_first_none zero = refl
take_first_none (suc k) = refl

take_none : (k n : ℕ) → take k (drop n no_rows) ≡ []
take_none k n = ap (take k) (drop_none n) ∙ take_first_none k

no_rows_from : (older : List BrickEntry) (n : ℕ) (es : List Entry) → HasNoRows older → HasNoRows (view_from older n [] es)
no_rows_from older n [] h = h
no_rows_from older n (Run k end ∷ es) h = no_rows_from (RowRun k (take (end - n) (drop n [])) ∷ older) end es (take_none (end - n) n, h)
no_rows_from older n (Mark k at ∷ es) h = no_rows_from (RowMark k ∷ older) n es h

pub no_rows_viewed : (c : BrickContent) → c.rows ≡ [] → HasNoRows (brick_view c)
no_rows_viewed c e = coe 1 0 (i. HasNoRows (view_from [] 0 (e i) c.entries)) (no_rows_from [] 0 c.entries tt)

-- calls leave a brick without rows so, where none are appended
items_none : (bits : List Bool) → items_where_true bits no_rows ≡ []
items_none [] = refl
items_none (b ∷ bits) = refl

items_rowless : (bits : List Bool) (rows : List CodedRow) → rows ≡ [] → items_where_true bits rows ≡ []
items_rowless bits rows e = ap (items_where_true bits) e ∙ items_none bits

pub rolled_rowless : (epoch : ℕ) (c : BrickContent) → c.rows ≡ [] → (content_without epoch c).rows ≡ []
rolled_rowless epoch c e = items_rowless (staying_bits epoch c.entries) c.rows e

pub purged_rowless : (epoch : ℕ) (c : BrickContent) → c.rows ≡ [] → (content_purged epoch c).rows ≡ []
purged_rowless epoch c e = items_rowless (spared_bits epoch c.entries) c.rows e

pub appended_rowless : (epoch : ℕ) (rows : List CodedRow) (c : BrickContent) → rows ≡ [] → c.rows ≡ [] → (content_with_rows epoch rows c).rows ≡ []
appended_rowless epoch rows c e h = ap (λ (some : List CodedRow). (content_with_rows epoch some c).rows) e ∙ h

-- a query finds nothing there
filter_none : (span : Span) (bits : List Bool) (rows : List CodedRow) → rows ≡ [] → filter (span_has_row span) (items_where_true bits rows) ≡ []
filter_none span bits rows e = ap (filter (span_has_row span)) (items_rowless bits rows e)

pub none_found : (span : Span) (s : Snapshot) (c : BrickContent) → c.rows ≡ [] → brick_rows_shown span s c ≡ []
none_found span s c e = filter_none span (seen_rows s c.entries) c.rows e

pub none_apart : (span : Span) (one other : Snapshot) (c : BrickContent) → c.rows ≡ [] → brick_rows_apart span one other c ≡ []
none_apart span one other c e = filter_none span (seen_apart one other c.entries) c.rows e

-- rows of one shard are of no brick of another
pub none_elsewhere : (o : Opening) (number brick : ℕ) (shape : CubeShape) (rows : List CodedRow) → (brick % o.shards ≡ number → ⊥)
    → All (IsRowOfShard o number shape) rows → rows_of_brick shape.shape.sizes brick rows ≡ []
none_elsewhere o number brick shape [] other all = refl
none_elsewhere o number brick shape (row ∷ rows) other all =
    by_test (none_elsewhere o number brick shape rows other (All-tail (IsRowOfShard o number shape) row rows all)) (brick_of shape.shape.sizes row.coords == brick) refl where
      by_test : rows_of_brick shape.shape.sizes brick rows ≡ [] → (t : Bool) → (brick_of shape.shape.sizes row.coords == brick) ≡ t
          → cond t (row ∷ rows_of_brick shape.shape.sizes brick rows) (rows_of_brick shape.shape.sizes brick rows) ≡ []
      by_test rest false is = rest
      by_test rest true is =
          absurd (other (ap (λ (n : ℕ). n % o.shards) (sym (eqb-true (brick_of shape.shape.sizes row.coords) brick is))
          ∙ All-head (IsRowOfShard o number shape) row rows all))
