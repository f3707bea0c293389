-- What a purge makes of a brick, in the core's words.
use Rattle.std.proofs.Common.{◌≡◌, ℕ, ◌≤◌, max, Bool, List, [], length, refl, sym, ap, subst, ◌∙◌, arith}
use Rattle.std.specs.List.{items_where_true}
use Rattle.cube_values.specs.BitRows.{set_bits}
use Rattle.cube_values.specs.declared.entry.Entry.{Entry}
use Rattle.cube_values.specs.declared.row.CodedRow.{CodedRow}
use Rattle.purge_plan.specs.Purged.{counted_entries, spared_bits}
use Rattle.purge_plan.proofs.Counts.{lead_counted, leads_kept, length-kept}
use Rattle.brick_map.specs.Births.{BrickContent, content_purged}
use Rattle.core_events.specs.ShardView.{BrickEntry, entries_after_purge, every_epoch}
use Rattle.shard_views.specs.Views.{IsWholeContent, ShowAlikeAbove, brick_view}
use Rattle.shard_views.proofs.Above.{above_then, rise_above}
use Rattle.shard_views.proofs.Alike.{view_from}
use Rattle.shard_events.specs.ViewedShards.{PurgesTheSame}
use Rattle.shard_events.proofs.Merged.{fold_merged, merged_above}
use Rattle.shard_events.proofs.PurgedViews.{purge_above}
use Rattle.shard_events.proofs.Spared.{all_true, counted_later, spared_view}

pub purges_the_same : PurgesTheSame
purges_the_same p c v =
    let bits : List Bool = spared_bits p c.entries in
    let rows : List CodedRow = items_where_true bits c.rows in
    let long : length c.rows ≡ length bits = sym (length-kept p c.entries (length c.rows) v) in
    let counted : List Entry = counted_entries p bits c.entries in
    let merged = fold_merged p rows counted [] 0 (set_bits bits) refl (lead_counted p bits c.entries 0 (leads_kept p c.entries (length c.rows) v)) tt (counted_later p bits c.entries) in
    let same = spared_view p bits c.rows long c.entries 0 [] [] (all_true p c.entries (length c.rows) v) refl in
    subst (ShowAlikeAbove p (brick_view (content_purged p c))) same (merged_above p (brick_view (content_purged p c)) (view_from [] 0 rows counted) merged)

-- and of a brick that shows like a view
pub purged_above : (low p : ℕ) (c : BrickContent) (view : List BrickEntry) → IsWholeContent c → ShowAlikeAbove low (brick_view c) view → ShowAlikeAbove (max low p) (brick_view (content_purged p c)) (entries_after_purge every_epoch p view)
purged_above low p c view v h =
    above_then (max low p) (brick_view (content_purged p c)) (entries_after_purge every_epoch p (brick_view c)) (entries_after_purge every_epoch p view)
    (rise_above p (max low p) (brick_view (content_purged p c)) (entries_after_purge every_epoch p (brick_view c)) (omega arith) (purges_the_same p c v))
    (purge_above low p (brick_view c) view h)
