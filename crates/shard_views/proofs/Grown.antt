-- What calls make of a brick stays whole, and what appends and deletions make of it in the core's words.
use Rattle.std.proofs.Common.{◌≡◌, ℕ, ◌+◌, ◌-◌, ◌<◌, ◌≤◌, Bool, List, [], ◌∷◌, ◌++◌, length, take, drop, refl, sym, ap, subst, ◌∙◌, arith}
use Rattle.std.proofs.lemmas.List.{drop-append-le, length-append, length-drop, take-append-le, take_all}
use Rattle.std.proofs.Math.Seq.{drop-append_seam}
use Rattle.cube_values.specs.declared.entry.Entry.{Entry}
use Rattle.cube_values.specs.declared.entry.Entry.TheVariants.{Run, Mark}
use Rattle.cube_values.specs.declared.row.CodedRow.{CodedRow}
use Rattle.cube_values.specs.EpochsVector.{IsVector, Leads, vector_with_entry}
use Rattle.epochs_vector.specs.Without.{entries_without, staying_bits}
use Rattle.epochs_vector.proofs.Ends.{vector_more, vector_rows}
use Rattle.epochs_vector.proofs.VisibleRows.{lead_up}
use Rattle.epochs_vector.proofs.WhatStays.{length-staying, vector_without}
use Rattle.purge_plan.specs.Purged.{purged_entries, spared_bits}
use Rattle.purge_plan.proofs.Counts.{length-kept, vector_purged}
use Rattle.brick_columns.proofs.KeptItems.{kept_length}
use Rattle.brick_map.specs.Births.{BrickContent, content_purged, content_with_mark, content_with_rows, content_without}
use Rattle.core_events.specs.ShardView.{BrickEntry, RowRun, RowMark}
use Rattle.shard_views.specs.Views.{CallsGrowTheSame, ContentsAreWhole, IsWholeContent, brick_view}
use Rattle.shard_views.proofs.Above.{mark_above, run_above, then_above}
use Rattle.shard_views.proofs.Alike.{AreAlike, alike_empty, alike_same, alike_then, joined_alike, leads_push, view_from, view_push}

-- a brick stays whole
appended_whole : (epoch : ℕ) (more : List CodedRow) (c : BrickContent) → IsWholeContent c → IsWholeContent (content_with_rows epoch more c)
appended_whole epoch [] c v = v
appended_whole epoch (row ∷ more) c v =
    let long = length-append c.rows (row ∷ more) in
    subst (IsVector (vector_with_entry c.entries (Run epoch (length c.rows + length (row ∷ more))))) (sym long)
    (vector_more c.entries (Run epoch (length c.rows + length (row ∷ more))) (length c.rows) (length c.rows + length (row ∷ more)) v (omega arith, refl))

without_whole : (epoch : ℕ) (c : BrickContent) → IsWholeContent c → IsWholeContent (content_without epoch c)
without_whole epoch c v =
    let bits = staying_bits epoch c.entries in
    let long : length c.rows ≡ length bits = sym (length-staying epoch c.entries ∙ vector_rows c.entries (length c.rows) v) in
    subst (IsVector (entries_without epoch c.entries)) (sym (kept_length bits c.rows long)) (vector_without epoch c.entries (length c.rows) v)

purged_whole : (epoch : ℕ) (c : BrickContent) → IsWholeContent c → IsWholeContent (content_purged epoch c)
purged_whole epoch c v =
    let bits = spared_bits epoch c.entries in
    let long : length c.rows ≡ length bits = sym (length-kept epoch c.entries (length c.rows) v) in
    subst (IsVector (purged_entries epoch c.entries)) (sym (kept_length bits c.rows long)) (vector_purged epoch c.entries (length c.rows) v)

pub contents_are_whole : ContentsAreWhole
contents_are_whole = record {
  first = record { leads = refl; apart = tt };
  later = λ c v. record {
    appended = λ epoch rows. appended_whole epoch rows c v;
    marked = λ epoch. vector_more c.entries (Mark epoch (length c.rows)) (length c.rows) (length c.rows) v (refl, refl);
    rolled_back = λ epoch. without_whole epoch c v;
    purged = λ epoch. purged_whole epoch c v;
  };
}

-- rows behind those of the entries do not count
pub view_more : (xs : List Entry) (rows more : List CodedRow) (n to : ℕ) (older : List BrickEntry) → Leads n xs to → to ≤ length rows → view_from older n (rows ++ more) xs ≡ view_from older n rows xs
view_more [] rows more n to older l m = refl
view_more (Run k end ∷ xs) rows more n to older l m =
    let up = lead_up end xs to l.1 in
    let left = length-drop n rows in
    let part : take (end - n) (drop n (rows ++ more)) ≡ take (end - n) (drop n rows) =
    ap (take (end - n)) (drop-append-le n rows more (omega (arith, l.0))) ∙ take-append-le (end - n) (drop n rows) more (omega (arith, left, l.0)) in
    ap (λ r. view_from (RowRun k r ∷ older) end (rows ++ more) xs) part ∙ view_more xs rows more end to (RowRun k (take (end - n) (drop n rows)) ∷ older) l.1 m
view_more (Mark k at ∷ xs) rows more n to older l m = view_more xs rows more n to (RowMark k ∷ older) l.1 m

-- rows are appended
appended_alike : (epoch : ℕ) (more : List CodedRow) (c : BrickContent) → IsWholeContent c → AreAlike (brick_view (content_with_rows epoch more c)) (RowRun epoch more ∷ brick_view c)
appended_alike epoch [] c v = alike_empty epoch (brick_view c)
appended_alike epoch (row ∷ rest) c v = grown (row ∷ rest) (omega arith) where
  grown : (all : List CodedRow) → 0 < length all → AreAlike (view_from [] 0 (c.rows ++ all) (vector_with_entry c.entries (Run epoch (length c.rows + length all)))) (RowRun epoch all ∷ brick_view c)
  grown all some =
      let n : ℕ = length c.rows in
      let to : ℕ = n + length all in
      let rows : List CodedRow = c.rows ++ all in
      let new : Entry = Run epoch to in
      let part : take (to - n) (drop n rows) ≡ all = ap (take (to - n)) (drop-append_seam c.rows all) ∙ take_all (to - n) all (omega arith) in
      let pushed = view_push c.entries new rows 0 n [] v.leads in
      let before = view_more c.entries c.rows all 0 n [] v.leads (omega arith) in
      alike_then (view_from [] 0 rows (vector_with_entry c.entries new)) (view_from [] 0 rows (c.entries ++ new ∷ [])) (RowRun epoch all ∷ brick_view c)
      (joined_alike c.entries new rows 0 to [] (leads_push c.entries new 0 n to v.leads (omega arith, refl)))
      (alike_same (view_from [] 0 rows (c.entries ++ new ∷ [])) (RowRun epoch all ∷ brick_view c) (pushed ∙ (λ t. RowRun epoch (part t) ∷ before t)))

-- a box is deleted
marked_alike : (epoch : ℕ) (c : BrickContent) → IsWholeContent c → AreAlike (brick_view (content_with_mark epoch c)) (RowMark epoch ∷ brick_view c)
marked_alike epoch c v =
    let n : ℕ = length c.rows in
    let new : Entry = Mark epoch n in
    alike_then (view_from [] 0 c.rows (vector_with_entry c.entries new)) (view_from [] 0 c.rows (c.entries ++ new ∷ [])) (RowMark epoch ∷ brick_view c)
    (joined_alike c.entries new c.rows 0 n [] (leads_push c.entries new 0 n n v.leads (refl, refl)))
    (alike_same (view_from [] 0 c.rows (c.entries ++ new ∷ [])) (RowMark epoch ∷ brick_view c) (view_push c.entries new c.rows 0 n [] v.leads))

pub calls_grow_the_same : CallsGrowTheSame
calls_grow_the_same low c view v h = record {
  appended = λ epoch rows l. then_above low (brick_view (content_with_rows epoch rows c)) (RowRun epoch rows ∷ brick_view c) (RowRun epoch rows ∷ view) (appended_alike epoch rows c v) (run_above low epoch rows (brick_view c) view l h);
  marked = λ epoch l. then_above low (brick_view (content_with_mark epoch c)) (RowMark epoch ∷ brick_view c) (RowMark epoch ∷ view) (marked_alike epoch c v) (mark_above low epoch (brick_view c) view l h);
}
