-- Shards after calls, in the core's words.
use Rattle.std.proofs.Common.{◌≡◌, ℕ, ◌==◌, ◌&&◌, Bool, true, false, cond, max, List, ◌∷◌, sym, ap, subst, ◌∙◌, arith}
use Rattle.std.proofs.lemmas.Bool.Decides.{nat_tests}
use Rattle.cube_values.specs.declared.row.CodedRow.{CodedRow}
use Rattle.brick_map.specs.Births.{BrickContent, content_purged, content_with_mark, content_without, content_with_rows, has_brick, rows_of_brick}
use Rattle.core_events.specs.ShardView.{BrickEntry, RowRun, RowMark, entries_after_purge, entries_without_epoch, every_epoch}
use Rattle.shard_cell.specs.Shards.{shard_brick}
use Rattle.shard_views.specs.Views.{IsWholeContent, ShowAlikeAbove, brick_view}
use Rattle.shard_events.specs.ViewedShards.{PurgesAreViewed, ShardsAreViewed, view_after_append, view_after_drop}
use Rattle.shard_views.proofs.Above.{then_above, without_above}
use Rattle.shard_views.proofs.Grown.{calls_grow_the_same, contents_are_whole}
use Rattle.shard_events.proofs.Purges.{purged_above}
use Rattle.shard_views.proofs.Rollbacks.{rolled_back_alike}

other_way : (a b : ℕ) → (a == b) ≡ (b == a)
other_way a b = grind (arith, nat_tests)

-- a brick of which this is seen, whole
record IsViewed (low : ℕ) (c : BrickContent) (view : List BrickEntry) : Type 0 where
  pub whole : IsWholeContent c
  pub alike : ShowAlikeAbove low (brick_view c) view

by_test : (low : ℕ) (t : Bool) (c d : BrickContent) (v w : List BrickEntry) → IsViewed low c v → IsViewed low d w → IsViewed low (cond t c d) (cond t v w)
by_test low true c d v w p q = p
by_test low false c d v w p q = q

pub shards_are_viewed : ShardsAreViewed
shards_are_viewed low epoch cube sizes old view l h = record {
  appended = λ rows new is.
      let seen : (other number : ℕ) → IsViewed low (shard_brick new other number) (view_after_append sizes cube epoch rows view other number) =
      λ other number.
      let c : BrickContent = shard_brick old other number in
      let v : List BrickEntry = view other number in
      let here : IsViewed low c v = record { whole = h.whole other number; alike = h.stands other number } in
      let more : List CodedRow = rows_of_brick sizes number rows in
      let grown : IsViewed low (content_with_rows epoch more c) (RowRun epoch more ∷ v) = record {
        whole = (contents_are_whole.later c here.whole).appended epoch more;
        alike = (calls_grow_the_same low c v here.whole here.alike).appended epoch more l;
      } in
      let both = by_test low (cube == other) (content_with_rows epoch more c) c (RowRun epoch more ∷ v) v grown here in
      let turned : cond (cube == other) (content_with_rows epoch more c) c ≡ shard_brick new other number = ap (λ t. cond t (content_with_rows epoch more c) c) (other_way cube other) ∙ sym (is other number) in
      subst (λ (x : BrickContent). IsViewed low x (view_after_append sizes cube epoch rows view other number)) turned both in
      record { whole = λ other number. (seen other number).whole; stands = λ other number. (seen other number).alike };
  deleted = λ box new is.
      let seen : (other number : ℕ) → IsViewed low (shard_brick new other number) (view_after_drop sizes cube epoch box view other number) =
      λ other number.
      let c : BrickContent = shard_brick old other number in
      let v : List BrickEntry = view other number in
      let here : IsViewed low c v = record { whole = h.whole other number; alike = h.stands other number } in
      let has : Bool = has_brick sizes box number in
      let grown : IsViewed low (content_with_mark epoch c) (RowMark epoch ∷ v) = record {
        whole = (contents_are_whole.later c here.whole).marked epoch;
        alike = (calls_grow_the_same low c v here.whole here.alike).marked epoch l;
      } in
      let both = by_test low (cube == other && has) (content_with_mark epoch c) c (RowMark epoch ∷ v) v grown here in
      let turned : cond (cube == other && has) (content_with_mark epoch c) c ≡ shard_brick new other number = ap (λ t. cond (t && has) (content_with_mark epoch c) c) (other_way cube other) ∙ sym (is other number) in
      subst (λ (x : BrickContent). IsViewed low x (view_after_drop sizes cube epoch box view other number)) turned both in
      record { whole = λ other number. (seen other number).whole; stands = λ other number. (seen other number).alike };
  rolled_back = λ new is. record {
    whole = λ other number. subst IsWholeContent (sym (is other number)) ((contents_are_whole.later (shard_brick old other number) (h.whole other number)).rolled_back epoch);
    stands = λ other number.
        let c : BrickContent = shard_brick old other number in
        let v : List BrickEntry = view other number in
        subst (λ (x : BrickContent). ShowAlikeAbove low (brick_view x) (entries_without_epoch epoch v)) (sym (is other number))
        (then_above low (brick_view (content_without epoch c)) (entries_without_epoch epoch (brick_view c)) (entries_without_epoch epoch v)
        (rolled_back_alike epoch c (h.whole other number))
        (without_above low epoch (brick_view c) v l (h.stands other number)));
  };
}

pub purges_are_viewed : PurgesAreViewed
purges_are_viewed low p old new view h is = record {
  whole = λ cube number. subst IsWholeContent (sym (is cube number)) ((contents_are_whole.later (shard_brick old cube number) (h.whole cube number)).purged p);
  stands = λ cube number.
      let c : BrickContent = shard_brick old cube number in
      subst (λ (x : BrickContent). ShowAlikeAbove (max low p) (brick_view x) (entries_after_purge every_epoch p (view cube number))) (sym (is cube number))
      (purged_above low p c (view cube number) (h.whole cube number) (h.stands cube number));
}
