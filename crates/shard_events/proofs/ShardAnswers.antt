-- What a shard answers, in the core's words.
use Rattle.std.proofs.Common.{◌≡◌, ℕ, ◌<◌, ◌≤◌, ◌&&◌, ◌||◌, not, nat_le, nat_lt, Bool, true, false, cond, List, [], ◌∷◌, ◌++◌, filter, refl, sym, ap, ◌∙◌, arith, inl, inr, append-nil}
use Rattle.std.proofs.lemmas.Bool.{cases_lt}
use Rattle.std.proofs.lemmas.Bool.Decides.{nat_tests}
use Rattle.cube_values.specs.declared.row.CodedRow.{CodedRow}
use Rattle.cube_values.specs.declared.snapshot.Snapshot.{Snapshot}
use Rattle.cube_values.specs.Sees.{sees}
use Rattle.cube_values.specs.Spans.{span_has_row}
use Rattle.brick_map.specs.Births.{BrickContent}
use Rattle.brick_map.specs.Copied.{round_part_with}
use Rattle.core_events.specs.ShardView.{BrickEntry, RowRun, RowMark, EpochSet, ShowAlike, entries_of_round, epochs_before_mark, is_below_mark, is_within_round, rows_shown_to, rows_where}
use Rattle.shard_cell.specs.Shards.{shard_brick}
use Rattle.shard_views.specs.Views.{IsUniform, ShowAlikeAbove, brick_view, part_view, sight_of}
use Rattle.shard_views.proofs.CopiedParts.{copies_the_same}
use Rattle.shard_views.proofs.Seen.{sees_apart_the_same, sees_the_same}
use Rattle.shard_views.proofs.Tests.{and_false, and_last, and_true}
use Rattle.shard_events.specs.ViewedShards.{ShardsAnswerAsViewed}

-- what a round copies shows itself as all did to whoever looks for the epochs of the round alone
module _ (from to : ℕ) where
  abbrev pub of_round : EpochSet → EpochSet
  of_round set e = set e && is_within_round from to e

  round_hidden : (marks : EpochSet) (e : ℕ) (xs : List BrickEntry) → is_below_mark marks e (entries_of_round from to xs) ≡ is_below_mark (of_round marks) e xs
  round_hidden marks e [] = refl
  round_hidden marks e (RowRun j rows ∷ older) = by_test (is_within_round from to j) ∙ round_hidden marks e older where
    by_test : (t : Bool) → is_below_mark marks e (cond t (RowRun j rows ∷ entries_of_round from to older) (entries_of_round from to older)) ≡ is_below_mark marks e (entries_of_round from to older)
    by_test true = refl
    by_test false = refl
  round_hidden marks e (RowMark j ∷ older) = by_test (round_hidden marks e older) (is_within_round from to j) where
    by_test : is_below_mark marks e (entries_of_round from to older) ≡ is_below_mark (of_round marks) e older → (t : Bool) → is_below_mark marks e (cond t (RowMark j ∷ entries_of_round from to older) (entries_of_round from to older)) ≡ (((marks j && t) && nat_lt e j) || is_below_mark (of_round marks) e older)
    by_test rest true = λ i. (sym (and_true (marks j)) i && nat_lt e j) || rest i
    by_test rest false = rest ∙ ap (λ b. (b && nat_lt e j) || is_below_mark (of_round marks) e older) (sym (and_false (marks j)))

  mark_of_round : (t : Bool) (j : ℕ) (epochs : EpochSet) → of_round (epochs_before_mark t j epochs) ≡ epochs_before_mark (t && true) j (of_round epochs)
  mark_of_round true j epochs = λ i e. and_last (epochs e) (is_within_round from to e) (nat_lt j e) i
  mark_of_round false j epochs = refl

  pub round_shown : (epochs marks : EpochSet) (xs : List BrickEntry) → rows_shown_to epochs marks (entries_of_round from to xs) ≡ rows_shown_to (of_round epochs) (of_round marks) xs
  round_shown epochs marks [] = refl
  round_shown epochs marks (RowRun j rows ∷ older) = by_test (round_shown epochs marks older) (is_within_round from to j) where
    by_test : rows_shown_to epochs marks (entries_of_round from to older) ≡ rows_shown_to (of_round epochs) (of_round marks) older → (t : Bool)
        → rows_shown_to epochs marks (cond t (RowRun j rows ∷ entries_of_round from to older) (entries_of_round from to older))
        ≡ rows_shown_to (of_round epochs) (of_round marks) older ++ rows_where ((epochs j && t) && not (is_below_mark (of_round marks) j older)) rows
    by_test rest true = λ i. rest i ++ rows_where (sym (and_true (epochs j)) i && not (round_hidden marks j older i)) rows
    by_test rest false =
        rest
        ∙ sym (append-nil (rows_shown_to (of_round epochs) (of_round marks) older))
        ∙ ap (λ b. rows_shown_to (of_round epochs) (of_round marks) older ++ rows_where (b && not (is_below_mark (of_round marks) j older)) rows) (sym (and_false (epochs j)))
  round_shown epochs marks (RowMark j ∷ older) = by_test (λ set. round_shown set marks older) (is_within_round from to j) where
    by_test : ((set : EpochSet) → rows_shown_to set marks (entries_of_round from to older) ≡ rows_shown_to (of_round set) (of_round marks) older) → (t : Bool)
        → rows_shown_to epochs marks (cond t (RowMark j ∷ entries_of_round from to older) (entries_of_round from to older))
        ≡ rows_shown_to (epochs_before_mark (marks j && t) j (of_round epochs)) (of_round marks) older
    by_test rest true = rest (epochs_before_mark (marks j) j epochs) ∙ ap (λ (set : EpochSet). rows_shown_to set (of_round marks) older) (mark_of_round (marks j) j epochs)
    by_test rest false = rest epochs ∙ ap (λ b. rows_shown_to (epochs_before_mark b j (of_round epochs)) (of_round marks) older) (sym (and_false (marks j)))

  -- epochs up to the first are of no round from there on
  not_of_round : (low e : ℕ) → low ≤ from → e ≤ low → is_within_round from to e ≡ false
  not_of_round low e l m = ap (λ b. b && nat_le e to) (let past : nat_lt from e ≡ false = grind (arith, nat_tests) in past)

  uniform_of_round : (low : ℕ) (epochs : EpochSet) → low ≤ from → IsUniform low (of_round epochs)
  uniform_of_round low epochs l = λ a b p q.
      ap (λ t. epochs a && t) (not_of_round low a l p) ∙ and_false (epochs a) ∙ sym (ap (λ t. epochs b && t) (not_of_round low b l q) ∙ and_false (epochs b))

  -- the marks of a round hide all epochs up to its first alike
  one_mark : (m t u : Bool) (low e j : ℕ) → low ≤ from → e ≤ low → nat_lt from j ≡ t → ((m && (t && u)) && nat_lt e j) ≡ ((m && (t && u)) && nat_lt low j)
  one_mark m true u low e j l p h = ap (λ b. (m && u) && b) (let same : nat_lt e j ≡ nat_lt low j = grind (arith, nat_tests) in same)
  one_mark true false u low e j l p h = refl
  one_mark false false u low e j l p h = refl

  low_alike : (low e : ℕ) (marks : EpochSet) (xs : List BrickEntry) → low ≤ from → e ≤ low → is_below_mark (of_round marks) e xs ≡ is_below_mark (of_round marks) low xs
  low_alike low e marks [] l p = refl
  low_alike low e marks (RowRun j rows ∷ older) l p = low_alike low e marks older l p
  low_alike low e marks (RowMark j ∷ older) l p = λ i. one_mark (marks j) (nat_lt from j) (nat_le j to) low e j l p refl i || low_alike low e marks older l p i

  pub round_alike : (low : ℕ) (a b : List BrickEntry) → low ≤ from → ShowAlikeAbove low a b → ShowAlike (entries_of_round from to a) (entries_of_round from to b)
  round_alike low a b l h = record {
    rows = λ epochs marks. round_shown epochs marks a ∙ h.rows (of_round epochs) (of_round marks) (uniform_of_round low epochs l) ∙ sym (round_shown epochs marks b);
    hidden = λ marks e. round_hidden marks e a ∙ hidden marks e ∙ sym (round_hidden marks e b);
  } where
    hidden : (marks : EpochSet) (e : ℕ) → is_below_mark (of_round marks) e a ≡ is_below_mark (of_round marks) e b
    hidden marks e = elim (cases_lt e low) [
      | inl p ↦ low_alike low e marks a l (omega (arith, p)) ∙ h.hidden (of_round marks) low (omega arith) ∙ sym (low_alike low e marks b l (omega (arith, p)))
      | inr p ↦ h.hidden (of_round marks) e p
    ]

show_then : (a b c : List BrickEntry) → ShowAlike a b → ShowAlike b c → ShowAlike a c
show_then a b c p q = record { rows = λ epochs marks. p.rows epochs marks ∙ q.rows epochs marks; hidden = λ marks epoch. p.hidden marks epoch ∙ q.hidden marks epoch }

pub shards_answer_as_viewed : ShardsAnswerAsViewed
shards_answer_as_viewed low shard view h = record {
  scanned = λ cube number span snapshot u.
      ap (filter (span_has_row span)) (sees_the_same (shard_brick shard cube number) (h.whole cube number) snapshot ∙ (h.stands cube number).rows (sees snapshot) (sees snapshot) u);
  compared = λ cube number span one other u w.
      ap (filter (span_has_row span)) (sees_apart_the_same (shard_brick shard cube number) (h.whole cube number) one other ∙ (h.stands cube number).apart (sight_of one) (sight_of other) u w);
  copied = λ cube number from to l.
      let c : BrickContent = shard_brick shard cube number in
      show_then (part_view (round_part_with from to number c)) (entries_of_round from to (brick_view c)) (entries_of_round from to (view cube number))
      (copies_the_same from to number c (h.whole cube number))
      (round_alike from to low (brick_view c) (view cube number) l (h.stands cube number));
}
