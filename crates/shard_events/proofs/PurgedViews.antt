-- What a purge makes of views, and of two that show alike.
use Rattle.std.proofs.Common.{◌≡◌, ℕ, ◌<◌, ◌≤◌, ◌&&◌, ◌||◌, not, nat_lt, nat_le, max, Bool, true, false, cond, List, [], ◌∷◌, ◌++◌, refl, sym, ap, ◌∙◌, arith}
use Rattle.std.proofs.lemmas.Bool.Decides.{nat_tests}
use Rattle.cube_values.specs.declared.row.CodedRow.{CodedRow}
use Rattle.core_events.specs.Runs.{Sight, rows_shown_besides, shows_run, sight_before_mark}
use Rattle.core_events.specs.ShardView.{BrickEntry, RowRun, RowMark, EpochSet, entries_after_purge, epochs_above, epochs_before_mark, every_epoch, is_below_mark, is_up_to, rows_where}
use Rattle.shard_views.specs.Views.{IsUniform, ShowAlikeAbove}
use Rattle.shard_views.proofs.Above.{above}
use Rattle.shard_views.proofs.Alike.{where_none}
use Rattle.shard_views.proofs.Tests.{and_assoc, and_last}

-- what is left after a purge shows itself to a sight as all did to the sight that obeys the old marks too
abbrev with_old_marks : ℕ → EpochSet → EpochSet
with_old_marks p marks e = marks e || nat_le e p

abbrev sight_left : ℕ → EpochSet → Sight → Sight
sight_left p left s = record { epochs = λ e. s.epochs e && left e; marks = with_old_marks p s.marks }

old_marked : (m l u w : Bool) → (((m || true) && l) || (u || w)) ≡ ((l || u) || w)
old_marked true true u w = refl
old_marked true false u w = refl
old_marked false true u w = refl
old_marked false false u w = refl

new_marked : (m l u w : Bool) → (((m || false) && l) || (u || w)) ≡ (u || ((m && l) || w))
new_marked true true true w = refl
new_marked true true false w = refl
new_marked true false u w = refl
new_marked false l u w = refl

purge_hidden : (p : ℕ) (left marks : EpochSet) (e : ℕ) (xs : List BrickEntry) → is_below_mark (with_old_marks p marks) e xs ≡ (is_below_mark (is_up_to p) e xs || is_below_mark marks e (entries_after_purge left p xs))
purge_hidden p left marks e [] = refl
purge_hidden p left marks e (RowRun j rows ∷ older) = purge_hidden p left marks e older
purge_hidden p left marks e (RowMark d ∷ older) = by_test (λ set. purge_hidden p set marks e older) (nat_le d p) where
  by_test : ((set : EpochSet) → is_below_mark (with_old_marks p marks) e older ≡ (is_below_mark (is_up_to p) e older || is_below_mark marks e (entries_after_purge set p older))) → (t : Bool)
      → (((marks d || t) && nat_lt e d) || is_below_mark (with_old_marks p marks) e older)
      ≡ (((t && nat_lt e d) || is_below_mark (is_up_to p) e older) || is_below_mark marks e (cond t (entries_after_purge (epochs_above d left) p older) (RowMark d ∷ entries_after_purge left p older)))
  by_test rest true =
      ap (λ b. ((marks d || true) && nat_lt e d) || b) (rest (epochs_above d left))
      ∙ old_marked (marks d) (nat_lt e d) (is_below_mark (is_up_to p) e older) (is_below_mark marks e (entries_after_purge (epochs_above d left) p older))
  by_test rest false =
      ap (λ b. ((marks d || false) && nat_lt e d) || b) (rest left)
      ∙ new_marked (marks d) (nat_lt e d) (is_below_mark (is_up_to p) e older) (is_below_mark marks e (entries_after_purge left p older))

-- the rows of a run that a purge may have taken out
cut : (x y s u v w : Bool) (rows : List CodedRow) → rows_where ((x && not v) && not (y && not w)) (rows_where (s && not u) rows) ≡ rows_where (((x && s) && not (u || v)) && not ((y && s) && not (u || w))) rows
cut true true true false v w rows = refl
cut true false true false v w rows = refl
cut false y true false v w rows = refl
cut true y true true v w rows = where_none ((true && not v) && not (y && not w))
cut false y true true v w rows = refl
cut true y false u v w rows = where_none ((true && not v) && not (y && not w))
cut false y false u v w rows = refl

past_old_mark : (m : Bool) (d : ℕ) (left epochs : EpochSet) → (λ e. epochs e && epochs_above d left e) ≡ epochs_before_mark (m || true) d (λ e. epochs e && left e)
past_old_mark true d left epochs = λ i e. and_assoc (epochs e) (left e) (nat_lt d e) i
past_old_mark false d left epochs = λ i e. and_assoc (epochs e) (left e) (nat_lt d e) i

past_new_mark : (m : Bool) (d : ℕ) (left epochs : EpochSet) → (λ e. epochs_before_mark m d epochs e && left e) ≡ epochs_before_mark (m || false) d (λ e. epochs e && left e)
past_new_mark true d left epochs = λ i e. and_last (epochs e) (left e) (nat_lt d e) i
past_new_mark false d left epochs = refl

purge_shown : (p : ℕ) (left : EpochSet) (one other : Sight) (xs : List BrickEntry) → rows_shown_besides one other (entries_after_purge left p xs) ≡ rows_shown_besides (sight_left p left one) (sight_left p left other) xs
purge_shown p left one other [] = refl
purge_shown p left one other (RowRun j rows ∷ older) =
    (λ i. purge_shown p left one other older i ++ rows_where (shows_run one j (entries_after_purge left p older) && not (shows_run other j (entries_after_purge left p older))) (rows_where (left j && not (is_below_mark (is_up_to p) j older)) rows))
    ∙ ap (λ l. rows_shown_besides (sight_left p left one) (sight_left p left other) older ++ l)
    (cut (one.epochs j) (other.epochs j) (left j) (is_below_mark (is_up_to p) j older) (is_below_mark one.marks j (entries_after_purge left p older)) (is_below_mark other.marks j (entries_after_purge left p older)) rows
    ∙ (λ i. rows_where (((one.epochs j && left j) && not (sym (purge_hidden p left one.marks j older) i)) && not ((other.epochs j && left j) && not (sym (purge_hidden p left other.marks j older) i))) rows))
purge_shown p left one other (RowMark d ∷ older) = by_test (λ set a b. purge_shown p set a b older) (nat_le d p) where
  by_test : ((set : EpochSet) (a b : Sight) → rows_shown_besides a b (entries_after_purge set p older) ≡ rows_shown_besides (sight_left p set a) (sight_left p set b) older) → (t : Bool)
      → rows_shown_besides one other (cond t (entries_after_purge (epochs_above d left) p older) (RowMark d ∷ entries_after_purge left p older))
      ≡ rows_shown_besides (record { epochs = epochs_before_mark (one.marks d || t) d (λ e. one.epochs e && left e); marks = with_old_marks p one.marks }) (record { epochs = epochs_before_mark (other.marks d || t) d (λ e. other.epochs e && left e); marks = with_old_marks p other.marks }) older
  by_test rest true = rest (epochs_above d left) one other ∙ (λ i. rows_shown_besides
      (record { epochs = past_old_mark (one.marks d) d left one.epochs i; marks = with_old_marks p one.marks })
      (record { epochs = past_old_mark (other.marks d) d left other.epochs i; marks = with_old_marks p other.marks }) older)
  by_test rest false = rest left (sight_before_mark d one) (sight_before_mark d other) ∙ (λ i. rows_shown_besides
      (record { epochs = past_new_mark (one.marks d) d left one.epochs i; marks = with_old_marks p one.marks })
      (record { epochs = past_new_mark (other.marks d) d left other.epochs i; marks = with_old_marks p other.marks }) older)

no_old : (d e p : ℕ) → p ≤ e → (nat_le d p && nat_lt e d) ≡ false
no_old d e p l = grind (arith, nat_tests)

later_free : (p e : ℕ) (xs : List BrickEntry) → p ≤ e → is_below_mark (is_up_to p) e xs ≡ false
later_free p e [] l = refl
later_free p e (RowRun j rows ∷ older) l = later_free p e older l
later_free p e (RowMark d ∷ older) l = λ i. no_old d e p l i || later_free p e older l i

later_hidden : (p e : ℕ) (marks : EpochSet) (xs : List BrickEntry) → p ≤ e → is_below_mark marks e (entries_after_purge every_epoch p xs) ≡ is_below_mark (with_old_marks p marks) e xs
later_hidden p e marks xs l =
    sym (purge_hidden p every_epoch marks e xs ∙ ap (λ b. b || is_below_mark marks e (entries_after_purge every_epoch p xs)) (later_free p e xs l))

uniform_lower : (low high : ℕ) (epochs : EpochSet) → low ≤ high → IsUniform high epochs → IsUniform low (λ e. epochs e && true)
uniform_lower low high epochs l u = λ a b p q t. u a b (omega arith) (omega arith) t && true

pub purge_above : (low p : ℕ) (a b : List BrickEntry) → ShowAlikeAbove low a b → ShowAlikeAbove (max low p) (entries_after_purge every_epoch p a) (entries_after_purge every_epoch p b)
purge_above low p a b h = above (max low p) (entries_after_purge every_epoch p a) (entries_after_purge every_epoch p b)
    (λ one other u w.
    purge_shown p every_epoch one other a
    ∙ h.apart (sight_left p every_epoch one) (sight_left p every_epoch other) (uniform_lower low (max low p) one.epochs (omega arith) u) (uniform_lower low (max low p) other.epochs (omega arith) w)
    ∙ sym (purge_shown p every_epoch one other b))
    (λ marks e l. later_hidden p e marks a (omega arith) ∙ h.hidden (with_old_marks p marks) e (omega arith) ∙ sym (later_hidden p e marks b (omega arith)))
