-- Bricks that show alike to whoever does not tell the epochs up to one apart, and what calls make of two such.
use Rattle.std.proofs.Common.{◌≡◌, ℕ, ◌<◌, ◌≤◌, ◌==◌, ◌&&◌, ◌||◌, not, nat_lt, Bool, true, false, cond, List, [], ◌∷◌, ◌++◌, refl, sym, ap, ◌∙◌, arith, append-nil}
use Rattle.std.proofs.lemmas.Bool.Decides.{nat_tests}
use Rattle.cube_values.specs.declared.row.CodedRow.{CodedRow}
use Rattle.core_events.specs.Runs.{Sight, rows_shown_besides, sight_before_mark}
use Rattle.core_events.specs.ShardView.{BrickEntry, RowRun, RowMark, EpochSet, entries_without_epoch, epochs_before_mark, is_below_mark, rows_shown_to, rows_where}
use Rattle.shard_views.specs.Views.{IsUniform, ShowAlikeAbove}
use Rattle.shard_views.proofs.Alike.{AreAlike, besides_blind, blind}
use Rattle.shard_views.proofs.Tests.{and_false, and_last, and_true}

pub above : (low : ℕ) (a b : List BrickEntry)
    → ((one other : Sight) → IsUniform low one.epochs → IsUniform low other.epochs → rows_shown_besides one other a ≡ rows_shown_besides one other b)
    → ((marks : EpochSet) (epoch : ℕ) → low ≤ epoch → is_below_mark marks epoch a ≡ is_below_mark marks epoch b)
    → ShowAlikeAbove low a b
above low a b f g = record {
  rows = λ epochs marks u.
      let one : Sight = record { epochs = epochs; marks = marks } in
      sym (besides_blind one a) ∙ f one blind u (λ i j p q. refl) ∙ besides_blind one b;
  apart = f;
  hidden = g;
}

pub then_above : (low : ℕ) (a b c : List BrickEntry) → AreAlike a b → ShowAlikeAbove low b c → ShowAlikeAbove low a c
then_above low a b c p q = above low a c (λ one other u w. p.apart one other ∙ q.apart one other u w) (λ marks epoch l. p.hidden marks epoch ∙ q.hidden marks epoch l)

pub run_above : (low k : ℕ) (rows : List CodedRow) (a b : List BrickEntry) → low < k → ShowAlikeAbove low a b → ShowAlikeAbove low (RowRun k rows ∷ a) (RowRun k rows ∷ b)
run_above low k rows a b l h =
    let m : low ≤ k = omega arith in
    above low (RowRun k rows ∷ a) (RowRun k rows ∷ b)
    (λ one other u w t. h.apart one other u w t ++ rows_where ((one.epochs k && not (h.hidden one.marks k m t)) && not (other.epochs k && not (h.hidden other.marks k m t))) rows)
    (λ marks epoch m. h.hidden marks epoch m)

not_past : (k e low : ℕ) → low < k → e ≤ low → nat_lt k e ≡ false
not_past k e low l m = grind (arith, nat_tests)

pub uniform_before : (low k : ℕ) (t : Bool) (epochs : EpochSet) → low < k → IsUniform low epochs → IsUniform low (epochs_before_mark t k epochs)
uniform_before low k true epochs l u = λ a b p q.
    ap (λ t. epochs a && t) (not_past k a low l p) ∙ and_false (epochs a) ∙ sym (ap (λ t. epochs b && t) (not_past k b low l q) ∙ and_false (epochs b))
uniform_before low k false epochs l u = u

pub mark_above : (low k : ℕ) (a b : List BrickEntry) → low < k → ShowAlikeAbove low a b → ShowAlikeAbove low (RowMark k ∷ a) (RowMark k ∷ b)
mark_above low k a b l h = above low (RowMark k ∷ a) (RowMark k ∷ b)
    (λ one other u w. h.apart (sight_before_mark k one) (sight_before_mark k other) (uniform_before low k (one.marks k) one.epochs l u) (uniform_before low k (other.marks k) other.epochs l w))
    (λ marks epoch m t. (marks k && nat_lt epoch k) || h.hidden marks epoch m t)

-- what is left after a rollback shows itself to a sight as all did to the sight without the epoch
abbrev other_than : ℕ → EpochSet → EpochSet
other_than k set e = set e && not (e == k)

abbrev sight_without : ℕ → Sight → Sight
sight_without k s = record { epochs = other_than k s.epochs; marks = other_than k s.marks }

without_hidden : (marks : EpochSet) (k e : ℕ) (xs : List BrickEntry) → is_below_mark marks e (entries_without_epoch k xs) ≡ is_below_mark (other_than k marks) e xs
without_hidden marks k e [] = refl
without_hidden marks k e (RowRun j rows ∷ older) = by_test (j == k) ∙ without_hidden marks k e older where
  by_test : (t : Bool) → is_below_mark marks e (cond t (entries_without_epoch k older) (RowRun j rows ∷ entries_without_epoch k older)) ≡ is_below_mark marks e (entries_without_epoch k older)
  by_test true = refl
  by_test false = refl
without_hidden marks k e (RowMark j ∷ older) = by_test (without_hidden marks k e older) (j == k) where
  by_test : is_below_mark marks e (entries_without_epoch k older) ≡ is_below_mark (other_than k marks) e older → (t : Bool) → is_below_mark marks e (cond t (entries_without_epoch k older) (RowMark j ∷ entries_without_epoch k older)) ≡ (((marks j && not t) && nat_lt e j) || is_below_mark (other_than k marks) e older)
  by_test rest true = rest ∙ ap (λ b. (b && nat_lt e j) || is_below_mark (other_than k marks) e older) (sym (and_false (marks j)))
  by_test rest false = λ i. (sym (and_true (marks j)) i && nat_lt e j) || rest i

mark_without : (t : Bool) (k j : ℕ) (epochs : EpochSet) → other_than k (epochs_before_mark t j epochs) ≡ epochs_before_mark (t && true) j (other_than k epochs)
mark_without true k j epochs = λ i e. and_last (epochs e) (not (e == k)) (nat_lt j e) i
mark_without false k j epochs = refl

without_shown : (k : ℕ) (one other : Sight) (xs : List BrickEntry) → rows_shown_besides one other (entries_without_epoch k xs) ≡ rows_shown_besides (sight_without k one) (sight_without k other) xs
without_shown k one other [] = refl
without_shown k one other (RowRun j rows ∷ older) = by_test (without_shown k one other older) (j == k) where
  by_test : rows_shown_besides one other (entries_without_epoch k older) ≡ rows_shown_besides (sight_without k one) (sight_without k other) older → (t : Bool)
      → rows_shown_besides one other (cond t (entries_without_epoch k older) (RowRun j rows ∷ entries_without_epoch k older))
      ≡ rows_shown_besides (sight_without k one) (sight_without k other) older ++ rows_where (((one.epochs j && not t) && not (is_below_mark (other_than k one.marks) j older)) && not ((other.epochs j && not t) && not (is_below_mark (other_than k other.marks) j older))) rows
  by_test rest true =
      rest
      ∙ sym (append-nil (rows_shown_besides (sight_without k one) (sight_without k other) older))
      ∙ ap (λ b. rows_shown_besides (sight_without k one) (sight_without k other) older ++ rows_where ((b && not (is_below_mark (other_than k one.marks) j older)) && not ((other.epochs j && false) && not (is_below_mark (other_than k other.marks) j older))) rows) (sym (and_false (one.epochs j)))
  by_test rest false = λ i. rest i ++ rows_where ((sym (and_true (one.epochs j)) i && not (without_hidden one.marks k j older i)) && not (sym (and_true (other.epochs j)) i && not (without_hidden other.marks k j older i))) rows
without_shown k one other (RowMark j ∷ older) = by_test (λ a b. without_shown k a b older) (j == k) where
  by_test : ((a b : Sight) → rows_shown_besides a b (entries_without_epoch k older) ≡ rows_shown_besides (sight_without k a) (sight_without k b) older) → (t : Bool)
      → rows_shown_besides one other (cond t (entries_without_epoch k older) (RowMark j ∷ entries_without_epoch k older))
      ≡ rows_shown_besides (record { epochs = epochs_before_mark (one.marks j && not t) j (other_than k one.epochs); marks = other_than k one.marks }) (record { epochs = epochs_before_mark (other.marks j && not t) j (other_than k other.epochs); marks = other_than k other.marks }) older
  by_test rest true = rest one other ∙ (λ i. rows_shown_besides
      (record { epochs = epochs_before_mark (sym (and_false (one.marks j)) i) j (other_than k one.epochs); marks = other_than k one.marks })
      (record { epochs = epochs_before_mark (sym (and_false (other.marks j)) i) j (other_than k other.epochs); marks = other_than k other.marks }) older)
  by_test rest false = rest (sight_before_mark j one) (sight_before_mark j other) ∙ (λ i. rows_shown_besides
      (record { epochs = mark_without (one.marks j) k j one.epochs i; marks = other_than k one.marks })
      (record { epochs = mark_without (other.marks j) k j other.epochs i; marks = other_than k other.marks }) older)

not_it : (a k low : ℕ) → low < k → a ≤ low → (a == k) ≡ false
not_it a k low l p = grind (arith, nat_tests)

uniform_without : (low k : ℕ) (epochs : EpochSet) → low < k → IsUniform low epochs → IsUniform low (other_than k epochs)
uniform_without low k epochs l u = λ a b p q.
    ap (λ t. epochs a && not t) (not_it a k low l p) ∙ (λ t. u a b p q t && true) ∙ sym (ap (λ t. epochs b && not t) (not_it b k low l q))

pub without_above : (low k : ℕ) (a b : List BrickEntry) → low < k → ShowAlikeAbove low a b → ShowAlikeAbove low (entries_without_epoch k a) (entries_without_epoch k b)
without_above low k a b l h = above low (entries_without_epoch k a) (entries_without_epoch k b)
    (λ one other u w. without_shown k one other a ∙ h.apart (sight_without k one) (sight_without k other) (uniform_without low k one.epochs l u) (uniform_without low k other.epochs l w) ∙ sym (without_shown k one other b))
    (λ marks epoch m. without_hidden marks k epoch a ∙ h.hidden (other_than k marks) epoch m ∙ sym (without_hidden marks k epoch b))

-- a higher epoch, and one after the other
pub rise_above : (low high : ℕ) (a b : List BrickEntry) → low ≤ high → ShowAlikeAbove low a b → ShowAlikeAbove high a b
rise_above low high a b l h = above high a b
    (λ one other u w. h.apart one other (λ x y p q. u x y (omega arith) (omega arith)) (λ x y p q. w x y (omega arith) (omega arith)))
    (λ marks e m. h.hidden marks e (omega arith))

pub above_then : (low : ℕ) (a b c : List BrickEntry) → ShowAlikeAbove low a b → ShowAlikeAbove low b c → ShowAlikeAbove low a c
above_then low a b c p q = above low a c (λ one other u w. p.apart one other u w ∙ q.apart one other u w) (λ marks e l. p.hidden marks e l ∙ q.hidden marks e l)
