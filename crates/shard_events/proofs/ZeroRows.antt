-- Where no brick has rows of epoch 0, it counts for nothing whether that epoch is looked for.
use Rattle.std.proofs.Common.{◌≡◌, ◌∙◌, ℕ, zero, suc, ◌-◌, ◌≤◌, Bool, true, false, not, ◌&&◌, ◌||◌, nat_le, nat_lt, List, [], ◌∷◌, ◌++◌, take, drop, refl, sym, ap, arith, le-leb, le-ltb, lt-ltb}
use Rattle.cube_values.specs.declared.entry.Entry.{Entry}
use Rattle.cube_values.specs.declared.entry.Entry.TheVariants.{Run, Mark}
use Rattle.cube_values.specs.declared.row.CodedRow.{CodedRow}
use Rattle.brick_map.specs.Births.{BrickContent}
use Rattle.core_events.specs.ShardView.{BrickEntry, RowRun, RowMark, EpochSet, HasNoZeroRows, entries_of_round, epochs_above, epochs_before_mark, every_epoch, is_below_mark, is_up_to, is_within_round, rows_shown_to, rows_where}
use Rattle.shard_views.specs.Views.{IsUniform, brick_view}
use Rattle.shard_views.proofs.Alike.{view_from, where_none}
use Rattle.shard_views.proofs.Tests.{and_true}
use Rattle.shard_events.proofs.ShardAnswers.{round_shown}
use Rattle.shard_events.specs.ShardsInRuns.{HasNoZeroRun}

-- a brick whose entries have no run of epoch 0
from_later : (older : List BrickEntry) (n : ℕ) (rows : List CodedRow) (es : List Entry) → HasNoZeroRows older → HasNoZeroRun es → HasNoZeroRows (view_from older n rows es)
from_later older n rows [] a h = a
from_later older n rows (Run k end ∷ es) a h =
    from_later (RowRun k (take (end - n) (drop n rows)) ∷ older) end rows es ((λ none. let l = h.0 in absurd (omega (arith, l, none))), a) h.1
from_later older n rows (Mark k at ∷ es) a h = from_later (RowMark k ∷ older) n rows es a h

pub later_viewed : (c : BrickContent) → HasNoZeroRun c.entries → HasNoZeroRows (brick_view c)
later_viewed c h = from_later [] 0 c.rows c.entries tt h

-- two sets have the same epochs from 1 on
abbrev AreOneFrom1 : EpochSet → EpochSet → Type 0
AreOneFrom1 a b = (e : ℕ) → a (suc e) ≡ b (suc e)

not_either : (p q t : Bool) → t ≡ false → (p && t) ≡ (q && t)
not_either true true t is = refl
not_either true false t is = is
not_either false true t is = sym is
not_either false false t is = refl

below_later : (e : ℕ) (a b : EpochSet) (xs : List BrickEntry) → AreOneFrom1 a b → is_below_mark a (suc e) xs ≡ is_below_mark b (suc e) xs
below_later e a b [] same = refl
below_later e a b (RowRun k rows ∷ older) same = below_later e a b older same
below_later e a b (RowMark zero ∷ older) same =
    λ i. not_either (a zero) (b zero) (nat_lt (suc e) zero) (le-ltb (suc e) zero (omega arith)) i || below_later e a b older same i
below_later e a b (RowMark (suc d) ∷ older) same = λ i. (same d i && nat_lt (suc e) (suc d)) || below_later e a b older same i

past_zero : (a : EpochSet) (e : ℕ) → epochs_above zero a (suc e) ≡ a (suc e)
past_zero a e = (λ i. a (suc e) && lt-ltb zero (suc e) (omega arith) i) ∙ and_true (a (suc e))

before_zero : (p q : Bool) (a b : EpochSet) → AreOneFrom1 a b → AreOneFrom1 (epochs_before_mark p zero a) (epochs_before_mark q zero b)
before_zero true true a b same = λ e. past_zero a e ∙ same e ∙ sym (past_zero b e)
before_zero true false a b same = λ e. past_zero a e ∙ same e
before_zero false true a b same = λ e. same e ∙ sym (past_zero b e)
before_zero false false a b same = same

before_later : (p q : Bool) (d : ℕ) (a b : EpochSet) → p ≡ q → AreOneFrom1 a b → AreOneFrom1 (epochs_before_mark p (suc d) a) (epochs_before_mark q (suc d) b)
before_later p q d a b is same = λ e. ap (λ (t : Bool). epochs_before_mark t (suc d) a (suc e)) is ∙ by_test q e where
  by_test : (t : Bool) (e : ℕ) → epochs_before_mark t (suc d) a (suc e) ≡ epochs_before_mark t (suc d) b (suc e)
  by_test true e = λ i. same e i && nat_lt (suc d) (suc e)
  by_test false e = same e

zero_counts_not : (a b m n : EpochSet) (xs : List BrickEntry) → HasNoZeroRows xs → AreOneFrom1 a b → AreOneFrom1 m n
    → rows_shown_to a m xs ≡ rows_shown_to b n xs
zero_counts_not a b m n [] h same marks = refl
zero_counts_not a b m n (RowRun zero rows ∷ older) h same marks =
    λ i. zero_counts_not a b m n older h.1 same marks i
    ++ (rowless (a zero && not (is_below_mark m zero older)) ∙ sym (rowless (b zero && not (is_below_mark n zero older)))) i where
      rowless : (t : Bool) → rows_where t rows ≡ []
      rowless t = ap (rows_where t) (h.0 refl) ∙ where_none t
zero_counts_not a b m n (RowRun (suc k) rows ∷ older) h same marks =
    λ i. zero_counts_not a b m n older h.1 same marks i ++ rows_where (same k i && not (below_later k m n older marks i)) rows
zero_counts_not a b m n (RowMark zero ∷ older) h same marks =
    zero_counts_not (epochs_before_mark (m zero) zero a) (epochs_before_mark (n zero) zero b) m n older h (before_zero (m zero) (n zero) a b same) marks
zero_counts_not a b m n (RowMark (suc d) ∷ older) h same marks =
    zero_counts_not (epochs_before_mark (m (suc d)) (suc d) a) (epochs_before_mark (n (suc d)) (suc d) b) m n older h
    (before_later (m (suc d)) (n (suc d)) d a b (marks d) same) marks

-- from epoch 1 on a round that begins at 0 has the epochs up to its target
from_one : (to e : ℕ) → (true && is_within_round 0 to (suc e)) ≡ is_up_to to (suc e)
from_one to e = λ i. lt-ltb zero (suc e) (omega arith) i && nat_le (suc e) to

-- a copy of all epochs up to one shows what is seen up to it
pub all_copied : (to : ℕ) (xs : List BrickEntry) → HasNoZeroRows xs
    → rows_shown_to every_epoch every_epoch (entries_of_round 0 to xs) ≡ rows_shown_to (is_up_to to) (is_up_to to) xs
all_copied to xs h =
    round_shown 0 to every_epoch every_epoch xs
    ∙ zero_counts_not (λ e. every_epoch e && is_within_round 0 to e) (is_up_to to) (λ e. every_epoch e && is_within_round 0 to e) (is_up_to to) xs h (from_one to) (from_one to)

pub uniform_up_to : (low to : ℕ) → low ≤ to → IsUniform low (is_up_to to)
uniform_up_to low to l = λ a b p q. le-leb a to (omega (arith, p, l)) ∙ sym (le-leb b to (omega (arith, q, l)))
