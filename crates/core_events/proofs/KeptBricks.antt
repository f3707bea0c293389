-- A brick as it is, against all that it was told: what it shows is the same, less what was rolled back.
use Rattle.std.proofs.Common.{◌≡◌, ◌∙◌, ℕ, ◌<◌, ◌≤◌, ◌==◌, Bool, true, false, not, ◌&&◌, ◌||◌, nat_lt, nat_le, List, [], ◌∷◌, ◌++◌, refl, sym, ap, arith, eqb-true, eq-eqb, ne_eqb, le-ltb, leb-true, append-nil, if◌then◌else◌}
use Rattle.std.proofs.lemmas.Bool.{eqb-false}
use Rattle.cube_values.specs.declared.row.CodedRow.{CodedRow}
use Rattle.core_events.specs.ShardView.{BrickEntry, RowRun, RowMark, EpochSet, is_below_mark, epochs_above, epochs_before_mark, rows_where, rows_shown_to, entries_without_epoch, entries_after_purge, every_epoch}
use Rattle.core_events.specs.ShardView.{epochs_without}
use Rattle.core_events.proofs.BrickRows.{purge-unseen}

pub record KeepsTold (p : ℕ) (gone : EpochSet) (now told : List BrickEntry) : Type 0 where
  pub shows : (epochs marks : EpochSet) → ((e : ℕ) → e ≤ p → marks e ≡ true)
      → rows_shown_to epochs marks now ≡ rows_shown_to (epochs_without epochs gone) (epochs_without marks gone) told
  pub hides : (marks : EpochSet) (e : ℕ) → p ≤ e → is_below_mark marks e now ≡ is_below_mark (epochs_without marks gone) e told

and-true : (b : Bool) → (b && true) ≡ b
and-true true = refl
and-true false = refl

and-false : (b : Bool) → (b && false) ≡ false
and-false true = refl
and-false false = refl

and-last : (a b c : Bool) → ((a && c) && b) ≡ ((a && b) && c)
and-last true true true = refl
and-last true true false = refl
and-last true false true = refl
and-last true false false = refl
and-last false b c = refl

stays-in : (set gone : EpochSet) (k : ℕ) → gone k ≡ false → set k ≡ epochs_without set gone k
stays-in set gone k out = sym (and-true (set k)) ∙ ap (λ (b : Bool). set k && not b) (sym out)

pub keeps-append : (p k : ℕ) (gone : EpochSet) (rows : List CodedRow) (now told : List BrickEntry) → p ≤ k → gone k ≡ false
    → KeepsTold p gone now told → KeepsTold p gone (RowRun k rows ∷ now) (RowRun k rows ∷ told)
keeps-append p k gone rows now told le out keeps = record {
  shows = λ epochs marks all i.
      keeps.shows epochs marks all i ++ rows_where (stays-in epochs gone k out i && not (keeps.hides marks k le i)) rows;
  hides = keeps.hides;
}

mark-without : (here : Bool) (k : ℕ) (set gone : EpochSet)
    → epochs_without (epochs_before_mark here k set) gone ≡ epochs_before_mark here k (epochs_without set gone)
mark-without true k set gone = λ i e. and-last (set e) (not (gone e)) (nat_lt k e) i
mark-without false k set gone = refl

pub keeps-mark : (p k : ℕ) (gone : EpochSet) (now told : List BrickEntry) → gone k ≡ false
    → KeepsTold p gone now told → KeepsTold p gone (RowMark k ∷ now) (RowMark k ∷ told)
keeps-mark p k gone now told out keeps = record {
  shows = λ epochs marks all.
      keeps.shows (epochs_before_mark (marks k) k epochs) marks all
      ∙ ap (λ (set : EpochSet). rows_shown_to set (epochs_without marks gone) told) (mark-without (marks k) k epochs gone)
      ∙ ap (λ (b : Bool). rows_shown_to (epochs_before_mark b k (epochs_without epochs gone)) (epochs_without marks gone) told)
      (stays-in marks gone k out);
  hides = λ marks e le i. (stays-in marks gone k out i && nat_lt e k) || keeps.hides marks e le i;
}

-- A rollback, exactly.

abbrev epochs_but : ℕ → EpochSet → EpochSet
epochs_but k set e = set e && not (k == e)

but-here : (k j : ℕ) (set : EpochSet) → j ≡ k → epochs_but k set j ≡ false
but-here k j set same = ap (λ (b : Bool). set j && not b) (eq-eqb k j (sym same)) ∙ and-false (set j)

but-other : (k j : ℕ) (set : EpochSet) → (j ≡ k → ⊥) → epochs_but k set j ≡ set j
but-other k j set other = ap (λ (b : Bool). set j && not b) (ne_eqb k j (λ e. other (sym e))) ∙ and-true (set j)

run-below : (here : Bool) (marks : EpochSet) (k j e : ℕ) (rows : List CodedRow) (older : List BrickEntry)
    → is_below_mark marks e (if here then entries_without_epoch k older else RowRun j rows ∷ entries_without_epoch k older)
    ≡ is_below_mark marks e (entries_without_epoch k older)
run-below true marks k j e rows older = refl
run-below false marks k j e rows older = refl

mark-below : (here : Bool) (marks : EpochSet) (k j e : ℕ) (older : List BrickEntry) → (j == k) ≡ here
    → is_below_mark marks e (entries_without_epoch k older) ≡ is_below_mark (epochs_but k marks) e older
    → is_below_mark marks e (if here then entries_without_epoch k older else RowMark j ∷ entries_without_epoch k older)
    ≡ ((epochs_but k marks j && nat_lt e j) || is_below_mark (epochs_but k marks) e older)
mark-below true marks k j e older is rest =
    rest ∙ ap (λ (b : Bool). (b && nat_lt e j) || is_below_mark (epochs_but k marks) e older) (sym (but-here k j marks (eqb-true j k is)))
mark-below false marks k j e older is rest =
    λ i. (sym (but-other k j marks (eqb-false j k is)) i && nat_lt e j) || rest i

pub rollback-below : (marks : EpochSet) (k e : ℕ) (xs : List BrickEntry)
    → is_below_mark marks e (entries_without_epoch k xs) ≡ is_below_mark (epochs_but k marks) e xs
rollback-below marks k e [] = refl
rollback-below marks k e (RowRun j rows ∷ older) = run-below (j == k) marks k j e rows older ∙ rollback-below marks k e older
rollback-below marks k e (RowMark j ∷ older) = mark-below (j == k) marks k j e older refl (rollback-below marks k e older)

but-before : (here : Bool) (k j : ℕ) (set : EpochSet)
    → epochs_but k (epochs_before_mark here j set) ≡ epochs_before_mark here j (epochs_but k set)
but-before true k j set = λ i e. and-last (set e) (not (k == e)) (nat_lt j e) i
but-before false k j set = refl

run-rows : (here : Bool) (epochs marks : EpochSet) (k j : ℕ) (rows : List CodedRow) (older : List BrickEntry) → (j == k) ≡ here
    → rows_shown_to epochs marks (entries_without_epoch k older) ≡ rows_shown_to (epochs_but k epochs) (epochs_but k marks) older
    → rows_shown_to epochs marks (if here then entries_without_epoch k older else RowRun j rows ∷ entries_without_epoch k older)
    ≡ rows_shown_to (epochs_but k epochs) (epochs_but k marks) (RowRun j rows ∷ older)
run-rows true epochs marks k j rows older is rest =
    rest
    ∙ sym (append-nil (rows_shown_to (epochs_but k epochs) (epochs_but k marks) older))
    ∙ ap (λ (b : Bool). rows_shown_to (epochs_but k epochs) (epochs_but k marks) older ++ rows_where (b && not (is_below_mark (epochs_but k marks) j older)) rows)
    (sym (but-here k j epochs (eqb-true j k is)))
run-rows false epochs marks k j rows older is rest =
    λ i. rest i ++ rows_where (sym (but-other k j epochs (eqb-false j k is)) i && not (rollback-below marks k j older i)) rows

mark-rows : (here : Bool) (epochs marks : EpochSet) (k j : ℕ) (older : List BrickEntry) → (j == k) ≡ here
    → ((set : EpochSet) → rows_shown_to set marks (entries_without_epoch k older) ≡ rows_shown_to (epochs_but k set) (epochs_but k marks) older)
    → rows_shown_to epochs marks (if here then entries_without_epoch k older else RowMark j ∷ entries_without_epoch k older)
    ≡ rows_shown_to (epochs_but k epochs) (epochs_but k marks) (RowMark j ∷ older)
mark-rows true epochs marks k j older is rest =
    rest epochs
    ∙ ap (λ (b : Bool). rows_shown_to (epochs_before_mark b j (epochs_but k epochs)) (epochs_but k marks) older)
    (sym (but-here k j marks (eqb-true j k is)))
mark-rows false epochs marks k j older is rest =
    rest (epochs_before_mark (marks j) j epochs)
    ∙ ap (λ (set : EpochSet). rows_shown_to set (epochs_but k marks) older) (but-before (marks j) k j epochs)
    ∙ ap (λ (b : Bool). rows_shown_to (epochs_before_mark b j (epochs_but k epochs)) (epochs_but k marks) older)
    (sym (but-other k j marks (eqb-false j k is)))

pub rollback-shows : (epochs marks : EpochSet) (k : ℕ) (xs : List BrickEntry)
    → rows_shown_to epochs marks (entries_without_epoch k xs) ≡ rows_shown_to (epochs_but k epochs) (epochs_but k marks) xs
rollback-shows epochs marks k [] = refl
rollback-shows epochs marks k (RowRun j rows ∷ older) = run-rows (j == k) epochs marks k j rows older refl (rollback-shows epochs marks k older)
rollback-shows epochs marks k (RowMark j ∷ older) =
    mark-rows (j == k) epochs marks k j older refl (λ set. rollback-shows set marks k older)

both-gone : (a b c : Bool) → ((a && not b) && not c) ≡ (a && not (b || c))
both-gone true true c = refl
both-gone true false c = refl
both-gone false b c = refl

without-both : (k : ℕ) (set gone : EpochSet) → epochs_without (epochs_but k set) gone ≡ epochs_without set (λ e. k == e || gone e)
without-both k set gone = λ i e. both-gone (set e) (k == e) (gone e) i

pub keeps-rollback : (p k : ℕ) (gone : EpochSet) (now told : List BrickEntry) → p < k → KeepsTold p gone now told
    → KeepsTold p (λ e. k == e || gone e) (entries_without_epoch k now) told
keeps-rollback p k gone now told above keeps = record {
  shows = λ epochs marks all.
      rollback-shows epochs marks k now
      ∙ keeps.shows (epochs_but k epochs) (epochs_but k marks)
      (λ e le. but-other k e marks (λ same. omega (arith, above, le, same)) ∙ all e le)
      ∙ (λ i. rows_shown_to (without-both k epochs gone i) (without-both k marks gone i) told);
  hides = λ marks e le.
      rollback-below marks k e now
      ∙ keeps.hides (epochs_but k marks) e le
      ∙ (λ i. is_below_mark (without-both k marks gone i) e told);
}

-- A purge.

purge-mark-hides : (up : Bool) (marks left : EpochSet) (at d e : ℕ) (older : List BrickEntry) → nat_le d at ≡ up → at ≤ e
    → ((set : EpochSet) → is_below_mark marks e (entries_after_purge set at older) ≡ is_below_mark marks e older)
    → is_below_mark marks e (if up then entries_after_purge (epochs_above d left) at older else RowMark d ∷ entries_after_purge left at older)
    ≡ ((marks d && nat_lt e d) || is_below_mark marks e older)
purge-mark-hides true marks left at d e older is le rest =
    let l = leb-true d at is in
    rest (epochs_above d left)
    ∙ ap (λ (b : Bool). b || is_below_mark marks e older)
    (sym (ap (λ (b : Bool). marks d && b) (le-ltb e d (omega (arith, l, le))) ∙ and-false (marks d)))
purge-mark-hides false marks left at d e older is le rest = ap (λ b. (marks d && nat_lt e d) || b) (rest left)

purge-hides : (marks left : EpochSet) (at e : ℕ) (xs : List BrickEntry) → at ≤ e
    → is_below_mark marks e (entries_after_purge left at xs) ≡ is_below_mark marks e xs
purge-hides marks left at e [] le = refl
purge-hides marks left at e (RowRun j rows ∷ older) le = purge-hides marks left at e older le
purge-hides marks left at e (RowMark d ∷ older) le =
    purge-mark-hides (nat_le d at) marks left at d e older refl le (λ set. purge-hides marks set at e older le)

pub keeps-purge : (p at : ℕ) (gone : EpochSet) (now told : List BrickEntry) → at ≤ p → KeepsTold p gone now told
    → KeepsTold p gone (entries_after_purge every_epoch at now) told
keeps-purge p at gone now told within keeps = record {
  shows = λ epochs marks all.
      purge-unseen epochs marks at now (λ d le. all d (omega (arith, within, le))) ∙ keeps.shows epochs marks all;
  hides = λ marks e le. purge-hides marks every_epoch at e now (omega (arith, within, le)) ∙ keeps.hides marks e le;
}

pub keeps-rise : (p more : ℕ) (gone : EpochSet) (now told : List BrickEntry) → p ≤ more → KeepsTold p gone now told → KeepsTold more gone now told
keeps-rise p more gone now told rises keeps = record {
  shows = λ epochs marks all. keeps.shows epochs marks (λ e le. all e (omega (arith, rises, le)));
  hides = λ marks e le. keeps.hides marks e (omega (arith, rises, le));
}

pub keeps-same : (p : ℕ) (xs : List BrickEntry) → KeepsTold p (λ e. false) xs xs
keeps-same p xs = record {
  shows = λ epochs marks all i. rows_shown_to (λ e. sym (and-true (epochs e)) i) (λ e. sym (and-true (marks e)) i) xs;
  hides = λ marks e le i. is_below_mark (λ d. sym (and-true (marks d)) i) e xs;
}
