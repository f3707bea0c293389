-- What a brick shows after an append, a deletion, a rollback and a purge.
-- A sight is one test on the epochs of rows and one on those of marks.
use Rattle.std.proofs.Common.{◌≡◌, ◌∙◌, ℕ, ◌≤◌, ◌==◌, Bool, true, false, not, ◌&&◌, ◌||◌, nat_lt, nat_le, List, [], ◌∷◌, ◌++◌, refl, sym, ap, eqb-true, append-nil, if◌then◌else◌}
use Rattle.std.proofs.lemmas.Bool.{leb-true}
use Rattle.cube_values.specs.declared.row.CodedRow.{CodedRow}
use Rattle.core_events.specs.ShardView.{BrickEntry, RowRun, RowMark, EpochSet, is_below_mark, epochs_above, epochs_before_mark, rows_where, rows_shown_to, entries_without_epoch, is_up_to, entries_after_purge, every_epoch}

-- Rows and marks of an epoch that is not looked for.

pub append-unseen : (epochs marks : EpochSet) (k : ℕ) (rows : List CodedRow) (xs : List BrickEntry) → epochs k ≡ false
    → rows_shown_to epochs marks (RowRun k rows ∷ xs) ≡ rows_shown_to epochs marks xs
append-unseen epochs marks k rows xs hidden =
    ap (λ (b : Bool). rows_shown_to epochs marks xs ++ rows_where (b && not (is_below_mark marks k xs)) rows) hidden
    ∙ append-nil (rows_shown_to epochs marks xs)

pub mark-unseen : (epochs marks : EpochSet) (k : ℕ) (xs : List BrickEntry) → marks k ≡ false
    → rows_shown_to epochs marks (RowMark k ∷ xs) ≡ rows_shown_to epochs marks xs
mark-unseen epochs marks k xs hidden = ap (λ (b : Bool). rows_shown_to (epochs_before_mark b k epochs) marks xs) hidden

-- A rollback of an epoch that is not looked for.

below-without : (here : Bool) (marks : EpochSet) (k j e : ℕ) (older : List BrickEntry) → (j == k) ≡ here → marks k ≡ false
    → is_below_mark marks e (entries_without_epoch k older) ≡ is_below_mark marks e older
    → is_below_mark marks e (if here then entries_without_epoch k older else RowMark j ∷ entries_without_epoch k older)
    ≡ ((marks j && nat_lt e j) || is_below_mark marks e older)
below-without true marks k j e older is hidden rest =
    rest ∙ ap (λ (b : Bool). (b && nat_lt e j) || is_below_mark marks e older) (sym (ap marks (eqb-true j k is) ∙ hidden))
below-without false marks k j e older is hidden rest = ap (λ b. (marks j && nat_lt e j) || b) rest

below-run : (here : Bool) (marks : EpochSet) (k j e : ℕ) (rows : List CodedRow) (older : List BrickEntry)
    → is_below_mark marks e (entries_without_epoch k older) ≡ is_below_mark marks e older
    → is_below_mark marks e (if here then entries_without_epoch k older else RowRun j rows ∷ entries_without_epoch k older)
    ≡ is_below_mark marks e older
below-run true marks k j e rows older rest = rest
below-run false marks k j e rows older rest = rest

pub rollback-below : (marks : EpochSet) (k e : ℕ) (xs : List BrickEntry) → marks k ≡ false
    → is_below_mark marks e (entries_without_epoch k xs) ≡ is_below_mark marks e xs
rollback-below marks k e [] hidden = refl
rollback-below marks k e (RowRun j rows ∷ older) hidden =
    below-run (j == k) marks k j e rows older (rollback-below marks k e older hidden)
rollback-below marks k e (RowMark j ∷ older) hidden =
    below-without (j == k) marks k j e older refl hidden (rollback-below marks k e older hidden)

before-mark-none : (here : Bool) (k j : ℕ) (epochs : EpochSet) → epochs k ≡ false → epochs_before_mark here j epochs k ≡ false
before-mark-none true k j epochs hidden = ap (λ (b : Bool). b && nat_lt j k) hidden
before-mark-none false k j epochs hidden = hidden

run-without : (here : Bool) (epochs marks : EpochSet) (k j : ℕ) (rows : List CodedRow) (older : List BrickEntry)
    → (j == k) ≡ here → epochs k ≡ false → marks k ≡ false
    → rows_shown_to epochs marks (entries_without_epoch k older) ≡ rows_shown_to epochs marks older
    → rows_shown_to epochs marks (if here then entries_without_epoch k older else RowRun j rows ∷ entries_without_epoch k older)
    ≡ rows_shown_to epochs marks (RowRun j rows ∷ older)
run-without true epochs marks k j rows older is hidden none rest =
    rest ∙ sym (append-unseen epochs marks j rows older (ap epochs (eqb-true j k is) ∙ hidden))
run-without false epochs marks k j rows older is hidden none rest =
    λ i. rest i ++ rows_where (epochs j && not (rollback-below marks k j older none i)) rows

mark-without : (here : Bool) (epochs marks : EpochSet) (k j : ℕ) (older : List BrickEntry) → (j == k) ≡ here → marks k ≡ false
    → ((set : EpochSet) → set k ≡ false → rows_shown_to set marks (entries_without_epoch k older) ≡ rows_shown_to set marks older)
    → epochs k ≡ false
    → rows_shown_to epochs marks (if here then entries_without_epoch k older else RowMark j ∷ entries_without_epoch k older)
    ≡ rows_shown_to epochs marks (RowMark j ∷ older)
mark-without true epochs marks k j older is none rest hidden =
    rest epochs hidden ∙ sym (mark-unseen epochs marks j older (ap marks (eqb-true j k is) ∙ none))
mark-without false epochs marks k j older is none rest hidden =
    rest (epochs_before_mark (marks j) j epochs) (before-mark-none (marks j) k j epochs hidden)

pub rollback-unseen : (epochs marks : EpochSet) (k : ℕ) (xs : List BrickEntry) → epochs k ≡ false → marks k ≡ false
    → rows_shown_to epochs marks (entries_without_epoch k xs) ≡ rows_shown_to epochs marks xs
rollback-unseen epochs marks k [] hidden none = refl
rollback-unseen epochs marks k (RowRun j rows ∷ older) hidden none =
    run-without (j == k) epochs marks k j rows older refl hidden none (rollback-unseen epochs marks k older hidden none)
rollback-unseen epochs marks k (RowMark j ∷ older) hidden none =
    mark-without (j == k) epochs marks k j older refl none (λ set out. rollback-unseen set marks k older out none) hidden

-- A purge, for whoever obeys all marks up to its epoch.

or-assoc : (a b c : Bool) → ((a || b) || c) ≡ (a || (b || c))
or-assoc true b c = refl
or-assoc false b c = refl

or-swap : (a b c : Bool) → (a || (b || c)) ≡ (b || (a || c))
or-swap true true c = refl
or-swap true false c = refl
or-swap false b c = refl

-- A mark up to the purge's epoch counts, and one above it is left.
purge-mark-below : (up : Bool) (marks left : EpochSet) (at d e : ℕ) (older : List BrickEntry) → nat_le d at ≡ up
    → (up ≡ true → marks d ≡ true)
    → ((set : EpochSet) → (is_below_mark (is_up_to at) e older || is_below_mark marks e (entries_after_purge set at older)) ≡ is_below_mark marks e older)
    → (((up && nat_lt e d) || is_below_mark (is_up_to at) e older)
    || is_below_mark marks e (if up then entries_after_purge (epochs_above d left) at older else RowMark d ∷ entries_after_purge left at older))
    ≡ ((marks d && nat_lt e d) || is_below_mark marks e older)
purge-mark-below true marks left at d e older is all rest =
    or-assoc (nat_lt e d) (is_below_mark (is_up_to at) e older) (is_below_mark marks e (entries_after_purge (epochs_above d left) at older))
    ∙ ap (λ b. nat_lt e d || b) (rest (epochs_above d left))
    ∙ ap (λ (b : Bool). (b && nat_lt e d) || is_below_mark marks e older) (sym (all refl))
purge-mark-below false marks left at d e older is all rest =
    or-swap (is_below_mark (is_up_to at) e older) (marks d && nat_lt e d) (is_below_mark marks e (entries_after_purge left at older))
    ∙ ap (λ b. (marks d && nat_lt e d) || b) (rest left)

-- What hides rows is a mark up to the purge's epoch, or a mark that is left.
purge-below : (marks left : EpochSet) (at e : ℕ) (xs : List BrickEntry) → ((d : ℕ) → d ≤ at → marks d ≡ true)
    → (is_below_mark (is_up_to at) e xs || is_below_mark marks e (entries_after_purge left at xs)) ≡ is_below_mark marks e xs
purge-below marks left at e [] all = refl
purge-below marks left at e (RowRun j rows ∷ older) all = purge-below marks left at e older all
purge-below marks left at e (RowMark d ∷ older) all =
    purge-mark-below (nat_le d at) marks left at d e older refl (λ up. all d (leb-true d at up))
    (λ set. purge-below marks set at e older all)

twice-where : (a b : Bool) (rows : List CodedRow) → rows_where a (rows_where b rows) ≡ rows_where (a && b) rows
twice-where true b rows = refl
twice-where false true rows = refl
twice-where false false rows = refl

-- Where a run is left: it is looked for, and hidden neither by a mark that went nor by one that stays.
same-where : (a b gone stays : Bool) → ((a && not stays) && (b && not gone)) ≡ ((a && b) && not (gone || stays))
same-where true true true true = refl
same-where true true true false = refl
same-where true true false true = refl
same-where true true false false = refl
same-where true false true true = refl
same-where true false true false = refl
same-where true false false true = refl
same-where true false false false = refl
same-where false b gone stays = refl

-- The epochs of both sets.
abbrev pub epochs_of_both : EpochSet → EpochSet → EpochSet
epochs_of_both a b e = a e && b e

and-assoc : (a b c : Bool) → ((a && b) && c) ≡ (a && (b && c))
and-assoc true b c = refl
and-assoc false b c = refl

and-last : (a b c : Bool) → ((a && c) && b) ≡ ((a && b) && c)
and-last true true true = refl
and-last true true false = refl
and-last true false true = refl
and-last true false false = refl
and-last false b c = refl

mark-last : (here : Bool) (d : ℕ) (epochs left : EpochSet)
    → epochs_of_both (epochs_before_mark here d epochs) left ≡ epochs_before_mark here d (epochs_of_both epochs left)
mark-last true d epochs left = λ i e. and-last (epochs e) (left e) (nat_lt d e) i
mark-last false d epochs left = refl

purge-mark : (up : Bool) (epochs marks left : EpochSet) (at d : ℕ) (older : List BrickEntry) → (up ≡ true → marks d ≡ true)
    → ((look set : EpochSet) → rows_shown_to look marks (entries_after_purge set at older) ≡ rows_shown_to (epochs_of_both look set) marks older)
    → rows_shown_to epochs marks (if up then entries_after_purge (epochs_above d left) at older else RowMark d ∷ entries_after_purge left at older)
    ≡ rows_shown_to (epochs_before_mark (marks d) d (epochs_of_both epochs left)) marks older
purge-mark true epochs marks left at d older all rest =
    rest epochs (epochs_above d left)
    ∙ ap (λ (set : EpochSet). rows_shown_to set marks older) (sym (λ i e. and-assoc (epochs e) (left e) (nat_lt d e) i))
    ∙ ap (λ (b : Bool). rows_shown_to (epochs_before_mark b d (epochs_of_both epochs left)) marks older) (sym (all refl))
purge-mark false epochs marks left at d older all rest =
    rest (epochs_before_mark (marks d) d epochs) left
    ∙ ap (λ (set : EpochSet). rows_shown_to set marks older) (mark-last (marks d) d epochs left)

purge-shows : (epochs marks left : EpochSet) (at : ℕ) (xs : List BrickEntry) → ((d : ℕ) → d ≤ at → marks d ≡ true)
    → rows_shown_to epochs marks (entries_after_purge left at xs) ≡ rows_shown_to (epochs_of_both epochs left) marks xs
purge-shows epochs marks left at [] all = refl
purge-shows epochs marks left at (RowRun j rows ∷ older) all =
    let gone = is_below_mark (is_up_to at) j older in
    let stays = is_below_mark marks j (entries_after_purge left at older) in
    let kept : rows_where (epochs j && not stays) (rows_where (left j && not gone) rows)
    ≡ rows_where ((epochs j && left j) && not (is_below_mark marks j older)) rows =
    twice-where (epochs j && not stays) (left j && not gone) rows
    ∙ ap (λ (b : Bool). rows_where b rows) (same-where (epochs j) (left j) gone stays)
    ∙ ap (λ (b : Bool). rows_where ((epochs j && left j) && not b) rows) (purge-below marks left at j older all)
    in
    λ i. purge-shows epochs marks left at older all i ++ kept i
purge-shows epochs marks left at (RowMark d ∷ older) all =
    purge-mark (nat_le d at) epochs marks left at d older (λ up. all d (leb-true d at up))
    (λ look set. purge-shows look marks set at older all)

and-every : (b : Bool) → (b && true) ≡ b
and-every true = refl
and-every false = refl

-- A purge changes no row that such a sight shows.
pub purge-unseen : (epochs marks : EpochSet) (at : ℕ) (xs : List BrickEntry) → ((d : ℕ) → d ≤ at → marks d ≡ true)
    → rows_shown_to epochs marks (entries_after_purge every_epoch at xs) ≡ rows_shown_to epochs marks xs
purge-unseen epochs marks at xs all =
    purge-shows epochs marks every_epoch at xs all
    ∙ ap (λ (set : EpochSet). rows_shown_to set marks xs) (λ i e. and-every (epochs e) i)
