-- The entries that a purge leaves of a brick: none of them is a mark up to its epoch, and without such marks a reader
-- sees just the rows that the brick holds.
use Rattle.std.proofs.Common.{◌≡◌, ◌∙◌, ℕ, ◌<◌, ◌≤◌, ◌==◌, Bool, true, false, not, ◌&&◌, ◌||◌, nat_lt, nat_le, List, [], ◌∷◌, ◌++◌, if◌then◌else◌, refl, sym, ap, arith, le-leb}
use Rattle.std.proofs.lemmas.Bool.{leb-false}
use Rattle.cube_values.specs.Sees.{sees}
use Rattle.core_events.specs.Clients.{reader_up_to}
use Rattle.core_events.specs.ShardView.{BrickEntry, RowRun, RowMark, EpochSet, is_below_mark, epochs_above, rows_where, brick_rows_seen, entries_without_epoch, entries_after_purge, rows_appended}
use Rattle.core_events.proofs.BrickRows.{mark-unseen}
use Rattle.core_events.proofs.CopyRows.{sees-not}
use Rattle.final_shards.specs.PurgedBricks.{rows_held_up_to, HasNoMarkUpTo, HasNoMark}

-- ---- marks

mark-left : (up : Bool) (epochs : EpochSet) (at d : ℕ) (older : List BrickEntry) → nat_le d at ≡ up
    → ((set : EpochSet) → HasNoMarkUpTo at (entries_after_purge set at older))
    → HasNoMarkUpTo at
    (if up then entries_after_purge (epochs_above d epochs) at older
    else RowMark d ∷ entries_after_purge epochs at older)
mark-left true epochs at d older is rest = rest (epochs_above d epochs)
mark-left false epochs at d older is rest = (leb-false d at is, rest epochs)

pub no-mark-left : (epochs : EpochSet) (at : ℕ) (xs : List BrickEntry)
    → HasNoMarkUpTo at (entries_after_purge epochs at xs)
no-mark-left epochs at [] = tt
no-mark-left epochs at (RowRun j rows ∷ older) = no-mark-left epochs at older
no-mark-left epochs at (RowMark d ∷ older) =
    mark-left (nat_le d at) epochs at d older refl (λ set. no-mark-left set at older)

-- Of marks that are above an epoch those that a later purge leaves are so, and those that a rollback leaves.

mark-stays : (up : Bool) (epochs : EpochSet) (low at d : ℕ) (older : List BrickEntry) → low < d
    → ((set : EpochSet) → HasNoMarkUpTo low (entries_after_purge set at older))
    → HasNoMarkUpTo low
    (if up then entries_after_purge (epochs_above d epochs) at older
    else RowMark d ∷ entries_after_purge epochs at older)
mark-stays true epochs low at d older above rest = rest (epochs_above d epochs)
mark-stays false epochs low at d older above rest = (above, rest epochs)

pub no-mark-purged : (epochs : EpochSet) (low at : ℕ) (xs : List BrickEntry) → HasNoMarkUpTo low xs
    → HasNoMarkUpTo low (entries_after_purge epochs at xs)
no-mark-purged epochs low at [] none = tt
no-mark-purged epochs low at (RowRun j rows ∷ older) none = no-mark-purged epochs low at older none
no-mark-purged epochs low at (RowMark d ∷ older) none =
    mark-stays (nat_le d at) epochs low at d older none.0 (λ set. no-mark-purged set low at older none.1)

pub no-mark-rolled : (low epoch : ℕ) (xs : List BrickEntry) → HasNoMarkUpTo low xs
    → HasNoMarkUpTo low (entries_without_epoch epoch xs)
no-mark-rolled low epoch [] none = tt
no-mark-rolled low epoch (RowRun j rows ∷ older) none = at (j == epoch) (no-mark-rolled low epoch older none)
  where
    at : (here : Bool) → HasNoMarkUpTo low (entries_without_epoch epoch older)
        → HasNoMarkUpTo low
        (if here then entries_without_epoch epoch older else RowRun j rows ∷ entries_without_epoch epoch older)
    at true rest = rest
    at false rest = rest
no-mark-rolled low epoch (RowMark d ∷ older) none = at (d == epoch) (no-mark-rolled low epoch older none.1)
  where
    at : (here : Bool) → HasNoMarkUpTo low (entries_without_epoch epoch older)
        → HasNoMarkUpTo low
        (if here then entries_without_epoch epoch older else RowMark d ∷ entries_without_epoch epoch older)
    at true rest = rest
    at false rest = (none.0, rest)

-- ---- rows

below-none : (at e : ℕ) (xs : List BrickEntry) → HasNoMarkUpTo at xs
    → is_below_mark (sees (reader_up_to at)) e xs ≡ false
below-none at e [] none = refl
below-none at e (RowRun j rows ∷ older) none = below-none at e older none
below-none at e (RowMark d ∷ older) none =
    λ i. (sees-not at d none.0 i && nat_lt e d) || below-none at e older none.1 i

both-tests : (b : Bool) → ((b && true) && true) ≡ b
both-tests true = refl
both-tests false = refl

pub held-is-seen : (at : ℕ) (xs : List BrickEntry) → HasNoMarkUpTo at xs
    → brick_rows_seen (reader_up_to at) xs ≡ rows_held_up_to at xs
held-is-seen at [] none = refl
held-is-seen at (RowRun j rows ∷ older) none =
    (λ i. held-is-seen at older none i
    ++ rows_where (sees (reader_up_to at) j && not (below-none at j older none i)) rows)
    ∙ ap (λ (b : Bool). rows_held_up_to at older ++ rows_where b rows) (both-tests (nat_le j at))
held-is-seen at (RowMark d ∷ older) none =
    mark-unseen (sees (reader_up_to at)) (sees (reader_up_to at)) d older (sees-not at d none.0)
    ∙ held-is-seen at older none.1

-- ---- where all entries are of epochs up to one

abbrev pub AreUpTo : ℕ → List BrickEntry → Type 0
AreUpTo most [] = Unit {0}
AreUpTo most (RowRun j rows ∷ older) = (j ≤ most) × AreUpTo most older
AreUpTo most (RowMark d ∷ older) = (d ≤ most) × AreUpTo most older

pub no-mark-at-all : (at : ℕ) (xs : List BrickEntry) → AreUpTo at xs → HasNoMarkUpTo at xs → HasNoMark xs
no-mark-at-all at [] low none = tt
no-mark-at-all at (RowRun j rows ∷ older) low none = no-mark-at-all at older low.1 none
no-mark-at-all at (RowMark d ∷ older) low none =
    absurd (let most = low.0 in let above = none.0 in omega (arith, most, above))

pub all-held : (at : ℕ) (xs : List BrickEntry) → AreUpTo at xs → rows_appended xs ≡ rows_held_up_to at xs
all-held at [] low = refl
all-held at (RowRun j rows ∷ older) low =
    λ i. all-held at older low.1 i ++ rows_where (sym (le-leb j at low.0) i) rows
all-held at (RowMark d ∷ older) low = all-held at older low.1
