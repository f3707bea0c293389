-- What a shard copies of a brick is a copy of what the core takes the brick for.
use Rattle.std.proofs.Common.{◌≡◌, ◌⊎◌, ◌∙◌, ℕ, zero, suc, ◌<◌, ◌≤◌, true, false, not, ◌&&◌, List, [], ◌∷◌, ◌++◌, Option, Some, None, IfSome, IsSomeAnd, inl, inr, refl, sym, ap, arith, All}
use Rattle.std.specs.List.{Contains}
use Rattle.std.specs.Option.{option_map_or}
use Rattle.std.proofs.lemmas.List.Elements.{All-nil}
use Rattle.cube_values.specs.declared.row.CodedRow.{CodedRow}
use Rattle.cube_values.specs.declared.shape.CubeShape.{CubeShape}
use Rattle.cube_values.specs.Shapes.{bricks_of}
use Rattle.cube_values.specs.declared.entry.Entry.{Entry}
use Rattle.cube_values.specs.Sees.{sees}
use Rattle.cube_rounds.specs.Bricks.{BrickPart}
use Rattle.brick_map.specs.Births.{BrickContent, CubeState, cube_sizes}
use Rattle.brick_map.specs.Copied.{IsCopied, round_part_with}
use Rattle.core_events.specs.Clients.{reader_up_to}
use Rattle.core_events.specs.Runs.{IsBrickCopy}
use Rattle.core_events.specs.ShardView.{BrickEntry, RowRun, RowMark, EpochSet, HasNoZeroRows, brick_rows_seen, entries_of_round, every_epoch, is_below_mark, is_up_to, rows_appended, rows_over_kept, rows_shown_to, rows_where}
use Rattle.core_events.proofs.RoundEntries.{IsOfRound, rows-of-round}
use Rattle.core_events.proofs.CopyRows.{sees-low}
use Rattle.core_serial.proofs.CopiedBricks.{none-at-zero, sees-zero}
use Rattle.core_serial.proofs.OverKept.{NoneAtZero, over-none, over-run}
use Rattle.shard_views.specs.Views.{IsUniform, IsWholeContent, ShowAlikeAbove, brick_view, part_view}
use Rattle.shard_views.proofs.Alike.{view_from}
use Rattle.shard_views.proofs.CopiedParts.{copies_the_same, part_epochs, part_whole}
use Rattle.shard_cell.specs.Slots.{HasShape}
use Rattle.shard_events.proofs.ShardAnswers.{round_alike}
use Rattle.shard_events.specs.ShardsInRuns.{HasNoZeroRun, IsWholePart}
use Rattle.shard_events.proofs.RowlessBricks.{none_shown, none_in_round, no_rows_viewed}
use Rattle.shard_events.proofs.ZeroRows.{later_viewed, all_copied, uniform_up_to}

-- two bricks show the same, and hide the same of what was kept up to an epoch
record OverAlike (from : ℕ) (a b : List BrickEntry) : Type 0 where
  rows : rows_shown_to every_epoch every_epoch a ≡ rows_shown_to every_epoch every_epoch b
  hidden : (g : ℕ) → from ≡ suc g → is_below_mark every_epoch g a ≡ is_below_mark every_epoch g b

abbrev no_epoch : EpochSet
no_epoch e = false

none_below : (epoch : ℕ) (xs : List BrickEntry) → is_below_mark no_epoch epoch xs ≡ false
none_below epoch [] = refl
none_below epoch (RowRun other rows ∷ older) = none_below epoch older
none_below epoch (RowMark other ∷ older) = none_below epoch older

-- whoever looks for all rows and obeys no mark sees all
all_shown : (xs : List BrickEntry) → rows_shown_to every_epoch no_epoch xs ≡ rows_appended xs
all_shown [] = refl
all_shown (RowRun epoch rows ∷ older) = (λ i. all_shown older i ++ rows_where (not (none_below epoch older i)) rows)
all_shown (RowMark epoch ∷ older) = all_shown older

over_same : (from : ℕ) (kept : List CodedRow) (a b : List BrickEntry) → NoneAtZero from kept → OverAlike from a b
    → rows_over_kept from kept a ≡ rows_over_kept from kept b
over_same zero kept a b none h =
    ap (λ (rows : List CodedRow). rows_over_kept zero rows a) (none refl)
    ∙ over-none zero every_epoch every_epoch a
    ∙ h.rows
    ∙ sym (over-none zero every_epoch every_epoch b)
    ∙ ap (λ (rows : List CodedRow). rows_over_kept zero rows b) (sym (none refl))
over_same (suc g) kept a b none h =
    over-run g kept every_epoch every_epoch a
    ∙ (λ i. rows_where (true && not (h.hidden g refl i)) kept ++ h.rows i)
    ∙ sym (over-run g kept every_epoch every_epoch b)

-- a brick of a shard, what the core takes it for, and the epochs of a round
pub record IsCopiedAs (low from to : ℕ) (c : BrickContent) (view : List BrickEntry) : Type 0 where
  pub whole : IsWholeContent c
  pub later : HasNoZeroRun c.entries
  pub alike : ShowAlikeAbove low (brick_view c) view
  pub later_view : HasNoZeroRows view
  pub begins : (from ≡ low) ⊎ (from ≡ 0)
  pub above : low < to

uniform_reader : (low from : ℕ) → low ≤ from → IsUniform low (sees (reader_up_to from))
uniform_reader low from l = λ a b p q. sees-low from a (omega (arith, p, l)) ∙ sym (sees-low from b (omega (arith, q, l)))

module _ (low from to number : ℕ) (c : BrickContent) (view : List BrickEntry) (h : IsCopiedAs low from to c view) where
  abbrev kept : List CodedRow
  kept = brick_rows_seen (reader_up_to from) view

  kept_none : NoneAtZero from kept
  kept_none = λ none. ap (λ (n : ℕ). brick_rows_seen (reader_up_to n) view) none ∙ none-at-zero (sees (reader_up_to 0)) (sees (reader_up_to 0)) view sees-zero h.later_view

  all_alike : rows_shown_to every_epoch every_epoch (entries_of_round 0 to (brick_view c)) ≡ rows_shown_to every_epoch every_epoch (entries_of_round 0 to view)
  all_alike =
      let above = h.above in
      all_copied to (brick_view c) (later_viewed c h.later)
      ∙ h.alike.rows (is_up_to to) (is_up_to to) (uniform_up_to low to (omega (arith, above)))
      ∙ sym (all_copied to view h.later_view)

  round_over : OverAlike from (entries_of_round from to (brick_view c)) (entries_of_round from to view)
  round_over = elim h.begins [
    | inl at ↦
        (let alike = round_alike from to low (brick_view c) view (omega (arith, at)) h.alike in
        record { rows = alike.rows every_epoch every_epoch; hidden = λ g is. alike.hidden every_epoch g })
    | inr none ↦ record {
      rows = coe 1 0 (i. rows_shown_to every_epoch every_epoch (entries_of_round (none i) to (brick_view c)) ≡ rows_shown_to every_epoch every_epoch (entries_of_round (none i) to view)) all_alike;
      hidden = λ g is. absurd (omega (arith, none, is));
    }
  ]

  part_over : OverAlike from (part_view (round_part_with from to number c)) (entries_of_round from to view)
  part_over =
      let same = copies_the_same from to number c h.whole in
      record {
        rows = same.rows every_epoch every_epoch ∙ round_over.rows;
        hidden = λ g is. same.hidden every_epoch g ∙ round_over.hidden g is;
      }

  -- the rows that a part has are rows of the brick
  part_rows : All (Contains (rows_appended view)) (rows_appended (part_view (round_part_with from to number c)))
  part_rows =
      let part = part_view (round_part_with from to number c) in
      let copied = entries_of_round from to (brick_view c) in
      let same : rows_appended part ≡ rows_appended copied =
      sym (all_shown part) ∙ (let alike = copies_the_same from to number c h.whole in alike.rows every_epoch no_epoch) ∙ all_shown copied in
      let whole : rows_appended (brick_view c) ≡ rows_appended view =
      sym (all_shown (brick_view c)) ∙ h.alike.rows every_epoch no_epoch (λ a b p q. refl) ∙ all_shown view in
      coe 1 0 (i. All (Contains (rows_appended view)) (same i))
      (coe 0 1 (i. All (Contains (whole i)) (rows_appended copied)) (rows-of-round from to (brick_view c)))

  part_shows : rows_over_kept from kept (part_view (round_part_with from to number c)) ≡ rows_over_kept from kept (entries_of_round from to view)
  part_shows = over_same from kept (part_view (round_part_with from to number c)) (entries_of_round from to view) kept_none part_over

  part_copied : IsBrickCopy from to view (part_view (round_part_with from to number c))
  part_copied = record { epochs = part_epochs from to number c; rows = part_rows; shows = part_shows }

  -- without rows nothing was kept, and nothing is copied
  kept_rowless : c.rows ≡ [] → kept ≡ []
  kept_rowless rowless = elim h.begins [
    | inl at ↦
        sym (h.alike.rows (sees (reader_up_to from)) (sees (reader_up_to from)) (uniform_reader low from (omega (arith, at))))
        ∙ none_shown (sees (reader_up_to from)) (sees (reader_up_to from)) (brick_view c) (no_rows_viewed c rowless)
    | inr none ↦ kept_none none
  ]

  nothing_copied : rows_over_kept from kept [] ≡ rows_over_kept from kept (entries_of_round from to view) → IsBrickCopy from to view []
  nothing_copied shows = record {
    epochs = All-nil (IsOfRound from to);
    rows = All-nil (Contains (rows_appended view));
    shows = shows;
  }

  rowless_copied : c.rows ≡ [] → IsBrickCopy from to view []
  rowless_copied rowless = nothing_copied (
      ap (λ (rows : List CodedRow). rows_over_kept from rows []) (kept_rowless rowless)
      ∙ sym (over-none from every_epoch every_epoch (entries_of_round from to view)
      ∙ sym round_over.rows
      ∙ none_shown every_epoch every_epoch (entries_of_round from to (brick_view c)) (none_in_round from to (brick_view c) (no_rows_viewed c rowless)))
      ∙ ap (λ (rows : List CodedRow). rows_over_kept from rows (entries_of_round from to view)) (sym (kept_rowless rowless))
      )

  left_out : (round_part_with from to number c).entries ≡ [] → IsBrickCopy from to view []
  left_out none = nothing_copied (
      ap (λ (entries : List Entry). rows_over_kept from kept (view_from [] 0 (round_part_with from to number c).rows entries)) (sym none)
      ∙ part_shows
      )

  pub brick_copied : (found : Option BrickPart) → IsCopied (round_part_with from to number c) c.rows found
      → IsBrickCopy from to view (option_map_or part_view found [])
  brick_copied None (inl none) = left_out none
  brick_copied None (inr rowless) = rowless_copied rowless
  brick_copied (Some part) is = coe 1 0 (i. IsBrickCopy from to view (part_view (is.0 i))) part_copied

-- a part that is copied is whole
pub part_is_whole : (from to number : ℕ) (c : BrickContent) → IsWholeContent c → (found : Option BrickPart)
    → IsCopied (round_part_with from to number c) c.rows found → IfSome found IsWholePart
part_is_whole from to number c v None is = tt
part_is_whole from to number c v (Some part) is =
    let whole : IsWholePart (round_part_with from to number c) = record { some = is.1; vector = part_whole from to number c v } in
    coe 1 0 (i. IsWholePart (is.0 i)) whole

-- a brick that a cube has not is not copied
pub none_past : (most number : ℕ) (found : Option BrickPart) → IfSome found (λ part. number < most) → most ≤ number
    → option_map_or part_view found [] ≡ []
none_past most number None low past = refl
none_past most number (Some part) low past = absurd (omega (arith, low, past))

-- the bricks of a cube that is there are those of its shape
pub there_by_shape : (shape : CubeShape) (slot : Option CubeState) (number : ℕ) (found : Option BrickPart) → HasShape shape slot
    → IfSome found (λ part. IsSomeAnd slot (λ cube. number < bricks_of (cube_sizes cube)))
    → IfSome found (λ part. number < bricks_of shape.shape.sizes)
there_by_shape shape slot number None same low = tt
there_by_shape shape None number (Some part) same low = absurd low
there_by_shape shape (Some cube) number (Some part) same low = coe 0 1 (i. number < bricks_of (same i).shape.sizes) low
