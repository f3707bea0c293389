-- What calls make of what a brick has, there or not.
use Rattle.std.proofs.Common.{◌≡◌, ℕ, ◌+◌, ◌≤◌, ◌==◌, ◌||◌, nat_le, nat_eq, not, Bool, true, false, cond, List, [], ◌∷◌, ◌++◌, map, filter, All, Option, Some, None, option_map, unwrap_or, refl, sym, ap, ◌∙◌, arith}
use Rattle.std.specs.List.{AllByRecursion, AllZip, IsDistinct, flat_map, items_where_true}
use Rattle.std.specs.Option.{option_map_or}
use Rattle.std.proofs.lemmas.Bool.Decides.{nat_tests}
use Rattle.std.proofs.lemmas.List.{append-nil}
use Rattle.std.proofs.lemmas.List.Elements.{All-filter, All-head, All-tail, All-weaker, filter-append}
use Rattle.cube_values.specs.declared.entry.Entry.{Entry}
use Rattle.cube_values.specs.declared.row.CodedRow.{CodedRow}
use Rattle.cube_values.specs.declared.shape.CubeShape.{CubeShape}
use Rattle.cube_values.specs.declared.shape.Size.{Size}
use Rattle.cube_values.specs.declared.span.Span.{Span}
use Rattle.brick_address.specs.Addresses.{brick_of}
use Rattle.brick_columns.proofs.KeptItems.{kept_all}
use Rattle.brick_store.specs.Bricks.{Home, BrickState, IsRowOf}
use Rattle.cube_values.specs.Spans.{span_has_row}
use Rattle.brick_map.specs.declared.deletion.Deletion.{Deletion}
use Rattle.brick_map.specs.declared.runs.BatchRun.{BatchRun}
use Rattle.brick_map.specs.Appended.{AreAppended}
use Rattle.brick_map.specs.Batches.{AreRuns, has_run, runs_for}
use Rattle.brick_map.specs.Births.{BrickContent, brick_numbered, content_among, content_of_brick, content_purged, content_with_mark, content_with_rows, content_without, has_brick, newborn, rows_of_brick}
use Rattle.brick_map.specs.Lists.{HasSame, IsBrickOf, OwnsRows, brick_after_deletion, brick_purged, brick_with_mark, brick_without, spare_entries_at}
use Rattle.brick_map.specs.Places.{numbers_of_bricks}
use Rattle.brick_map.specs.Waiting.{IsReadyFor}
use Rattle.brick_map.proofs.Births.{born_deleted, born_purged, born_without}
use Rattle.brick_map.proofs.Counts.{content_is, numbered_holds, numbered_map, same_content}
use Rattle.brick_map.proofs.BatchRuns.{no_rows, rows_of_run}

-- a batch is appended
has_some : (number : ℕ) (runs : List BatchRun) → has_run number runs ≡ true → 1 ≤ runs_for number runs
has_some number [] e = cc
has_some number (run ∷ runs) e = by_test (λ e. has_some number runs e) (run.number == number) e where
  by_test : (has_run number runs ≡ true → 1 ≤ runs_for number runs) → (t : Bool) → (t || has_run number runs) ≡ true → 1 ≤ cond t (1 + runs_for number runs) (runs_for number runs)
  by_test again true e = omega arith
  by_test again false e = again e

pub appended_among : (shape : CubeShape) (recent : List Deletion) (epoch number : ℕ) (rows : List CodedRow) (runs : List BatchRun) (old new : List BrickState) → AreRuns shape.shape.sizes rows 0 runs → IsReadyFor runs old number → AreAppended shape epoch rows old new → content_among shape.shape.sizes recent new number ≡ content_with_rows epoch (rows_of_brick shape.shape.sizes number rows) (content_among shape.shape.sizes recent old number)
appended_among shape recent epoch number rows runs old new are ready h =
    content_is shape.shape.sizes recent new number
    ∙ ap (λ o. unwrap_or o (newborn shape.shape.sizes recent number)) (h.each number)
    ∙ by_option (brick_numbered number old) refl where
      none : brick_numbered number old ≡ None → (t : Bool) → has_run number runs ≡ t → rows_of_brick shape.shape.sizes number rows ≡ []
      none there false e = no_rows shape.shape.sizes rows 0 number runs are e
      none there true e =
          let room = (ready e).1 in
          let spare : spare_entries_at number old ≡ 0 = ap (λ (o : Option BrickState). option_map_or (λ b. b.spare_entries) o 0) there in
          absurd (omega (arith, room, spare, has_some number runs e))

      by_option : (o : Option BrickState) → brick_numbered number old ≡ o → unwrap_or (option_map (content_with_rows epoch (rows_of_brick shape.shape.sizes number rows)) (option_map content_of_brick o)) (newborn shape.shape.sizes recent number) ≡ (content_with_rows epoch (rows_of_brick shape.shape.sizes number rows)) (option_map_or content_of_brick o (newborn shape.shape.sizes recent number))
      by_option (Some b) e = refl
      by_option None e = sym (ap (λ l. content_with_rows epoch l (newborn shape.shape.sizes recent number)) (none e (has_run number runs) refl))

-- a box is deleted
pub deleted_among : (shape : CubeShape) (recent : List Deletion) (d : Deletion) (number : ℕ) (old ready : List BrickState) → AllZip HasSame old ready → All (IsBrickOf shape) ready → content_among shape.shape.sizes (recent ++ d ∷ []) (map (brick_after_deletion shape.shape.sizes d.span d.epoch) ready) number ≡ cond (has_brick shape.shape.sizes d.span number) (content_with_mark d.epoch (content_among shape.shape.sizes recent old number)) (content_among shape.shape.sizes recent old number)
deleted_among shape recent d number old ready same all =
    ap (λ o. option_map_or content_of_brick o (newborn shape.shape.sizes (recent ++ d ∷ []) number)) (numbered_map number (brick_after_deletion shape.shape.sizes d.span d.epoch) ready keeps)
    ∙ by_option (brick_numbered number ready) refl
    ∙ ap (λ c. cond (has_brick shape.shape.sizes d.span number) (content_with_mark d.epoch c) c) (content_is shape.shape.sizes recent ready number ∙ ap (λ o. unwrap_or o (newborn shape.shape.sizes recent number)) (same_content number old ready same) ∙ sym (content_is shape.shape.sizes recent old number)) where
      keeps : (b : BrickState) → ((brick_after_deletion shape.shape.sizes d.span d.epoch) b).home.number ≡ b.home.number
      keeps b = by_test (has_brick shape.shape.sizes d.span b.home.number) where
        by_test : (t : Bool) → (cond t (brick_with_mark d.epoch b) b).home.number ≡ b.home.number
        by_test true = refl
        by_test false = refl

      of_brick : (b : BrickState) (n : ℕ) → b.home.number ≡ n → content_of_brick ((brick_after_deletion shape.shape.sizes d.span d.epoch) b) ≡ cond (has_brick shape.shape.sizes d.span n) (content_with_mark d.epoch (content_of_brick b)) (content_of_brick b)
      of_brick b n e = by_test (has_brick shape.shape.sizes d.span b.home.number) ∙ ap (λ n. cond (has_brick shape.shape.sizes d.span n) (content_with_mark d.epoch (content_of_brick b)) (content_of_brick b)) e where
        by_test : (t : Bool) → content_of_brick (cond t (brick_with_mark d.epoch b) b) ≡ cond t (content_with_mark d.epoch (content_of_brick b)) (content_of_brick b)
        by_test true = refl
        by_test false = refl

      by_option : (o : Option BrickState) → brick_numbered number ready ≡ o → option_map_or content_of_brick (option_map (brick_after_deletion shape.shape.sizes d.span d.epoch) o) (newborn shape.shape.sizes (recent ++ d ∷ []) number) ≡ cond (has_brick shape.shape.sizes d.span number) (content_with_mark d.epoch (option_map_or content_of_brick o (newborn shape.shape.sizes recent number))) (option_map_or content_of_brick o (newborn shape.shape.sizes recent number))
      by_option None e = born_deleted shape.shape.sizes recent d number
      by_option (Some b) e = of_brick b number (numbered_holds (IsBrickOf shape) number ready b all e).1

-- an epoch is taken back, and what no snapshot needs is taken out
pub without_among : (sizes : List Size) (recent : List Deletion) (epoch number : ℕ) (bricks : List BrickState) → content_among sizes (filter (λ d. not (d.epoch == epoch)) recent) (map (brick_without epoch) bricks) number ≡ content_without epoch (content_among sizes recent bricks number)
without_among sizes recent epoch number bricks =
    ap (λ o. option_map_or content_of_brick o (newborn sizes (filter (λ d. not (d.epoch == epoch)) recent) number)) (numbered_map number (brick_without epoch) bricks (λ b. refl))
    ∙ by_option (brick_numbered number bricks) where
      by_option : (o : Option BrickState) → option_map_or content_of_brick (option_map (brick_without epoch) o) (newborn sizes (filter (λ d. not (d.epoch == epoch)) recent) number) ≡ content_without epoch (option_map_or content_of_brick o (newborn sizes recent number))
      by_option None = born_without sizes recent epoch number
      by_option (Some b) = refl

pub purged_among : (sizes : List Size) (recent : List Deletion) (epoch number : ℕ) (bricks : List BrickState) → content_among sizes (filter (λ d. not (nat_le d.epoch epoch)) recent) (map (brick_purged epoch) bricks) number ≡ content_purged epoch (content_among sizes recent bricks number)
purged_among sizes recent epoch number bricks =
    ap (λ o. option_map_or content_of_brick o (newborn sizes (filter (λ d. not (nat_le d.epoch epoch)) recent) number)) (numbered_map number (brick_purged epoch) bricks (λ b. refl))
    ∙ by_option (brick_numbered number bricks) where
      by_option : (o : Option BrickState) → option_map_or content_of_brick (option_map (brick_purged epoch) o) (newborn sizes (filter (λ d. not (nat_le d.epoch epoch)) recent) number) ≡ content_purged epoch (option_map_or content_of_brick o (newborn sizes recent number))
      by_option None = born_purged sizes recent epoch number
      by_option (Some b) = refl

-- the rows that a query finds, brick by brick
module _ (sizes : List Size) (span : Span) (bits : List Entry → List Bool) where
  abbrev shown : BrickState → List CodedRow
  shown b = filter (span_has_row span) (items_where_true (bits b.entries) b.rows)

  abbrev seen : BrickContent → List CodedRow
  seen c = filter (span_has_row span) (items_where_true (bits c.entries) c.rows)

  abbrev found : List BrickState → List CodedRow
  found bricks = flat_map shown bricks

  shown_of : (shape : CubeShape) (number : ℕ) (b : BrickState) → shape.shape.sizes ≡ sizes → IsBrickOf shape b → OwnsRows b → rows_of_brick sizes number (shown b) ≡ cond (number == b.home.number) (shown b) []
  shown_of shape number b e is own =
      let home : b.home.sizes ≡ sizes = ap (λ (home : Home). home.sizes) is.home ∙ e in
      let P : CodedRow → Type 0 = λ row. brick_of sizes row.coords ≡ b.home.number in
      let all : All P b.rows = All-weaker (IsRowOf b.home) P (λ row i. ap (λ s. brick_of s row.coords) (sym home) ∙ i.coords.of_brick) b.rows own in
      let here = bits b.entries in
      rows_of_run sizes number b.home.number (shown b) (All-filter (span_has_row span) P (items_where_true here b.rows) (kept_all P here b.rows all))

  not_other : (a b : ℕ) → (a == b) ≡ false → (b == a) ≡ false
  not_other a b h = grind (arith, nat_tests)

  is_other : (a b : ℕ) → (a == b) ≡ true → (b == a) ≡ true
  is_other a b h = grind (arith, nat_tests)

  none_found : (shape : CubeShape) (number : ℕ) (bricks : List BrickState) → shape.shape.sizes ≡ sizes → All (IsBrickOf shape) bricks → All OwnsRows bricks → AllByRecursion (λ n. (number == n) ≡ false) (numbers_of_bricks bricks) → rows_of_brick sizes number (found bricks) ≡ []
  none_found shape number [] e all own apart = refl
  none_found shape number (b ∷ bricks) e all own apart =
      filter-append (λ row. brick_of sizes row.coords == number) (shown b) (found bricks)
      ∙ (λ t. (shown_of shape number b e (All-head (IsBrickOf shape) b bricks all) (All-head OwnsRows b bricks own) ∙ ap (λ t. cond t (shown b) []) apart.0) t
      ++ none_found shape number bricks e (All-tail (IsBrickOf shape) b bricks all) (All-tail OwnsRows b bricks own) apart.1 t)

  others_apart : (a number : ℕ) (numbers : List ℕ) → (a == number) ≡ true → AllByRecursion (λ n. nat_eq a n ≡ false) numbers → AllByRecursion (λ n. (number == n) ≡ false) numbers
  others_apart a number [] e h = tt
  others_apart a number (n ∷ numbers) e h =
      let first : (a == n) ≡ false = h.0 in
      (grind (arith, nat_tests), others_apart a number numbers e h.1)

  pub found_in : (shape : CubeShape) (recent : List Deletion) (number : ℕ) (bricks : List BrickState) → shape.shape.sizes ≡ sizes → All (IsBrickOf shape) bricks → All OwnsRows bricks → IsDistinct nat_eq (numbers_of_bricks bricks) → rows_of_brick sizes number (found bricks) ≡ seen (content_among sizes recent bricks number)
  unfolding IsDistinct
  found_in shape recent number [] e all own apart = sym (ap (filter (span_has_row span)) (none_kept (bits (newborn sizes recent number).entries))) where
    none_kept : (bits : List Bool) → let none : List CodedRow = [] in items_where_true bits none ≡ none
    none_kept [] = refl
    none_kept (b ∷ bits) = refl
  found_in shape recent number (b ∷ bricks) e all own apart =
      filter-append (λ row. brick_of sizes row.coords == number) (shown b) (found bricks)
      ∙ ap (λ l. l ++ rows_of_brick sizes number (found bricks)) (shown_of shape number b e (All-head (IsBrickOf shape) b bricks all) (All-head OwnsRows b bricks own))
      ∙ by_test (found_in shape recent number bricks e (All-tail (IsBrickOf shape) b bricks all) (All-tail OwnsRows b bricks own) apart.1) (b.home.number == number) refl where
        by_test : rows_of_brick sizes number (found bricks) ≡ seen (content_among sizes recent bricks number) → (t : Bool) → (b.home.number == number) ≡ t → cond (number == b.home.number) (shown b) [] ++ rows_of_brick sizes number (found bricks) ≡ seen (option_map_or content_of_brick (cond t (Some b) (brick_numbered number bricks)) (newborn sizes recent number))
        by_test again true h =
            (λ t. cond (is_other b.home.number number h t) (shown b) [] ++ none_found shape number bricks e (All-tail (IsBrickOf shape) b bricks all) (All-tail OwnsRows b bricks own) (others_apart b.home.number number (numbers_of_bricks bricks) h apart.0) t)
            ∙ append-nil (shown b)
        by_test again false h =
            ap (λ t. cond t (shown b) [] ++ rows_of_brick sizes number (found bricks)) (not_other b.home.number number h)
            ∙ again
