-- The rows for a set of bricks, and what of them is of one brick.
use Rattle.std.proofs.Common.{◌≡◌, ℕ, suc, ◌%◌, ◌&&◌, ◌||◌, ◌==◌, Bool, true, false, nat_lt, List, [], ◌∷◌, ◌++◌, length, if◌then◌else◌, filter, refl, sym, ap, subst, ◌∙◌, inl, inr, arith}
use Rattle.std.specs.BTreeMap.{BTreeMap, is_at}
use Rattle.std.specs.List.{flat_map, list_any, AllByRecursion}
use Rattle.std.specs.Map.{lookup}
use Rattle.std.specs.Option.{unwrap_or}
use Rattle.std.specs.Ordering.{nat_cmp}
use Rattle.std.proofs.lemmas.Bool.{cases_Bool, cond-true, cond-false, eqb-true, eq-eqb}
use Rattle.std.proofs.lemmas.Bool.Decides.{nat_tests}
use Rattle.std.proofs.lemmas.List.Elements.{filter-append}
use Rattle.cube_values.specs.declared.row.CodedRow.{CodedRow}
use Rattle.cube_values.specs.declared.shape.CubeShape.{CubeShape}
use Rattle.cube_values.specs.declared.shape.Size.{Size}
use Rattle.cube_values.specs.declared.snapshot.Snapshot.{Snapshot}
use Rattle.cube_values.specs.Batches.{Batch, HasWidths}
use Rattle.cube_values.specs.EpochsVector.{is_hidden_by}
use Rattle.brick_address.specs.Addresses.{AreCoords, brick_of}
use Rattle.cube_rounds.specs.declared.round.Round.{Round}
use Rattle.cube_rounds.specs.Bricks.{BrickPart}
use Rattle.cube_rounds.specs.KeptRows.{entries_joined, rows_joined, rows_seen}
use Rattle.epochs_vector.specs.declared.limit.Limit.{Limit}
use Rattle.epochs_vector.specs.Limits.{is_below}
use Rattle.kept_batches.specs.declared.brick_set.BrickSet.{BrickSet}
use Rattle.kept_batches.specs.KeptBatches.{IsKeptBatch, LiesInShard, reader_at}
use Rattle.kept_batches.specs.RoundsFit.{LiesInBrick, RoundsFit, parts_of_rounds}
use Rattle.kept_batches.specs.Unhidden.{HaveWidths, HideMore, entries_of_brick, limit_in, rows_for_bricks, unhidden_rows}
use Rattle.kept_batches.proofs.Alls.{all_flat, all_if, all_of, filter_all, filter_none}
use Rattle.kept_batches.proofs.Chains.{of_brick, parts_among, parts_fit, rounds_chained}
use Rattle.kept_batches.proofs.Joined.{joined_seen}
use Rattle.kept_batches.proofs.Runs.{all_runs}

abbrev kept_of_parts : Snapshot → List BrickPart → List CodedRow
kept_of_parts s parts = rows_seen s (entries_joined 0 parts) 0 (rows_joined parts)

-- The rows of a part lie in its brick.
abbrev pub LieInOwnBrick : CubeShape → BrickPart → Type 0
LieInOwnBrick shape part = AllByRecursion (LiesInBrick shape part.brick) part.rows

-- coordinates are as many as sizes
coords_long : (sizes : List Size) (coords : List ℕ) → AreCoords sizes coords → length coords ≡ length sizes
coords_long [] [] are = refl
coords_long [] (coord ∷ coords) are = absurd are
coords_long (size ∷ sizes) [] are = absurd are
coords_long (size ∷ sizes) (coord ∷ coords) are = ap suc (coords_long sizes coords are.1)

-- A batch without rows, for the cube.
pub record IsBegun (shape : CubeShape) (batch : Batch) : Type 0 where
  pub rows : batch.rows ≡ []
  pub dims : batch.dims ≡ length shape.shape.sizes
  pub width : batch.width ≡ shape.metrics

pub begins : (shape : CubeShape) (dims room : ℕ) (made batch : Batch)
    → made ≡ record { rows = []; dims = dims; width = shape.metrics; room = 0 } → batch ≡ record made { room = room }
    → dims ≡ length shape.shape.sizes → IsBegun shape batch
begins shape dims room made batch is grown long = record {
  rows = (λ k. (grown k).rows) ∙ λ k. (is k).rows;
  dims = (λ k. (grown k).dims) ∙ (λ k. (is k).dims) ∙ long;
  width = (λ k. (grown k).width) ∙ λ k. (is k).width;
}

pub have_widths : (shape : CubeShape) (place from : ℕ) (rounds : List Round) (batch : Batch)
    → RoundsFit shape place from rounds → IsBegun shape batch
    → HaveWidths batch.dims batch.width (parts_of_rounds place rounds)
have_widths shape place from rounds batch fit begun =
    parts_fit shape place from (λ part. AllByRecursion (HasWidths batch.dims batch.width) part.rows)
    (λ low epoch part is. all_of (LiesInBrick shape part.brick) (HasWidths batch.dims batch.width)
    (λ row lies. record {
      coords = coords_long shape.shape.sizes row.coords lies.coords.of_cube ∙ sym begun.dims;
      metrics = lies.metrics ∙ sym begun.width;
    }) part.rows is.rows)
    rounds fit

-- What holds of the rows of a part holds of those for the bricks.
all_for_bricks : (P : CodedRow → Type 0) (s : Snapshot) (bricks : BrickSet) (limits : BTreeMap ℕ Limit)
    (part : BrickPart)
    → ((part.brick % bricks.shards == bricks.shard) ≡ true → AllByRecursion P part.rows)
    → AllByRecursion P (rows_for_bricks s bricks limits part)
all_for_bricks P s bricks limits part all =
    let limit = limit_in limits part.brick in
    all_if P (part.brick % bricks.shards == bricks.shard) (unhidden_rows s limit part) []
    (λ has. all_runs P s limit part.rows 0 part.entries (all has)) (λ e. tt)

abbrev lies_at : CubeShape → ℕ → CodedRow → Bool
lies_at shape number row = brick_of shape.shape.sizes row.coords == number

-- Of a part's rows for the bricks those of one of them.
part_filtered : (s : Snapshot) (shape : CubeShape) (bricks : BrickSet) (limits : BTreeMap ℕ Limit) (number : ℕ)
    (part : BrickPart) → number % bricks.shards ≡ bricks.shard → LieInOwnBrick shape part
    → filter (lies_at shape number) (rows_for_bricks s bricks limits part)
    ≡ (if part.brick == number then unhidden_rows s (limit_in limits number) part else [])
part_filtered s shape bricks limits number part own lie =
    let P : CodedRow → Type 0 = LiesInBrick shape part.brick in
    let U : List CodedRow = unhidden_rows s (limit_in limits number) part in
    elim (cases_Bool (part.brick == number)) [
      | inl yes' ↦
          let same : part.brick ≡ number = eqb-true part.brick number yes' in
          let has : (part.brick % bricks.shards == bricks.shard) ≡ true =
          eq-eqb (part.brick % bricks.shards) bricks.shard ((λ k. same k % bricks.shards) ∙ own) in
          let lies : (row : CodedRow) → P row → lies_at shape number row ≡ true =
          λ row l. eq-eqb (brick_of shape.shape.sizes row.coords) number (l.coords.of_brick ∙ same) in
          let rows : List CodedRow = unhidden_rows s (limit_in limits part.brick) part in
          (λ k. filter (lies_at shape number) (cond-true (part.brick % bricks.shards == bricks.shard) rows [] has k))
          ∙ (λ k. filter (lies_at shape number) (unhidden_rows s (limit_in limits (same k)) part))
          ∙ filter_all P (lies_at shape number) lies U
          (all_runs P s (limit_in limits number) part.rows 0 part.entries lie)
          ∙ sym (cond-true (part.brick == number) U [] yes')
      | inr no' ↦
          filter_none P (lies_at shape number) (λ row lies. (λ k. lies.coords.of_brick k == number) ∙ no')
          (rows_for_bricks s bricks limits part) (all_for_bricks P s bricks limits part (λ has. lie))
          ∙ sym (cond-false (part.brick == number) U [] no')
    ]

flat_if : (f : BrickPart → List CodedRow) (part : BrickPart) (parts : List BrickPart) (t : Bool)
    → (if t then f part else []) ++ flat_map f parts ≡ flat_map f (if t then part ∷ parts else parts)
flat_if f part parts true = refl
flat_if f part parts false = refl

parts_filtered : (s : Snapshot) (shape : CubeShape) (bricks : BrickSet) (limits : BTreeMap ℕ Limit) (number : ℕ)
    (parts : List BrickPart) → number % bricks.shards ≡ bricks.shard
    → AllByRecursion (LieInOwnBrick shape) parts
    → filter (lies_at shape number) (flat_map (rows_for_bricks s bricks limits) parts)
    ≡ flat_map (unhidden_rows s (limit_in limits number)) (of_brick number parts)
parts_filtered s shape bricks limits number [] own lie = refl
parts_filtered s shape bricks limits number (part ∷ parts) own lie =
    let here = part_filtered s shape bricks limits number part own lie.0 in
    let rest = parts_filtered s shape bricks limits number parts own lie.1 in
    let f = rows_for_bricks s bricks limits in
    filter-append (lies_at shape number) (f part) (flat_map f parts)
    ∙ (λ k. here k ++ rest k)
    ∙ flat_if (unhidden_rows s (limit_in limits number)) part (of_brick number parts) (part.brick == number)

-- Each row for the bricks is of their cube and shard.
all_in_shard : (s : Snapshot) (shape : CubeShape) (bricks : BrickSet) (limits : BTreeMap ℕ Limit)
    (parts : List BrickPart) → AllByRecursion (LieInOwnBrick shape) parts
    → AllByRecursion (LiesInShard shape bricks.shards bricks.shard) (flat_map (rows_for_bricks s bricks limits) parts)
all_in_shard s shape bricks limits parts lie =
    let Q : CodedRow → Type 0 = LiesInShard shape bricks.shards bricks.shard in
    all_flat (LieInOwnBrick shape) Q (rows_for_bricks s bricks limits)
    (λ part own. all_for_bricks Q s bricks limits part (λ has.
    all_of (LiesInBrick shape part.brick) Q (λ row l. record {
      coords = l.coords.of_cube;
      metrics = l.metrics;
      of_shard = (λ k. l.coords.of_brick k % bricks.shards) ∙ eqb-true (part.brick % bricks.shards) bricks.shard has;
    }) part.rows own))
    parts lie

-- Where there are no limits nothing is below one.
none_hidden : (empty : BTreeMap ℕ Limit) (number j i : ℕ) → empty.entries ≡ []
    → is_below (limit_in empty number) j i ≡ false
none_hidden empty number j i none =
    let zero' : Limit = record { epoch = 0; row = 0 } in
    let there : limit_in empty number ≡ zero' = λ k. unwrap_or (lookup (is_at (nat_cmp number)) (none k)) zero' in
    let a : nat_lt j 0 ≡ false = grind (arith, nat_tests) in
    let b : nat_lt i 0 ≡ false = grind (arith, nat_tests) in
    (λ k. is_below (there k) j i) ∙ (λ k. a k || (j == 0 && b k)) ∙ neither (j == 0)
  where
    neither : (t : Bool) → (t && false) ≡ false
    neither true = refl
    neither false = refl

-- A batch of the rows for the bricks is the kept one.
pub batch_is_kept : (s : Snapshot) (shape : CubeShape) (bricks : BrickSet) (epoch : ℕ) (rounds : List Round)
    (empty limits : BTreeMap ℕ Limit) (begun batch : Batch)
    → s ≡ reader_at epoch → RoundsFit shape bricks.place 0 rounds → empty.entries ≡ []
    → HideMore s bricks (parts_of_rounds bricks.place rounds) empty limits → IsBegun shape begun
    → batch.rows ≡ begun.rows ++ flat_map (rows_for_bricks s bricks limits) (parts_of_rounds bricks.place rounds)
    → batch.dims ≡ begun.dims → batch.width ≡ begun.width
    → IsKeptBatch shape bricks.place epoch rounds bricks.shards bricks.shard batch
batch_is_kept s shape bricks epoch rounds empty limits begun batch reader fit none hide b put dims width =
    let parts = parts_of_rounds bricks.place rounds in
    let rows : batch.rows ≡ flat_map (rows_for_bricks s bricks limits) parts =
    put ∙ λ k. b.rows k ++ flat_map (rows_for_bricks s bricks limits) parts in
    let lie : AllByRecursion (LieInOwnBrick shape) parts =
    parts_fit shape bricks.place 0 (LieInOwnBrick shape) (λ low up part is. is.rows) rounds fit in
    record {
      rows = λ number own.
          let entries = entries_of_brick number parts in
          let below : (j i : ℕ) → is_below (limit_in limits number) j i ≡ list_any (is_hidden_by s j i) entries =
          λ j i. hide.each number j i own
          ∙ λ k. none_hidden empty number j i none k || list_any (is_hidden_by s j i) entries in
          let chain = rounds_chained shape bricks.place number 0 rounds fit in
          (λ k. filter (lies_at shape number) (rows k))
          ∙ parts_filtered s shape bricks limits number parts own lie
          ∙ sym (joined_seen s (limit_in limits number) (of_brick number parts) chain below)
          ∙ λ k. kept_of_parts (reader k) (sym (parts_among bricks.place number rounds) k);
      of_cube = subst (AllByRecursion (LiesInShard shape bricks.shards bricks.shard)) (sym rows)
          (all_in_shard s shape bricks limits parts lie);
      dims = dims ∙ b.dims;
      width = width ∙ b.width;
    }
