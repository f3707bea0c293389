-- A shard that takes the kept rows of one cube after the other.
use Rattle.std.proofs.Common.{◌≡◌, ◌≢◌, ◌∙◌, ℕ, zero, suc, ◌+◌, ◌%◌, ◌<◌, ◌≤◌, ◌^◌, ◌==◌, ◌&&◌, nat_lt, Bool, true, false, List, length, filter, replicate, slice_get, slice_index_or, Option, Some, None, Err, inl, inr, ◌⊎◌, refl, sym, ap, subst, arith, eqb-true, lt-ltb, le-ltb, if◌then◌else◌}
use Rattle.std.proofs.lemmas.Bool.{eqb-false}
use Rattle.std.proofs.lemmas.List.Sums.{sum_by-append}
use Rattle.std.specs.List.{range_with_len, sum_by}
use Rattle.std.specs.Option.{option_map_or}
use Rattle.cube_values.specs.declared.call_error.CallError.{CallError}
use Rattle.cube_values.specs.declared.call_error.CallError.TheVariants.{Fault, NoMemory}
use Rattle.cube_values.specs.Faults.{IfFault}
use Rattle.cube_values.specs.declared.row.CodedRow.{CodedRow}
use Rattle.cube_values.specs.declared.shape.CubeShape.{CubeShape}
use Rattle.cube_values.specs.Batches.{Batch}
use Rattle.cube_language.specs.declared.decl.Decl.{Decl}
use Rattle.cube_language.specs.declared.decl.TheConstants.{MOST_CUBES}
use Rattle.cube_language.specs.Cubes.{sizes_of}
use Rattle.cube_schema.specs.Schemas.{cube_of}
use Rattle.cube_rounds.specs.declared.round.Round.{Round}
use Rattle.cube_rounds.specs.Stands.{Kept}
use Rattle.brick_address.specs.Addresses.{brick_of}
use Rattle.brick_map.specs.Births.{BrickContent, CubeState, content_with_rows, rows_of_brick}
use Rattle.core_events.proofs.Counts.{in-order}
use Rattle.core_events.specs.ShardView.{rows_where}
use Rattle.kept_batches.specs.KeptBatches.{IsKeptBatch, LiesInShard}
use Rattle.linked_shards.specs.declared.cell.CoreShard.{CoreShard}
use Rattle.shard_cell.specs.declared.full.ShardFull.{ShardFull}
use Rattle.shard_cell.specs.Answers.{RefusesAbove, brick_after_append}
use Rattle.shard_cell.specs.Shards.{ShardState, KeepsShapesWith, cube_at, shard_brick, shard_rows}
use Rattle.shard_cell.specs.Slots.{HasShape, slot_brick, slot_rows, untouched}
use Rattle.shard_views.proofs.Alike.{where_none}
use Rattle.shard_views.proofs.Items.{range_append}
use Rattle.opened_core.proofs.KeptFacts.{KeptLaws, brick-where, past-kept}
use Rattle.opened_core.proofs.RowsByBrick.{all-of, none-at, as-long}
use Rattle.opened_core.specs.KeptShards.{HoldsKept, IsErrorOfShard, IsTooFull, KnowsShapesOf, kept_count, kept_in_brick, kept_in_shard}
use Rattle.opened_core.specs.Openings.{no_shape}
use Rattle.opened_core.specs.declared.full.FullShard.{FullShard}

-- A shard has the rows of the first cubes, so many.
pub record HoldsFirst (kept : Kept) (shards number count : ℕ) (shard : ShardState) : Type 0 where
  pub limit : shard.limit ≡ 2 ^ 40
  pub rows : shard_rows shard ≡ kept_count kept shards number count
  pub few : kept_count kept shards number count ≤ 2 ^ 40
  pub bricks : (place brick : ℕ) → shard_brick shard place brick
      ≡ content_with_rows kept.epoch (rows_where (nat_lt place count && (brick % shards == number)) (kept_in_brick kept place brick)) untouched
  pub shapes : KnowsShapesOf kept.cubes shard

pub index-same : {X : Type 0} (x : X) (n i : ℕ) → slice_index_or (replicate n x) i x ≡ x
index-same x zero i = refl
index-same x (suc n) zero = refl
index-same x (suc n) (suc i) = index-same x n i

none-rows : (n : ℕ) → sum_by slot_rows (replicate n None) ≡ 0
none-rows zero = refl
none-rows (suc n) = none-rows n

none-has : (shape : CubeShape) (slot : Option CubeState) → slot ≡ None → HasShape shape slot
none-has shape slot is = subst (λ (s : Option CubeState). HasShape shape s) (sym is) tt

-- A new shard has none.
pub none-first : (kept : Kept) (shards number : ℕ) (shard : ShardState)
    → shard ≡ record { cubes = replicate MOST_CUBES None; limit = 2 ^ 40 } → HoldsFirst kept shards number 0 shard
none-first kept shards number shard is = record {
  limit = ap (λ (s : ShardState). s.limit) is;
  rows = ap shard_rows is ∙ none-rows MOST_CUBES;
  few = omega arith;
  bricks = λ place brick.
      ap (λ (s : ShardState). shard_brick s place brick) is
      ∙ ap (λ (slot : Option CubeState). slot_brick slot brick) (index-same None MOST_CUBES place)
      ∙ ap (λ (b : Bool). content_with_rows kept.epoch (rows_where (b && (brick % shards == number)) (kept_in_brick kept place brick)) untouched)
      (sym (le-ltb place 0 (omega arith)));
  shapes = λ shapes are cube. none-has (shapes cube) (cube_at shard cube)
      (ap (λ (s : ShardState). cube_at s cube) is ∙ index-same None MOST_CUBES cube);
}

-- It knows no other shape of a kept cube.
pub known-shape : (cubes : List Decl) (shard : ShardState) (place : ℕ) (cube : Decl) → KnowsShapesOf cubes shard
    → slice_get cubes place ≡ Some cube → HasShape (cube_of cube) (cube_at shard place)
known-shape cubes shard place cube known is =
    let shapes : ℕ → CubeShape = λ p. option_map_or cube_of (slice_get cubes p) no_shape in
    let of : (p : ℕ) (c : Decl) → slice_get cubes p ≡ Some c → shapes p ≡ cube_of c = λ p c i. ap (λ (d : Option Decl). option_map_or cube_of d no_shape) i in
    subst (λ (shape : CubeShape). HasShape shape (cube_at shard place)) (of place cube is) (known shapes of place)

none-plus : (m : ℕ) → 0 + m ≡ m
none-plus m = omega arith

next-below : (other place : ℕ) → other ≢ place → nat_lt other (place + 1) ≡ nat_lt other place
next-below other place apart = at (in-order other place)
  where
    at : (other < place) ⊎ ((other ≡ place) ⊎ (place < other)) → nat_lt other (place + 1) ≡ nat_lt other place
    at (inl low) = lt-ltb other (place + 1) (omega (arith, low)) ∙ sym (lt-ltb other place low)
    at (inr (inl same)) = absurd (apart same)
    at (inr (inr high)) = le-ltb other (place + 1) (omega (arith, high)) ∙ sym (le-ltb other place (omega (arith, high)))

module _ (kept : Kept) (laws : KeptLaws kept) (shards number place : ℕ) (cube : Decl) (is : slice_get kept.cubes place ≡ Some cube)
    (batch : Batch) (fits : IsKeptBatch (cube_of cube) place kept.epoch kept.rounds shards number batch) where
  abbrev key : CodedRow → ℕ
  key row = brick_of (sizes_of cube.dims) row.coords

  -- The batch has of each brick of the shard the kept rows, and of no other.
  batch-at : (brick : ℕ) → filter (λ row. key row == brick) batch.rows ≡ rows_where (brick % shards == number) (kept_in_brick kept place brick)
  batch-at brick = at (brick % shards == number) refl
    where
      at : (b : Bool) → (brick % shards == number) ≡ b → filter (λ row. key row == brick) batch.rows ≡ rows_where b (kept_in_brick kept place brick)
      at true own = fits.rows brick (eqb-true (brick % shards) number own)
      at false other =
          none-at key brick batch.rows
          (all-of (LiesInShard (cube_of cube) shards number) (λ (row : CodedRow). key row ≢ brick)
          (λ row lies same. eqb-false (brick % shards) number other (ap (λ (b : ℕ). b % shards) (sym same) ∙ lies.of_shard)) batch.rows fits.of_cube)

  batch-long : length batch.rows ≡ length (kept_in_shard kept shards number place)
  batch-long =
      as-long key batch.rows (kept_in_shard kept shards number place)
      (λ k. batch-at k ∙ sym (brick-where kept laws place cube is (λ b. b % shards == number) k))

  count-next : kept_count kept shards number (place + 1) ≡ kept_count kept shards number place + length batch.rows
  count-next =
      let count = λ (p : ℕ). length (kept_in_shard kept shards number p) in
      let split : kept_count kept shards number (place + 1) ≡ kept_count kept shards number place + sum_by count (range_with_len (0 + place) 1) =
      ap (sum_by count) (range_append 0 place 1) ∙ sum_by-append count (range_with_len 0 place) (range_with_len (0 + place) 1)
      in
      let last : sum_by count (range_with_len (0 + place) 1) ≡ 0 + count place = ap (λ (p : ℕ). 0 + count p) (none-plus place) in
      let long = batch-long in
      omega (arith, split, last, long)

  -- It takes the batch.
  pub next-first : (old new : ShardState) → HoldsFirst kept shards number place old
      → ((other brick : ℕ) → shard_brick new other brick ≡ brick_after_append (sizes_of cube.dims) place kept.epoch batch.rows old other brick)
      → shard_rows old + length batch.rows ≤ old.limit → shard_rows new ≡ shard_rows old + length batch.rows
      → KeepsShapesWith place (cube_of cube) old new → new.limit ≡ old.limit → HoldsFirst kept shards number (place + 1) new
  next-first old new holds bricks within rows keeps limit = record {
    limit = limit ∙ holds.limit;
    rows = let before = holds.rows in let next = count-next in omega (arith, rows, before, next);
    few = let before = holds.rows in let next = count-next in let most = holds.limit in omega (arith, within, before, next, most);
    bricks = λ other brick. bricks other brick ∙ at other brick (other == place) refl;
    shapes = λ shapes are. keeps shapes (are place cube is) (holds.shapes shapes are);
  } where
    had : (other brick : ℕ) (b : Bool) → nat_lt other place ≡ b → shard_brick old other brick
        ≡ content_with_rows kept.epoch (rows_where (b && (brick % shards == number)) (kept_in_brick kept other brick)) untouched
    had other brick b low =
        holds.bricks other brick
        ∙ ap (λ (t : Bool). content_with_rows kept.epoch (rows_where (t && (brick % shards == number)) (kept_in_brick kept other brick)) untouched) low

    at : (other brick : ℕ) (b : Bool) → (other == place) ≡ b
        → (if b then content_with_rows kept.epoch (rows_of_brick (sizes_of cube.dims) brick batch.rows) (shard_brick old other brick) else shard_brick old other brick)
        ≡ content_with_rows kept.epoch (rows_where (nat_lt other (place + 1) && (brick % shards == number)) (kept_in_brick kept other brick)) untouched
    at other brick true same =
        let here : other ≡ place = eqb-true other place same in
        ap (λ (c : BrickContent). content_with_rows kept.epoch (rows_of_brick (sizes_of cube.dims) brick batch.rows) c)
        (had other brick false (le-ltb other place (omega (arith, here))))
        ∙ ap (λ (l : List CodedRow). content_with_rows kept.epoch l untouched) (batch-at brick)
        ∙ ap (λ (p : ℕ). content_with_rows kept.epoch (rows_where (brick % shards == number) (kept_in_brick kept p brick)) untouched) (sym here)
        ∙ ap (λ (t : Bool). content_with_rows kept.epoch (rows_where (t && (brick % shards == number)) (kept_in_brick kept other brick)) untouched)
        (sym (lt-ltb other (place + 1) (omega (arith, here))))
    at other brick false apart =
        holds.bricks other brick
        ∙ ap (λ (t : Bool). content_with_rows kept.epoch (rows_where (t && (brick % shards == number)) (kept_in_brick kept other brick)) untouched)
        (sym (next-below other place (eqb-false other place apart)))

  -- Or it does not.
  pub too-full : (old : ShardState) (full : FullShard) → HoldsFirst kept shards number place old → number < shards → place < length kept.cubes
      → full.shard ≡ number → old.limit < shard_rows old + length batch.rows → full.rows ≡ shard_rows old → IsTooFull kept shards full
  too-full old full holds there of-cube own above has = record {
    there = subst (λ (n : ℕ). n < shards) (sym own) there;
    place = place;
    of_cube = of-cube;
    has = has ∙ holds.rows ∙ ap (λ (n : ℕ). kept_count kept shards n place) (sym own);
    above = subst (λ (n : ℕ). 2 ^ 40 < kept_count kept shards n (place + 1)) (sym own)
        (let before = holds.rows in let next = count-next in let most = holds.limit in omega (arith, above, before, next, most));
  }

-- A batch that was made of the same.
pub as-kept : (kept : Kept) (shards number place : ℕ) (cube : Decl) (shape : CubeShape) (epoch : ℕ) (rounds : List Round) (batch : Batch)
    → shape ≡ cube_of cube → epoch ≡ kept.epoch → rounds ≡ kept.rounds → IsKeptBatch shape place epoch rounds shards number batch
    → IsKeptBatch (cube_of cube) place kept.epoch kept.rounds shards number batch
as-kept kept shards number place cube shape epoch rounds batch one two three fits =
    coe 0 1 (i. IsKeptBatch (one i) place (two i) (three i) shards number batch) fits

-- The refusal of the shard.
pub refused : (T : Type 0) (kept : Kept) (shards number rows more limit : ℕ) (error : CallError ShardFull) (given : CallError FullShard)
    → RefusesAbove {T = T} limit rows more (Err error) → IsErrorOfShard number error given
    → ((full : FullShard) → full.shard ≡ number → limit < rows + more → full.rows ≡ rows → IsTooFull kept shards full)
    → IfFault {T = CoreShard} (Err given) (IsTooFull kept shards)
refused T kept shards number rows more limit (Fault full) given refuses is full-so =
    subst (λ (e : CallError FullShard). IfFault {T = CoreShard} (Err e) (IsTooFull kept shards)) (sym is)
    (full-so (record { shard = number; rows = full.rows }) refl refuses.0 refuses.1)
refused T kept shards number rows more limit NoMemory given refuses is full-so =
    subst (λ (e : CallError FullShard). IfFault {T = CoreShard} (Err e) (IsTooFull kept shards)) (sym is) tt

-- At the end it has all.
pub all-first : (kept : Kept) (laws : KeptLaws kept) (shards number count : ℕ) (shard : ShardState) → HoldsFirst kept shards number count shard
    → length kept.cubes ≤ count → HoldsKept kept shards number shard
all-first kept laws shards number count shard holds past = record {
  limit = holds.limit;
  bricks = λ place brick. holds.bricks place brick
      ∙ ap (λ (rows : List CodedRow). content_with_rows kept.epoch rows untouched) (at place brick (in-order place count));
  shapes = holds.shapes;
} where
  none : (place brick : ℕ) → length kept.cubes ≤ place
      → rows_where (nat_lt place count && (brick % shards == number)) (kept_in_brick kept place brick)
      ≡ rows_where (brick % shards == number) (kept_in_brick kept place brick)
  none place brick le =
      ap (λ (rows : List CodedRow). rows_where (nat_lt place count && (brick % shards == number)) rows) (past-kept kept laws place brick le)
      ∙ where_none (nat_lt place count && (brick % shards == number)) ∙ sym (where_none (brick % shards == number))
      ∙ ap (λ (rows : List CodedRow). rows_where (brick % shards == number) rows) (sym (past-kept kept laws place brick le))

  at : (place brick : ℕ) → (place < count) ⊎ ((place ≡ count) ⊎ (count < place))
      → rows_where (nat_lt place count && (brick % shards == number)) (kept_in_brick kept place brick)
      ≡ rows_where (brick % shards == number) (kept_in_brick kept place brick)
  at place brick (inl low) =
      ap (λ (t : Bool). rows_where (t && (brick % shards == number)) (kept_in_brick kept place brick)) (lt-ltb place count low)
  at place brick (inr (inl same)) = none place brick (omega (arith, past, same))
  at place brick (inr (inr high)) = none place brick (omega (arith, past, high))
