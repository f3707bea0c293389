-- The rows that a store keeps, by cube, brick and shard, and a shard that holds its own.
-- Source: Cubrick (VLDB 2016), shards of bricks; AOSI (ICDE 2018), recovery from flush rounds.
use Rattle.std.specs.Prelude.{◌≡◌, ℕ, ◌+◌, ◌%◌, ◌<◌, ◌≤◌, ◌^◌, ◌==◌, Bool, true, List, [], length, slice_get, Some}
use Rattle.std.specs.List.{flat_map, range_with_len, sum_by}
use Rattle.std.specs.Option.{option_map_or}
use Rattle.cube_values.specs.declared.call_error.CallError.{CallError}
use Rattle.cube_values.specs.declared.call_error.CallError.TheVariants.{Fault, NoMemory}
use Rattle.cube_values.specs.declared.row.CodedRow.{CodedRow}
use Rattle.cube_values.specs.declared.shape.CubeShape.{CubeShape}
use Rattle.cube_values.specs.Shapes.{bricks_of}
use Rattle.cube_language.specs.declared.decl.Decl.{Decl}
use Rattle.cube_language.specs.Cubes.{sizes_of}
use Rattle.cube_schema.specs.Schemas.{cube_of}
use Rattle.cube_rounds.specs.KeptRows.{kept_rows_of_brick}
use Rattle.cube_rounds.specs.Stands.{Kept}
use Rattle.brick_map.specs.Births.{content_with_rows}
use Rattle.core_events.specs.ShardView.{rows_where}
use Rattle.shard_cell.specs.declared.full.ShardFull.{ShardFull}
use Rattle.shard_cell.specs.Answers.{reader_at}
use Rattle.shard_cell.specs.Shards.{ShardState, HasShapes, shard_brick}
use Rattle.shard_cell.specs.Slots.{untouched}
use Rattle.opened_core.specs.declared.full.FullShard.{FullShard}

-- Those of a brick: what a reader at the last round sees.
abbrev pub kept_in_brick : Kept → ℕ → ℕ → List CodedRow
kept_in_brick kept place brick = kept_rows_of_brick (reader_at kept.epoch) place brick kept.rounds

-- Those of a cube's bricks that pass a test, brick by brick.
abbrev pub kept_where : (ℕ → Bool) → Kept → ℕ → List CodedRow
kept_where test kept place =
    option_map_or (λ cube. flat_map (λ brick. rows_where (test brick) (kept_in_brick kept place brick))
    (range_with_len 0 (bricks_of (sizes_of cube.dims)))) (slice_get kept.cubes place) []

-- Those of all bricks, and those of a shard's.
abbrev pub kept_in_cube : Kept → ℕ → List CodedRow
kept_in_cube kept place = kept_where (λ brick. true) kept place

abbrev pub kept_in_shard : Kept → ℕ → ℕ → ℕ → List CodedRow
kept_in_shard kept shards shard place = kept_where (λ brick. brick % shards == shard) kept place

-- How many rows a shard keeps of the first cubes, so many.
abbrev pub kept_count : Kept → ℕ → ℕ → ℕ → ℕ
kept_count kept shards shard cubes =
    sum_by (λ place. length (kept_in_shard kept shards shard place)) (range_with_len 0 cubes)

-- Where cubes have these shapes, a shard knows no other of them.
abbrev pub KnowsShapesOf : List Decl → ShardState → Type 0
KnowsShapesOf cubes shard = (shapes : ℕ → CubeShape)
    → ((place : ℕ) (cube : Decl) → slice_get cubes place ≡ Some cube → shapes place ≡ cube_of cube)
    → HasShapes shapes shard

-- A shard has in each of its bricks the kept rows, as rows of the kept epoch, and in no brick anything else.
pub record HoldsKept (kept : Kept) (shards number : ℕ) (shard : ShardState) : Type 0 where
  pub limit : shard.limit ≡ 2 ^ 40
  pub bricks : (place brick : ℕ) → shard_brick shard place brick
      ≡ content_with_rows kept.epoch (rows_where (brick % shards == number) (kept_in_brick kept place brick))
      untouched
  pub shapes : KnowsShapesOf kept.cubes shard

-- Each shard takes what is kept of its bricks.
abbrev pub TakeAllKept : Kept → ℕ → Type 0
TakeAllKept kept shards = (shard : ℕ) → shard < shards → kept_count kept shards shard (length kept.cubes) ≤ 2 ^ 40

-- A shard has the rows of some cubes, and with those of the next it would have too many.
pub record IsTooFull (kept : Kept) (shards : ℕ) (full : FullShard) : Type 0 where
  pub there : full.shard < shards
  pub place : ℕ
  pub of_cube : place < length kept.cubes
  pub has : full.rows ≡ kept_count kept shards full.shard place
  pub above : 2 ^ 40 < kept_count kept shards full.shard (place + 1)

-- The refusal of a shard, as that of the shard of a number.
abbrev pub IsErrorOfShard : ℕ → CallError ShardFull → CallError FullShard → Type 0
IsErrorOfShard number (Fault full) error = error ≡ Fault (record { shard = number; rows = full.rows })
IsErrorOfShard number NoMemory error = error ≡ NoMemory
