-- What the flusher copies for its round, and what the round then has.
-- Source: Cubrick (VLDB 2016), shards of bricks and dictionaries; AOSI (ICDE 2018), flush rounds. That rows are copied
-- before cubes and names is this project's own.
use Rattle.std.specs.Prelude.{◌≡◌, ℕ, ◌%◌, ◌<◌, ◌≤◌, Bool, List, [], ◌++◌, length, map, get_or, slice_get, Some, All, Contains, IfSome, MatchBool, if◌then◌else◌}
use Rattle.std.specs.List.{AllByRecursion}
use Rattle.brick_map.specs.Copied.{part_numbered}
use Rattle.cube_values.specs.declared.shape.CubeShape.{CubeShape}
use Rattle.cube_language.specs.declared.decl.Decl.{Decl}
use Rattle.cube_rounds.specs.Bricks.{BrickPart}
use Rattle.cube_rounds.specs.Demands.{AreRising, DimNames}
use Rattle.cube_rounds.specs.declared.round.Round.{Round}
use Rattle.cube_rounds.specs.declared.round.RoundCube.{RoundCube}
use Rattle.core_program.specs.ClientCalls.{desk_entry, names_entry}
use Rattle.core_cells.specs.declared.desk.DeskAnswer.TheVariants as answer
use Rattle.core_cells.specs.declared.desk.DeskCall.TheVariants as call
use Rattle.core_cells.specs.declared.names.NamesAnswer.TheVariants as told
use Rattle.core_cells.specs.declared.names.NamesCall.TheVariants as names
use Rattle.core_serial.specs.Copies.{copies_by}
use Rattle.core_events.specs.Clients.{ClientState}
use Rattle.core_events.specs.Events.{Opening}
use Rattle.core_events.specs.Groups.{JobGroup}
use Rattle.core_program.specs.CoreFits.{CoreEntry}
use Rattle.cube_core.specs.declared.cell.CoreCell.{CoreCell}
use Rattle.flusher_rounds.specs.RoundStates.{HasCopiedCubes, HasCopiedRows, HasRound, IsInRound}
use Rattle.job_groups.specs.AskedEach.{HasMore}
use Rattle.joined_copies.specs.JoinedCopies.{AreJoinedByCube, AreRisingByCube, ShardCopy, copy_of_cube}
use Rattle.linked_shards.specs.declared.cell.CoreShard.{CoreShard}
use Rattle.round_copies.specs.WithinRounds.{HasHistory, KnowsOfFlusher, StaysWithinRound}
use Rattle.round_copies.specs.declared.span.RoundSpan.{RoundSpan}
use Rattle.shard_events.specs.ShardsInRuns.{IsWholePart, view_of_copies}

-- The epoch above which a round copies rows: a whole one copies all.
abbrev pub first_epoch : RoundSpan → ℕ
first_epoch span = if span.whole then 0 else span.from

-- What the flusher has to know of a store: of so many cubes, and of so many names of each dimension, it was told.

abbrev pub count_at : List (List ℕ) → ℕ → ℕ → ℕ
count_at counts cube dim = get_or (get_or counts cube []) dim 0

pub record IsToldOf (cubes : ℕ) (counts : List (List ℕ)) (k : ClientState) : Type 0 where
  pub listed : cubes ≤ k.cubes
  pub names : (cube dim : ℕ) → count_at counts cube dim ≤ k.names cube dim

-- States within the round.

abbrev pub HasOpened : RoundSpan → Opening → ClientState → Type 0
HasOpened span o k = HasRound o span.from span.epoch k

-- However far it has come: the round is open, and no answer is out.
abbrev pub IsWithin : RoundSpan → Opening → ClientState → Type 0
IsWithin span o k = (has_cubes : Bool) × IsInRound span.from span.epoch has_cubes k

-- What a shard copied of each cube: parts by rising numbers, each of them whole.
pub record IsSoundCopy (copy : ShardCopy) : Type 0 where
  pub rising : AreRisingByCube copy
  pub whole : (cube brick : ℕ) → IfSome (part_numbered brick (copy_of_cube cube copy)) IsWholePart

-- What the outcomes of the shards have of each brick, its own shard copied.
abbrev pub HasCopiesOf : List ShardCopy → Opening → JobGroup → Type 0
HasCopiesOf copies o g = (cube brick : ℕ)
    → copies_by o g.answers cube brick ≡ view_of_copies (get_or copies (brick % length copies) []) cube brick

pub record HasRows (span : RoundSpan) (copies : List ShardCopy) (o : Opening) (k : ClientState) : Type 0 where
  pub copied : HasCopiedRows o span.from span.epoch (first_epoch span) k
  pub rows : HasCopiesOf copies o k.group

-- It has the cubes besides, and was told of so many of them and of so many names.
pub record HasCubes (span : RoundSpan) (copies : List ShardCopy) (cubes : ℕ) (counts : List (List ℕ)) (o : Opening)
    (k : ClientState) : Type 0 where
  pub copied : HasCopiedCubes o span.from span.epoch (first_epoch span) k
  pub rows : HasCopiesOf copies o k.group
  pub told : IsToldOf cubes counts k

-- By more calls that copy names the flusher stays within its round, and keeps what it has. A history has the calls.
pub record GoesOnCopying (span : RoundSpan) (client : ℕ) (cells : List (CoreCell CoreShard)) (caller : ℕ)
    (own : List CoreEntry) (new_cells : List (CoreCell CoreShard)) (new_caller : ℕ) (now : List CoreEntry) : Type 0 where
  pub same_cells : new_cells ≡ cells
  pub same_caller : new_caller ≡ caller
  pub more : HasMore own now
  pub within : StaysWithinRound new_cells new_caller client own now
  pub history : HasHistory new_cells new_caller now
  pub keeps : (copies : List ShardCopy) (cubes : ℕ) (counts : List (List ℕ))
      → KnowsOfFlusher cells caller client own (HasCubes span copies cubes counts)
      → KnowsOfFlusher new_cells new_caller client now (HasCubes span copies cubes counts)

-- More calls were made, and they are such.
pub record HasMoreWith (own now : List CoreEntry) (Are : List CoreEntry → Type 0) : Type 0 where
  pub later : List CoreEntry
  pub whole : now ≡ own ++ later
  pub are : Are later

-- What the round has.

-- Cubes with these names and these bricks, each with those at its place.
pub record AreCubesOfRound (dims : List DimNames) (lists : List (List BrickPart)) (cubes : List RoundCube) : Type 0 where
  pub names : map (λ part. part.names) cubes ≡ dims
  pub bricks : map (λ part. part.bricks) cubes ≡ lists

-- The bricks of a cube rise by number, and each part is whole.
pub record AreSoundBricks (bricks : List BrickPart) : Type 0 where
  pub rising : AreRising 0 bricks
  pub whole : AllByRecursion IsWholePart bricks

-- The bricks of each cube are those that the outcomes of the shards have.
abbrev pub bricks_of_round : Round → List (List BrickPart)
bricks_of_round round = map (λ part. part.bricks) round.cubes

-- A round of what the shards copied, with these cubes and names.
pub record IsRoundOfCopies (span : RoundSpan) (copies : List ShardCopy) (made : List Decl) (names : List DimNames) (round : Round)
    : Type 0 where
  pub begins : round.from ≡ first_epoch span
  pub ends : round.epoch ≡ span.epoch
  pub listed : round.made ≡ made
  pub told : map (λ part. part.names) round.cubes ≡ names
  pub joined : AreJoinedByCube copies (bricks_of_round round)
  pub rising : All AreRisingByCube copies → AreRisingByCube (bricks_of_round round)

pub record HasRoundOf (span : RoundSpan) (round : Round) (o : Opening) (k : ClientState) : Type 0 where
  pub copied : HasCopiedCubes o span.from span.epoch (first_epoch span) k
  pub rows : (cube brick : ℕ) → cube < length round.cubes
      → view_of_copies (bricks_of_round round) cube brick ≡ copies_by o k.group.answers cube brick

-- Which dimensions have texts, by cube: those of the store, and then those that were made.
abbrev pub texts_by_cube : List CubeShape → List Decl → List (List Bool)
texts_by_cube shapes made = map (λ shape. shape.texts) shapes ++ map (λ cube. map (λ dim. dim.text) cube.dims) made

module _ (caller : ℕ) (own : List CoreEntry) where
  -- The names of a dimension behind so many: of texts those that the dictionary told, of numbers none.
  abbrev pub AreNamesTold : ℕ → ℕ → ℕ → Bool → List (List ℕ) → Type 0
  AreNamesTold cube dim count text list =
      MatchBool text (Contains own (names_entry caller (names.CopyFrom cube dim count) (told.Copied list))) (list ≡ [])

  -- Those of each dimension of a cube.
  pub record HasNamesTold (cube : ℕ) (counts : List ℕ) (texts : List Bool) (lists : DimNames) : Type 0 where
    pub dims : length lists ≡ length texts
    pub each : (dim : ℕ) (text : Bool) (list : List (List ℕ)) → slice_get texts dim ≡ Some text
        → slice_get lists dim ≡ Some list → AreNamesTold cube dim (get_or counts dim 0) text list

  -- Those of each cube.
  pub record HaveNamesTold (counts : List (List ℕ)) (texts : List (List Bool)) (lists : List DimNames) : Type 0 where
    pub cubes : length lists ≡ length texts
    pub each : (cube : ℕ) (flags : List Bool) (dims : DimNames) → slice_get texts cube ≡ Some flags
        → slice_get lists cube ≡ Some dims → HasNamesTold cube (get_or counts cube []) flags dims

-- A round of what the flusher copied, over the cubes and names of a store, by calls behind those before. By the earlier
-- of its calls each shard had answered its copy, and by later ones it was told of the cubes and names.
pub record IsCopiedRound (cells : List (CoreCell CoreShard)) (caller client : ℕ) (before own : List CoreEntry)
    (span : RoundSpan) (shapes : List CubeShape) (counts : List (List ℕ)) (round : Round) : Type 0 where
  pub begins : round.from ≡ first_epoch span
  pub ends : round.epoch ≡ span.epoch
  pub knows : KnowsOfFlusher cells caller client own (HasRoundOf span round)
  pub bricks : (cube : ℕ) (part : RoundCube) → slice_get round.cubes cube ≡ Some part → AreSoundBricks part.bricks
  pub earlier : List CoreEntry
  pub behind : HasMore before earlier
  pub later : List CoreEntry
  pub whole : own ≡ earlier ++ later
  pub copies : List ShardCopy
  pub rows : KnowsOfFlusher cells caller client earlier (HasRows span copies)
  pub joined : AreJoinedByCube copies (bricks_of_round round)
  pub made : Contains later (desk_entry caller (call.CubesFrom (length shapes)) (answer.Cubes round.made))
  pub names : HaveNamesTold caller later counts (texts_by_cube shapes round.made) (map (λ part. part.names) round.cubes)
