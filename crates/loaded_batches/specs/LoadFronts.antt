-- How far a LOAD has come with the records of its file: what it took, and what of it is with the shards.
-- Source: Cubrick (VLDB 2016), dictionary encoding of text dimensions; that rows come in batches is this project's own.
use Rattle.std.specs.Prelude.{◌≡◌, ℕ, ◌+◌, ◌≤◌, Bool, false, true, List, [], All, Result, Ok, Err}
use Rattle.core_names.specs.NamesInTheEnd.{MayLeaveNames}
use Rattle.core_program.specs.CoreFits.{CoreEntry}
use Rattle.core_program.specs.Knowing.{IsClientOf, IsSessionOf}
use Rattle.csv_load.specs.Loads.{LoadState}
use Rattle.cube_core.specs.declared.cell.CoreCell.{CoreCell}
use Rattle.cube_language.specs.declared.decl.Decl.{Decl}
use Rattle.cube_values.specs.declared.row.CodedRow.{CodedRow}
use Rattle.cube_values.specs.declared.snapshot.Snapshot.{Snapshot}
use Rattle.known_cubes.specs.KnownCubes.{IsToldOfCube, OpenWithStorableCubes}
use Rattle.session_snapshots.specs.KnownHolds.{HoldsWriter}
use Rattle.linked_shards.specs.CellShards.{CoreShardStands}
use Rattle.shard_events.specs.ShardsInRuns.{FitsShard, ShardAnswerSays}
use Rattle.linked_shards.specs.declared.cell.CoreShard.{CoreShard}
use Rattle.row_encoding.specs.CodedInserts.{HasCoords}
use Rattle.row_encoding.specs.CodedLoads.{LoadGoesOn, TakesBatch}
use Rattle.row_encoding.specs.FinalCodes.{InTheEnd}
use Rattle.row_encoding.specs.declared.load.BadRecords.{BadRecords}
use Rattle.row_encoding.specs.declared.load.BatchEnd.{BatchEnd}
use Rattle.row_encoding.specs.declared.load.BatchEnd.TheVariants as batch_is
use Rattle.loaded_batches.specs.LoadingCalls.{ArePosted}
use Rattle.loaded_batches.specs.declared.records.LoadEnd.{LoadEnd}
use Rattle.loaded_batches.specs.declared.records.LoadEnd.TheVariants as end
use Rattle.loaded_batches.specs.declared.turns.LoadStop.{LoadStop}
use Rattle.loaded_batches.specs.declared.turns.LoadStop.TheVariants as stop
use Rattle.loaded_batches.specs.declared.turns.LoadTurn.{LoadTurn}
use Rattle.loaded_batches.specs.declared.turns.LoadTurn.TheVariants as turn
use Rattle.loaded_batches.specs.declared.turns.Reading.{Reading}
use Rattle.loaded_batches.specs.declared.turns.Reading.TheVariants as reading
use Rattle.session_batches.specs.RowsOut.{HoldsRowsOut, MayBeFetched}
use Rattle.session_batches.specs.declared.answers.PutEnd.{PutEnd}
use Rattle.session_batches.specs.declared.answers.PutEnd.TheVariants as put
use Rattle.session_groups.specs.ShardGroups.{HoldsOpenWriter}

-- How a LOAD ends of which a shard was full, by how the records ended that were left: full unless too many are bad.
abbrev pub end_of_rest : BatchEnd → BadRecords → ℕ → ℕ → LoadEnd
end_of_rest batch_is.End bad shard rows = end.ShardFull shard rows
end_of_rest batch_is.TooMany bad shard rows = end.TooMany bad.count
end_of_rest batch_is.Full bad shard rows = end.OutOfMemory

-- The caller is a session's, which was told of the cube at a place.
pub record MayPutInto (cells : List (CoreCell CoreShard)) (caller session : ℕ) (own : List CoreEntry) (place : ℕ)
    (d : Decl) : Type 0 where
  pub client : IsClientOf FitsShard CoreShardStands ShardAnswerSays cells caller session
  pub is_session : IsSessionOf FitsShard CoreShardStands ShardAnswerSays cells session
  pub storable : OpenWithStorableCubes FitsShard CoreShardStands ShardAnswerSays cells
  pub name : List ℕ
  pub cube : IsToldOfCube own name place d

module _ (cells : List (CoreCell CoreShard)) (caller place : ℕ) (d : Decl) (allowed : ℕ) where
  -- From one state to another a load into the cube at a place has these rows, whatever names the dictionaries end with.
  abbrev pub TakesInTheEnd : List CoreEntry → LoadState → LoadState → BadRecords → BadRecords → List CodedRow → BatchEnd
      → Type 0
  TakesInTheEnd now start load before bad rows ended =
      InTheEnd (MayLeaveNames FitsShard CoreShardStands ShardAnswerSays cells caller now) place
      (λ lists. TakesBatch d lists allowed start load before bad rows ended)

  -- It has come so far, to no more bad records than are allowed, and may go on.
  pub record HasTakenSoFar (now : List CoreEntry) (start load : LoadState) (before bad : BadRecords)
      (rows : List CodedRow) : Type 0 where
    pub goes : LoadGoesOn start load
    pub few : bad.count ≤ allowed
    pub counted : bad.count ≤ load.number
    pub taken : TakesInTheEnd now start load before bad rows batch_is.Full

  -- It has come to one bad record more than are allowed, and does not go on.
  pub record HasTooManyBad (now : List CoreEntry) (start load : LoadState) (before bad : BadRecords) : Type 0 where
    pub goes : LoadGoesOn start load
    pub many : bad.count ≡ allowed + 1
    pub rows : List CodedRow
    pub taken : TakesInTheEnd now start load before bad rows batch_is.TooMany

  -- It has come so far with some rows.
  pub record HasTakenSome (now : List CoreEntry) (start load : LoadState) (before bad : BadRecords) : Type 0 where
    pub rows : List CodedRow
    pub taken : HasTakenSoFar now start load before bad rows

  -- So it is also when no record is left.
  pub record HasTakenAll (now : List CoreEntry) (start load : LoadState) (before bad : BadRecords) : Type 0 where
    pub some : HasTakenSome now start load before bad
    pub none_left : load.left ≡ []

  -- What has come of all that were left, whose rows go nowhere.
  abbrev pub IsAfterRest : List CoreEntry → LoadState → LoadState → BadRecords → BadRecords → BatchEnd → Type 0
  IsAfterRest now start load before bad batch_is.Full = ⊥
  IsAfterRest now start load before bad batch_is.End = HasTakenAll now start load before bad
  IsAfterRest now start load before bad batch_is.TooMany = HasTooManyBad now start load before bad

  -- How a LOAD then ends.
  abbrev pub IsEndOfRest : List CoreEntry → LoadState → LoadState → BadRecords → BadRecords → LoadEnd → Type 0
  IsEndOfRest now start load before bad (end.Stored rows told) = ⊥
  IsEndOfRest now start load before bad (end.TooMany rejected) =
      (rejected ≡ bad.count) × HasTooManyBad now start load before bad
  IsEndOfRest now start load before bad (end.ShardFull shard rows) = HasTakenAll now start load before bad
  IsEndOfRest now start load before bad end.OutOfMemory = Unit {0}

  -- What has come of the next records once the rows before them were fetched too. Those behind the last are none.
  abbrev pub IsAfterReading : List CoreEntry → LoadState → LoadState → BadRecords → BadRecords → List CodedRow → Reading
      → Type 0
  IsAfterReading now start load before bad rows (reading.Rows last) =
      HasTakenSoFar now start load before bad rows × (last ≡ true → load.left ≡ [])
  IsAfterReading now start load before bad rows reading.TooMany = HasTooManyBad now start load before bad
  IsAfterReading now start load before bad rows (reading.ShardFull shard count) = HasTakenSome now start load before bad

-- What has come of a batch that is the last, or is not, where its rows may be put.
abbrev pub IsReadingOfRows : Bool → PutEnd → Reading → Type 0
IsReadingOfRows last put.Done r = r ≡ reading.Rows last
IsReadingOfRows last (put.ShardFull shard rows) r = r ≡ reading.ShardFull shard rows
IsReadingOfRows last (put.OutOfMemory shard) r = ⊥

-- What has come of a batch that was read, by how it ended and by what came of the rows before it: that too many are bad
-- comes before that a shard is full.
abbrev pub IsReadingOf : {E : Type 0} → Result BatchEnd E → PutEnd → Reading → Type 0
IsReadingOf (Ok batch_is.TooMany) p r = r ≡ reading.TooMany
IsReadingOf (Ok batch_is.Full) p r = IsReadingOfRows false p r
IsReadingOf (Ok batch_is.End) p r = IsReadingOfRows true p r
IsReadingOf (Err e) p r = ⊥

module _ (cells : List (CoreCell CoreShard)) (caller session : ℕ) (now : List CoreEntry) (writer : Snapshot) where
  -- After reading the session holds its writer still, but where a shard was full.
  abbrev pub HoldsAfterReading : Reading → Type 0
  HoldsAfterReading (reading.Rows last) =
      HoldsWriter FitsShard CoreShardStands ShardAnswerSays cells caller session now writer
  HoldsAfterReading r = HoldsOpenWriter cells caller session now writer

  -- After a turn that posted rows these are out; after any other the writer is open.
  abbrev pub HoldsAfterTurn : LoadTurn → Type 0
  HoldsAfterTurn (turn.Posted out last) = HoldsRowsOut cells caller session now writer out.shards.items
  HoldsAfterTurn t = HoldsOpenWriter cells caller session now writer

  -- After the last rows the session holds its writer, or a shard was full.
  abbrev pub IsAfterLast : LoadStop → Type 0
  IsAfterLast stop.Done = HoldsWriter FitsShard CoreShardStands ShardAnswerSays cells caller session now writer
  IsAfterLast stop.TooMany = ⊥
  IsAfterLast (stop.ShardFull shard rows) = Unit {0}

-- A turn has posted rows, the last ones or not.
abbrev pub IsPostedAs : Bool → LoadTurn → Type 0
IsPostedAs last (turn.Posted out l) = l ≡ last
IsPostedAs last t = ⊥

-- The answers of the rows that a turn posted may be fetched.
abbrev pub MayBeFetchedAfter : ℕ → LoadTurn → Type 0
MayBeFetchedAfter shards (turn.Posted out last) = MayBeFetched shards out
MayBeFetchedAfter shards t = Unit {0}

module _ (cells : List (CoreCell CoreShard)) (caller session place : ℕ) (d : Decl) (allowed : ℕ) (writer : Snapshot)
  where
    -- All rows that it took are posted.
    pub record HasPostedSoFar (own now : List CoreEntry) (start load : LoadState) (before bad : BadRecords) : Type 0
      where
        pub rows : List CodedRow
        pub taken : HasTakenSoFar cells caller place d allowed now start load before bad rows
        pub inside : All (HasCoords d) rows
        pub posted : ArePosted cells caller session place writer.epoch rows own now

    -- No record is left, all rows are with their shards, and the session holds its writer still.
    pub record HasPutAll (own now : List CoreEntry) (start load : LoadState) (before bad : BadRecords) : Type 0 where
      pub so_far : HasPostedSoFar own now start load before bad
      pub none_left : load.left ≡ []
      pub holds : HoldsWriter FitsShard CoreShardStands ShardAnswerSays cells caller session now writer

    -- What has come of records in a turn. Where a shard was full rows were taken all the same.
    abbrev pub IsAfterTurn : List CoreEntry → List CoreEntry → LoadState → LoadState → BadRecords → BadRecords → LoadTurn
        → Type 0
    IsAfterTurn own now start load before bad (turn.Posted out last) =
        HasPostedSoFar own now start load before bad × (last ≡ true → load.left ≡ [])
    IsAfterTurn own now start load before bad turn.TooMany =
        HasTooManyBad cells caller place d allowed now start load before bad
    IsAfterTurn own now start load before bad (turn.ShardFull shard rows) =
        HasTakenSome cells caller place d allowed now start load before bad

    -- What has come of them in all turns.
    abbrev pub IsAfterTurns : List CoreEntry → List CoreEntry → LoadState → LoadState → BadRecords → BadRecords → LoadStop
        → Type 0
    IsAfterTurns own now start load before bad stop.Done = HasPutAll own now start load before bad
    IsAfterTurns own now start load before bad stop.TooMany =
        HasTooManyBad cells caller place d allowed now start load before bad
    IsAfterTurns own now start load before bad (stop.ShardFull shard rows) =
        HasTakenSome cells caller place d allowed now start load before bad
