-- How the records of a LOAD end: their rows are with their shards, too many are bad, or a shard is full.
-- Source: this project's own; AOSI (ICDE 2018), appends of a transaction.
use Rattle.std.specs.Prelude.{◌≡◌, ℕ, ◌<◌, ◌≤◌, List, length, Result}
use Rattle.core_agreements.specs.PostsForOperations.{StandForAll, batches_posted, rows_of_batches}
use Rattle.core_names.specs.NamesInTheEnd.{MayLeaveNames}
use Rattle.core_program.specs.CoreFits.{CoreEntry}
use Rattle.csv_load.specs.Loads.{LoadState}
use Rattle.cube_core.specs.declared.cell.CoreCell.{CoreCell}
use Rattle.cube_language.specs.declared.bad_row.BadRow.{BadRow}
use Rattle.cube_language.specs.declared.decl.Decl.{Decl}
use Rattle.cube_run.specs.LoadedRows.{records_looked_at, rejections_among, rows_among}
use Rattle.cube_run.specs.RunTransactions.{rows_of_cube}
use Rattle.cube_values.specs.declared.row.CodedRow.{CodedRow}
use Rattle.cube_values.specs.declared.row.Row.{Row}
use Rattle.cube_values.specs.declared.snapshot.Snapshot.{Snapshot}
use Rattle.session_snapshots.specs.KnownHolds.{HoldsWriter}
use Rattle.linked_shards.specs.CellShards.{CoreShardStands}
use Rattle.shard_events.specs.ShardsInRuns.{FitsShard, ShardAnswerSays}
use Rattle.linked_shards.specs.declared.cell.CoreShard.{CoreShard}
use Rattle.posted_pasts.specs.PostsAdded.{AddsOperations, LearnsThat}
use Rattle.row_encoding.specs.CodedLoads.{Tell, final_records}
use Rattle.row_encoding.specs.FinalCodes.{InTheEnd}
use Rattle.row_encoding.specs.declared.load.BadRecords.{BadRecords}
use Rattle.session_groups.specs.ShardGroups.{HoldsOpenWriter}
use Rattle.loaded_batches.specs.declared.records.LoadEnd.{LoadEnd}
use Rattle.loaded_batches.specs.declared.records.LoadEnd.TheVariants as end

-- The records at which a LOAD looks that allows so many bad ones, by the names of its cube.
abbrev pub looked_at : Decl → ℕ → LoadState → List (List (List ℕ)) → List (Result Row BadRow)
looked_at d allowed load lists = records_looked_at allowed (final_records d lists load.left)

-- Batches stand for the rows among records, which are so many, and the bad ones, no more than are allowed, are told.
pub record StandForRecords (d : Decl) (lists : List (List (List ℕ))) (allowed : ℕ) (records : List (Result Row BadRow))
    (batches : List (List CodedRow)) (rows : ℕ) (bad : BadRecords) : Type 0 where
  pub stand : StandForAll d lists (rows_of_batches batches) (rows_of_cube d.name (rows_among records))
  pub count : rows ≡ length (rows_among records)
  pub bad_are : Tell bad (rejections_among records)
  pub few : bad.count ≤ allowed

-- So many of records are bad, more than are allowed.
pub record HaveManyBad (allowed rejected : ℕ) (records : List (Result Row BadRow)) : Type 0 where
  pub count : rejected ≡ length (rejections_among records)
  pub many : allowed < rejected

-- No more of records are bad than are allowed.
abbrev pub HaveFewBad : ℕ → List (Result Row BadRow) → Type 0
HaveFewBad allowed records = length (rejections_among records) ≤ allowed

module _ (cells : List (CoreCell CoreShard)) (caller session : ℕ) (writer : Snapshot) where
  -- The session holds its writer still where all is stored, and may have spoiled its write else.
  abbrev pub HoldsAfterLoad : List CoreEntry → LoadEnd → Type 0
  HoldsAfterLoad now (end.Stored rows bad) =
      HoldsWriter FitsShard CoreShardStands ShardAnswerSays cells caller session now writer
  HoldsAfterLoad now e = HoldsOpenWriter cells caller session now writer

module _ (cells : List (CoreCell CoreShard)) (caller session place : ℕ) (writer : Snapshot) where
  -- From these calls to those it has posted batches that stand for the rows among the records at which a LOAD looks.
  pub record AreStored (d : Decl) (allowed : ℕ) (load : LoadState) (own now : List CoreEntry) (rows : ℕ)
      (bad : BadRecords) : Type 0 where
    pub batches : List (List CodedRow)
    pub posted : LearnsThat FitsShard CoreShardStands ShardAnswerSays
        (AddsOperations place writer.epoch (batches_posted batches)) cells caller session own now
    pub stand : InTheEnd (MayLeaveNames FitsShard CoreShardStands ShardAnswerSays cells caller now) place
        (λ lists. StandForRecords d lists allowed (looked_at d allowed load lists) batches rows bad)

  -- A LOAD of these records has ended so. Where a shard was full no more of them are bad than are allowed.
  abbrev pub HasEndedSo : Decl → ℕ → LoadState → List CoreEntry → List CoreEntry → LoadEnd → Type 0
  HasEndedSo d allowed load own now (end.Stored rows bad) = AreStored d allowed load own now rows bad
  HasEndedSo d allowed load own now (end.TooMany rejected) =
      InTheEnd (MayLeaveNames FitsShard CoreShardStands ShardAnswerSays cells caller now) place
      (λ lists. HaveManyBad allowed rejected (looked_at d allowed load lists))
  HasEndedSo d allowed load own now (end.ShardFull shard rows) =
      InTheEnd (MayLeaveNames FitsShard CoreShardStands ShardAnswerSays cells caller now) place
      (λ lists. HaveFewBad allowed (looked_at d allowed load lists))
  HasEndedSo d allowed load own now end.OutOfMemory = Unit {0}
