-- Records that a load takes, one batch after the other, whatever names the dictionaries end with.
use Rattle.std.proofs.Common.{◌≡◌, ◌∙◌, ℕ, ◌-◌, ◌≤◌, List, [], ◌++◌, sym, ap}
use mathlib.Core.List.{IsPrefix}
use Rattle.condition_spans.specs.Codes.{lists_at}
use Rattle.core_names.specs.NamesInTheEnd.{MayLeaveNames}
use Rattle.core_program.specs.CoreFits.{CoreEntry}
use Rattle.csv_load.specs.FileRecords.{RecordFields}
use Rattle.csv_load.specs.Loads.{LoadState}
use Rattle.cube_core.specs.declared.cell.CoreCell.{CoreCell}
use Rattle.cube_language.specs.declared.decl.Decl.{Decl}
use Rattle.cube_run.specs.LoadedRows.{records_looked_at}
use Rattle.cube_values.specs.declared.row.CodedRow.{CodedRow}
use Rattle.linked_shards.specs.CellShards.{CoreShardStands}
use Rattle.shard_events.specs.ShardsInRuns.{FitsShard, ShardAnswerSays}
use Rattle.linked_shards.specs.declared.cell.CoreShard.{CoreShard}
use Rattle.row_encoding.proofs.LoadSteps.{batch_none, goes_nowhere}
use Rattle.row_encoding.specs.CodedLoads.{BatchHasEnded, LoadGoesOn, TakesBatch, final_records, records_between}
use Rattle.row_encoding.specs.declared.load.BadRecords.{BadRecords}
use Rattle.row_encoding.specs.declared.load.BatchEnd.{BatchEnd}
use Rattle.row_encoding.specs.declared.load.BatchEnd.TheVariants as batch_is
use Rattle.loaded_batches.specs.LoadFronts.{HasTakenAll, HasTakenSoFar, HasTakenSome, HasTooManyBad, TakesInTheEnd}
use Rattle.loaded_batches.proofs.JoinedBatches.{batches_join, goes_both}
use Rattle.loaded_batches.proofs.LoadingMoments.{later-before}

-- A batch behind which no record is left is one that goes on to nothing.
as-full : (d : Decl) (lists : List (List (List ℕ))) (allowed : ℕ) (start load : LoadState) (before bad : BadRecords)
    (rows : List CodedRow) → load.left ≡ [] → TakesBatch d lists allowed start load before bad rows batch_is.End
    → TakesBatch d lists allowed start load before bad rows batch_is.Full
as-full d lists allowed start load before bad rows none h = record {
  rows = h.rows;
  names = h.names;
  faults = h.faults;
  looked =
      h.looked
      ∙ ap (λ (left : List RecordFields). final_records d lists (records_between start load)
      ++ records_looked_at (allowed - bad.count) (final_records d lists left)) (sym none);
}

module _ (cells : List (CoreCell CoreShard)) (caller place : ℕ) (d : Decl) (allowed : ℕ) where
  abbrev Takes : List CoreEntry → LoadState → LoadState → BadRecords → BadRecords → List CodedRow → BatchEnd → Type 0
  Takes now start load before bad rows ended =
      TakesInTheEnd cells caller place d allowed now start load before bad rows ended

  abbrev SoFar : List CoreEntry → LoadState → LoadState → BadRecords → BadRecords → List CodedRow → Type 0
  SoFar now start load before bad rows =
      HasTakenSoFar cells caller place d allowed now start load before bad rows

  abbrev TooMany : List CoreEntry → LoadState → LoadState → BadRecords → BadRecords → Type 0
  TooMany now start load before bad = HasTooManyBad cells caller place d allowed now start load before bad

  abbrev Some : List CoreEntry → LoadState → LoadState → BadRecords → BadRecords → Type 0
  Some now start load before bad = HasTakenSome cells caller place d allowed now start load before bad

  abbrev AllTaken : List CoreEntry → LoadState → LoadState → BadRecords → BadRecords → Type 0
  AllTaken now start load before bad = HasTakenAll cells caller place d allowed now start load before bad

  abbrev MayLeave : List CoreEntry → List (List (List (List ℕ))) → Type 0
  MayLeave own names = MayLeaveNames FitsShard CoreShardStands ShardAnswerSays cells caller own names

  pub may-leave-before : (own now : List CoreEntry) → IsPrefix own now → (names : List (List (List (List ℕ))))
      → MayLeave now names → MayLeave own names
  may-leave-before own now more names may = record {
    opening = may.opening;
    log = may.log;
    run = may.run;
    later = later-before cells caller 0 may.opening own now may.log may.run more may.later;
    are = may.are;
  }

  -- ---- one after the other

  pub taken-none : (now : List CoreEntry) (load : LoadState) (bad : BadRecords) → bad.count ≤ allowed
      → bad.count ≤ load.number → SoFar now load load bad bad []
  taken-none now load bad few counted = record {
    goes = goes_nowhere load;
    few = few;
    counted = counted;
    taken = λ names may. batch_none d (lists_at names place) allowed load bad;
  }

  module _ (mid now : List CoreEntry) (more : IsPrefix mid now) (start load next : LoadState)
      (before bad after : BadRecords) (rows : List CodedRow) (h : SoFar mid start load before bad rows) where
    takes-both : (back : List CodedRow) (ended : BatchEnd) → LoadGoesOn load next
        → Takes now load next bad after back ended → Takes now start next before after (rows ++ back) ended
    takes-both back ended goes k = λ names may.
        batches_join d (lists_at names place) allowed start load next h.goes goes before bad after rows back ended
        (h.taken names (may-leave-before mid now more names may)) (k names may)

    pub taken-both : (back : List CodedRow) → SoFar now load next bad after back
        → SoFar now start next before after (rows ++ back)
    taken-both back k = record {
      goes = goes_both start load next h.goes k.goes;
      few = k.few;
      counted = k.counted;
      taken = takes-both back batch_is.Full k.goes k.taken;
    }

    pub many-behind : TooMany now load next bad after → TooMany now start next before after
    many-behind k = record {
      goes = goes_both start load next h.goes k.goes;
      many = k.many;
      rows = rows ++ k.rows;
      taken = takes-both k.rows batch_is.TooMany k.goes k.taken;
    }

    pub some-behind : Some now load next bad after → Some now start next before after
    some-behind k = record { rows = rows ++ k.rows; taken = taken-both k.rows k.taken }

    pub all-behind : AllTaken now load next bad after → AllTaken now start next before after
    all-behind k = record { some = some-behind k.some; none_left = k.none_left }

  -- With more calls it has taken them still.
  pub taken-still : (mid now : List CoreEntry) → IsPrefix mid now → (start load : LoadState) (before bad : BadRecords)
      (rows : List CodedRow) → SoFar mid start load before bad rows → SoFar now start load before bad rows
  taken-still mid now more start load before bad rows h = record {
    goes = h.goes;
    few = h.few;
    counted = h.counted;
    taken = λ names may. h.taken names (may-leave-before mid now more names may);
  }

  -- ---- one batch

  module _ (now : List CoreEntry) (start load : LoadState) (before bad : BadRecords) (rows : List CodedRow)
      (goes : LoadGoesOn start load) (counted : bad.count ≤ load.number) where
    pub batch-full : BatchHasEnded allowed load bad rows batch_is.Full
        → Takes now start load before bad rows batch_is.Full → SoFar now start load before bad rows
    batch-full ended taken = record { goes = goes; few = ended.1; counted = counted; taken = taken }

    pub batch-last : BatchHasEnded allowed load bad rows batch_is.End
        → Takes now start load before bad rows batch_is.End → SoFar now start load before bad rows
    batch-last ended taken = record {
      goes = goes;
      few = ended.1;
      counted = counted;
      taken = λ names may. as-full d (lists_at names place) allowed start load before bad rows ended.0 (taken names may);
    }

    pub batch-many : BatchHasEnded allowed load bad rows batch_is.TooMany
        → Takes now start load before bad rows batch_is.TooMany → TooMany now start load before bad
    batch-many ended taken = record { goes = goes; many = ended; rows = rows; taken = taken }
