-- How a LOAD ends by the records that are left when a shard was full.
use Rattle.std.proofs.Common.{◌≡◌, ℕ, List, [], Result, Ok, Err, IfOk, sym, subst}
use mathlib.Core.List.{IsPrefix}
use Rattle.condition_spans.specs.Codes.{lists_at}
use Rattle.core_names.specs.NamesInTheEnd.{MayLeaveNames}
use Rattle.core_program.specs.CoreFits.{CoreEntry}
use Rattle.csv_load.specs.Loads.{LoadState}
use Rattle.cube_core.specs.declared.cell.CoreCell.{CoreCell}
use Rattle.cube_language.specs.declared.decl.Decl.{Decl}
use Rattle.cube_values.specs.declared.snapshot.Snapshot.{Snapshot}
use Rattle.linked_shards.specs.CellShards.{CoreShardStands}
use Rattle.linked_shards.specs.declared.cell.CoreShard.{CoreShard}
use Rattle.row_encoding.specs.CodedLoads.{Tell}
use Rattle.row_encoding.specs.declared.load.BadRecords.{BadRecords}
use Rattle.session_groups.specs.ShardGroups.{HoldsOpenWriter}
use Rattle.shard_events.specs.ShardsInRuns.{FitsShard, ShardAnswerSays}
use Rattle.loaded_batches.specs.LoadEnds.{HasEndedSo, HaveManyBad, HoldsAfterLoad, looked_at}
use Rattle.loaded_batches.specs.LoadFronts.{HasTakenSome, IsEndOfRest}
use Rattle.loaded_batches.specs.declared.records.LoadEnd.{LoadEnd}
use Rattle.loaded_batches.specs.declared.records.LoadEnd.TheVariants as end
use Rattle.loaded_batches.proofs.EndedRecords.{ends-full, ends-many}
use Rattle.loaded_batches.proofs.TakenRecords.{all-behind, many-behind}

-- So many were counted.
pub counted-many : (cells : List (CoreCell CoreShard)) (caller place : ℕ) (d : Decl) (allowed : ℕ)
    (now : List CoreEntry) (start : LoadState) (rejected count : ℕ) → rejected ≡ count
    → ((names : List (List (List (List ℕ)))) → MayLeaveNames FitsShard CoreShardStands ShardAnswerSays cells caller now names
    → HaveManyBad allowed count (looked_at d allowed start (lists_at names place)))
    → (names : List (List (List (List ℕ)))) → MayLeaveNames FitsShard CoreShardStands ShardAnswerSays cells caller now names
    → HaveManyBad allowed rejected (looked_at d allowed start (lists_at names place))
counted-many cells caller place d allowed now start rejected count same h = λ names may.
    subst (λ (n : ℕ). HaveManyBad allowed n (looked_at d allowed start (lists_at names place))) (sym same) (h names may)

module _ (cells : List (CoreCell CoreShard)) (caller session place : ℕ) (writer : Snapshot) (d : Decl) (allowed : ℕ)
    (own mid now : List CoreEntry) (more : IsPrefix mid now) (start load next : LoadState)
    (before bad after : BadRecords) (none : Tell before []) (begins : start.number ≡ 0)
    (some : HasTakenSome cells caller place d allowed mid start load before bad) where
  ends-by-rest : (e : LoadEnd) → IsEndOfRest cells caller place d allowed now load next bad after e
      → HasEndedSo cells caller session place writer d allowed start own now e
  ends-by-rest (end.Stored rows told) h = absurd h
  ends-by-rest (end.TooMany rejected) h =
      counted-many cells caller place d allowed now start rejected after.count h.0
      (ends-many cells caller session place writer d allowed own now start next before after none begins
      (many-behind cells caller place d allowed mid now more start load next before bad after some.rows some.taken h.1))
  ends-by-rest (end.ShardFull shard rows) h =
      ends-full cells caller session place writer d allowed own now start next before after none begins
      (all-behind cells caller place d allowed mid now more start load next before bad after some.rows some.taken h)
  ends-by-rest end.OutOfMemory h = tt

  holds-by-rest : HoldsOpenWriter cells caller session now writer → (e : LoadEnd)
      → IsEndOfRest cells caller place d allowed now load next bad after e
      → HoldsAfterLoad cells caller session writer now e
  holds-by-rest holds (end.Stored rows told) h = absurd h
  holds-by-rest holds (end.TooMany rejected) h = holds
  holds-by-rest holds (end.ShardFull shard rows) h = holds
  holds-by-rest holds end.OutOfMemory h = holds

  pub all-ended : {E : Type 0} (result : Result LoadEnd E)
      → IfOk result (IsEndOfRest cells caller place d allowed now load next bad after)
      → IfOk result (HasEndedSo cells caller session place writer d allowed start own now)
  all-ended (Ok e) h = ends-by-rest e h
  all-ended (Err e) h = tt

  pub all-held : {E : Type 0} → HoldsOpenWriter cells caller session now writer → (result : Result LoadEnd E)
      → IfOk result (IsEndOfRest cells caller place d allowed now load next bad after)
      → IfOk result (HoldsAfterLoad cells caller session writer now)
  all-held holds (Ok e) h = holds-by-rest holds e h
  all-held holds (Err e) h = tt
