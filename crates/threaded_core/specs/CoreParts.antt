-- The cells of a core as its parts, a desk, names, shards and mails, and what a run leaves of them.
-- Source: Cubrick (VLDB 2016) for the cells.
use Rattle.std.specs.Prelude.{◌≡◌, ℕ, ◌<◌, zero, suc, List, [], ◌∷◌, length, slice_index_or}
use Rattle.std.specs.declared.alloc.Global.{Global}
use Rattle.aosi_desk.specs.Desks.{DeskState}
use Rattle.names_dict.specs.Dictionaries.{Dictionary}
use Rattle.core_events.specs.Cells.{counters_of_run, desk_of, shard_view_of}
use Rattle.core_events.specs.Events.{Opening}
use Rattle.core_program.specs.CoreFits.{CoreEntry}
use Rattle.cube_core.specs.NamesEvents.{AreNamesOf}
use Rattle.cube_core.specs.declared.cell.CoreCell.{CoreCell}
use Rattle.cube_core.specs.declared.cell.CoreCell.TheVariants as cell
use Rattle.linked_shards.specs.CellShards.{CoreShardStands}
use Rattle.linked_shards.specs.declared.cell.CoreShard.{CoreShard}
use Rattle.run_threads.specs.CoreRuns.{IsRunTo}
use Rattle.threaded_core.specs.declared.cores.CoreLeft.{CoreLeft}

-- A shard stands in the cell.
abbrev pub IsShardCell : CoreCell CoreShard → Type 0
IsShardCell (cell.Shard shard) = Unit {0}
IsShardCell other = ⊥

-- So many shards stand in the first cells.
abbrev pub BeginWithShards : ℕ → List (CoreCell CoreShard) → Type 0
BeginWithShards zero cells = Unit {0}
BeginWithShards (suc many) [] = ⊥
BeginWithShards (suc many) (held ∷ cells) = IsShardCell held × BeginWithShards many cells

-- They are these.
abbrev pub BeginWith : List CoreShard → List (CoreCell CoreShard) → Type 0
BeginWith [] cells = Unit {0}
BeginWith (shard ∷ shards) [] = ⊥
BeginWith (shard ∷ shards) (held ∷ cells) = (held ≡ cell.Shard shard) × BeginWith shards cells

-- The cells begin with a desk, names and so many shards.
abbrev pub BeginWithCore : ℕ → List (CoreCell CoreShard) → Type 0
BeginWithCore many (cell.Desk desk alloc ∷ cell.Names names ∷ cells) = BeginWithShards many cells
BeginWithCore many cells = ⊥

-- They hold these.
pub record HoldParts (cells : List (CoreCell CoreShard)) (desk : DeskState) (names : List (List Dictionary))
    (shards : List CoreShard) : Type 0 where
  pub alloc : Global
  pub behind : List (CoreCell CoreShard)
  pub whole : cells ≡ cell.Desk desk alloc ∷ cell.Names names ∷ behind
  pub shards_are : BeginWith shards behind

-- The history is a run that made of the cells what they are, and so of the desk, the names and each shard that are
-- left.
pub record IsLeftByRun (o : Opening) (log : List CoreEntry) (cells : List (CoreCell CoreShard)) (left : CoreLeft)
    : Type 0 where
  pub to : IsRunTo o cells log
  pub desk : left.desk ≡ desk_of o to.es
  pub names : AreNamesOf o to.es left.names
  pub as_many : length left.shards.items ≡ o.shards
  pub shards : (number : ℕ) (d : CoreShard) → number < o.shards
      → CoreShardStands o number (counters_of_run o to.es).lse (slice_index_or left.shards.items number d)
      (shard_view_of o to.es)
