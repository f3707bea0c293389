-- A core that opens over what a store kept: its cells, and that a run opens with them.
-- Source: Cubrick (VLDB 2016) for the cells; AOSI (ICDE 2018), recovery from flush rounds.
use Rattle.std.specs.Prelude.{◌≡◌, ℕ, ◌+◌, ◌<◌, ◌≤◌, ◌^◌, ◌==◌, List, [], length, if◌then◌else◌}
use Rattle.std.specs.Option.{option_map_or}
use lib.ListN.{get_elem?}
use mathlib.Core.Option.{some}
use Rattle.cube_values.specs.declared.shape.CubeShape.{CubeShape}
use Rattle.cube_language.specs.declared.decl.Decl.{Decl}
use Rattle.cube_schema.specs.Schemas.{cube_of}
use Rattle.cube_rounds.specs.Stands.{Kept}
use Rattle.aosi_desk.specs.Desks.{opening_desk}
use Rattle.mail_cell.specs.State.{new_mail}
use Rattle.names_dict.specs.Dictionaries.{dictionary_for}
use Rattle.kept_data.specs.KeptDicts.{dictionaries_with_names}
use Rattle.cube_core.specs.BoardCells.{cell_of_shard}
use Rattle.core_events.specs.Events.{Opening}
use Rattle.core_program.specs.CoreFits.{CoreEntry, OpensCells, cells_for, decl_at}
use Rattle.cube_core.specs.declared.cell.CoreCell.{CoreCell}
use Rattle.cube_core.specs.declared.cell.CoreCell.TheVariants as cell
use Rattle.linked_shards.specs.CellShards.{CoreShardStands}
use Rattle.linked_shards.specs.declared.cell.CoreShard.{CoreShard}
use Rattle.shard_events.specs.ShardsInRuns.{FitsShard, ShardAnswerSays}
use Rattle.opened_core.specs.KeptShards.{HoldsKept, kept_in_cube}

-- How large a core may be, and up to which epoch a store may keep.
pub record HasLimits (kept : Kept) (shards sessions : ℕ) : Type 0 where
  pub some_shards : 1 ≤ shards
  pub few_shards : shards ≤ 64
  pub some_sessions : 1 ≤ sessions
  pub few_sessions : sessions ≤ 16
  pub small : kept.epoch ≤ 2 ^ 61

-- The clients of a mail: main and the sessions, and at a shard's mail the flusher.
abbrev pub mail_clients : ℕ → ℕ → ℕ → ℕ
mail_clients shards sessions number = if number == shards then sessions + 1 else sessions + 2

-- What stands in a cell: the desk with the kept cubes, the dictionaries with the kept names, a shard with the kept rows
-- of its bricks, or an empty mail.
abbrev pub IsCellOver : Kept → ℕ → ℕ → ℕ → CoreCell CoreShard → Type 0
IsCellOver kept shards sessions k (cell.Desk desk alloc) =
    (k ≡ 0) × (desk ≡ opening_desk kept.epoch sessions kept.cubes)
IsCellOver kept shards sessions k (cell.Names names) =
    (k ≡ 1) × (names ≡ dictionaries_with_names kept.cubes kept.names)
IsCellOver kept shards sessions k (cell.Shard s) =
    (number : ℕ) × (k ≡ cell_of_shard number) × (number < shards) × HoldsKept kept shards number s.shard
IsCellOver kept shards sessions k (cell.Mail m) =
    (number : ℕ) × (k ≡ 2 + shards + number) × (number ≤ shards)
    × (m ≡ new_mail (mail_clients shards sessions number))

-- All cells of a core over what is kept.
pub record AreCellsOver (kept : Kept) (shards sessions : ℕ) (cells : List (CoreCell CoreShard)) : Type 0 where
  pub long : length cells ≡ cells_for shards
  pub each : (k : ℕ) (x : CoreCell CoreShard) → get_elem? cells k ≡ some x → IsCellOver kept shards sessions k x

-- The shape of the cube at a place: of a kept cube, or of one that a history makes. There is no other cube.
abbrev pub no_shape : CubeShape
no_shape = record { shape = record { sizes = [] }; texts = []; metrics = 0 }

abbrev pub shape_made : List Decl → List CoreEntry → ℕ → CubeShape
shape_made cubes log place = option_map_or cube_of (decl_at cubes place log) no_shape

-- How a run opens over what is kept, with the cubes that its history makes.
abbrev pub opening_over : Kept → ℕ → ℕ → List CoreEntry → Opening
opening_over kept shards sessions log = record {
  shards = shards;
  sessions = sessions;
  safe = kept.epoch;
  cubes = kept.cubes;
  shapes = shape_made kept.cubes log;
  names = λ cube dim. dictionary_for (shape_made kept.cubes log cube)
      (dictionaries_with_names kept.cubes kept.names) cube dim;
  rows = kept_in_cube kept;
}

-- A run opens so with the cells, whatever cubes its history makes.
abbrev pub OpenOver : Kept → ℕ → ℕ → List (CoreCell CoreShard) → Type 0
OpenOver kept shards sessions cells = (log : List CoreEntry)
    → OpensCells FitsShard CoreShardStands ShardAnswerSays (opening_over kept shards sessions log) cells log
