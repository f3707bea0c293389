-- The calls by which a session reads.
-- Source: AOSI (ICDE 2018), readers; the rest is this project's own.
use Rattle.std.specs.Prelude.{◌≡◌, ℕ, List}
use Rattle.aosi_desk.specs.declared.cube.CubeFound.TheVariants.{Unknown}
use Rattle.core_events.specs.Events.{OpenRead, CloseRead, CreateCube, FindCube, Encode, ClientCall, OnDesk, OnNames, Post}
use Rattle.core_events.specs.Jobs.{Append, DropBox}
use Rattle.core_program.specs.CoreFits.{CoreEntry}
use Rattle.core_states.specs.LeftBehind.{GoOnByCalls}
use Rattle.cube_core.specs.declared.cell.CoreCell.{CoreCell}
use Rattle.linked_shards.specs.CellShards.{CoreShardStands}
use Rattle.shard_events.specs.ShardsInRuns.{FitsShard, ShardAnswerSays}
use Rattle.linked_shards.specs.declared.cell.CoreShard.{CoreShard}

-- A call that posts neither rows nor a deletion, and by which no cube is made or missed and no text given a code. It
-- opens and closes no reader
-- but under the session's own number.
abbrev pub IsReadingCall : ℕ → ClientCall → Type 0
IsReadingCall session (OnDesk (CreateCube statement decl answer)) = ⊥
IsReadingCall session (OnDesk (FindCube statement name Unknown)) = ⊥
IsReadingCall session (OnDesk (OpenRead holder statement epoch)) = holder ≡ session
IsReadingCall session (OnDesk (CloseRead holder statement)) = holder ≡ session
IsReadingCall session (OnNames (Encode cube dim name code)) = ⊥
IsReadingCall session (Post mail (Append cube epoch rows)) = ⊥
IsReadingCall session (Post mail (DropBox cube epoch box)) = ⊥
IsReadingCall session call = Unit {0}

-- From these calls of the session to those each is such.
abbrev pub GoesOnByReading : List (CoreCell CoreShard) → ℕ → ℕ → List CoreEntry → List CoreEntry → Type 0
GoesOnByReading cells caller session own now =
    GoOnByCalls FitsShard CoreShardStands ShardAnswerSays cells caller session (IsReadingCall session) own now
