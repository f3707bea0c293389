-- How a SELECT ends once its cube is found: with lines that were read, by a reader of its own or by the transaction that
-- is open, or refused.
-- Source: AOSI (ICDE 2018), readers and writers; the rest is this project's own.
use Rattle.std.specs.Prelude.{◌≡◌, ℕ, List, [], ◌∷◌, ◌++◌, Some}
use Rattle.core_selects.specs.ReadLines.{HasReadLines}
use Rattle.core_program.specs.ClientCalls.{desk_entry}
use Rattle.core_cells.specs.declared.desk.DeskAnswer.TheVariants as answer
use Rattle.core_cells.specs.declared.desk.DeskCall.TheVariants as call
use Rattle.core_cubes.specs.StandingCubes.{StandsBefore}
use Rattle.core_events.specs.Clients.{reader_up_to}
use Rattle.core_program.specs.CoreFits.{CoreEntry}
use Rattle.core_states.specs.declared.session.CoreSession.{CoreSession}
use Rattle.cube_core.specs.declared.cell.CoreCell.{CoreCell}
use Rattle.cube_journal.specs.Refusals.{code, of_misfit}
use Rattle.cube_journal.specs.declared.journal_entry.JournalEntry.TheVariants as entry
use Rattle.cube_journal.specs.declared.refusal.Refusal.{Refusal}
use Rattle.cube_journal.specs.declared.refusal.Refusal.TheVariants.{NoMemory}
use Rattle.cube_journal.specs.declared.reply.Reply.{Reply}
use Rattle.cube_journal.specs.declared.reply.Reply.TheVariants as reply
use Rattle.cube_language.specs.Misfits.{HasMisfit}
use Rattle.cube_language.specs.declared.decl.Decl.{Decl}
use Rattle.cube_language.specs.declared.misfit.Misfit.{Misfit}
use Rattle.cube_language.specs.declared.statement.Statement.{Statement}
use Rattle.cube_run.specs.RunRecords.{cube_needed}
use Rattle.cube_run.specs.SessionStates.{Idle, Open}
use Rattle.cube_values.specs.declared.snapshot.Snapshot.{Snapshot}
use Rattle.cube_values.specs.declared.table.Field.{Field}
use Rattle.known_cubes.specs.KnownCubes.{IsToldOfCube}
use Rattle.session_snapshots.specs.KnownHolds.{HoldsReader, HoldsWriter}
use Rattle.linked_shards.specs.CellShards.{CoreShardStands}
use Rattle.shard_events.specs.ShardsInRuns.{FitsShard, ShardAnswerSays}
use Rattle.linked_shards.specs.declared.cell.CoreShard.{CoreShard}
use Rattle.session_replies.specs.Modes.{mode_of}
use Rattle.shard_statements.specs.OverShards.{LeavesOverShards}

module _ (cells : List (CoreCell CoreShard)) (caller : ℕ) where
  -- In its statement of a number the session found the cube that the statement needs, by calls that leave nothing.
  pub record HasFoundCube (session number : ℕ) (s : Statement) (place : ℕ) (d : Decl) (own now : List CoreEntry)
      : Type 0 where
    pub left : LeavesOverShards cells caller session own now []
    pub name : List ℕ
    pub needed : cube_needed s ≡ Some name
    pub told : IsToldOfCube now name place d
    pub stands : StandsBefore FitsShard CoreShardStands ShardAnswerSays cells caller session number own now name place d

  -- It opened a reader under its own number, up to this epoch, and holds it.
  pub record HasOpenedReader (session statement epoch : ℕ) (own now : List CoreEntry) : Type 0 where
    pub opened : now ≡ own ++ desk_entry caller (call.OpenRead session statement) (answer.Opened (reader_up_to epoch)) ∷ []
    pub holds : HoldsReader FitsShard CoreShardStands ShardAnswerSays cells caller session now (reader_up_to epoch)

  -- It closed the reader under its own number.
  abbrev pub HasClosedReader : ℕ → ℕ → List CoreEntry → List CoreEntry → Type 0
  HasClosedReader session statement own now =
      now ≡ own ++ desk_entry caller (call.CloseRead session statement) answer.Done ∷ []

  -- Its calls leave a refusal, and nothing else.
  abbrev pub LeavesRefusal : CoreSession → List CoreEntry → List CoreEntry → Refusal → Type 0
  LeavesRefusal session own now r =
      LeavesOverShards cells caller session.number own now
      (entry.Refused session.number session.statements (code r) ∷ [])

-- The session, which has counted the statement, ends it with these calls and this reply.
pub data EndsSelect (cells : List (CoreCell CoreShard)) (caller : ℕ) (session : CoreSession) (s : Statement) (place : ℕ)
    (d : Decl) (own now : List CoreEntry) : Reply → Type 0 where
  -- with what a reader of its own sees, once that is closed
  read_alone : (epoch : ℕ) (opened read : List CoreEntry) (lines : List (List Field)) → mode_of session.mode ≡ Idle
      → HasOpenedReader cells caller session.number session.statements epoch own opened
      → HasReadLines cells caller session.number place d s (reader_up_to epoch) opened read lines
      → HasClosedReader cells caller session.number session.statements read now
      → EndsSelect cells caller session s place d own now (reply.Rows epoch lines)
  -- with what the writer sees of the transaction that is open
  read_inside : (writer : Snapshot) (lines : List (List Field)) → mode_of session.mode ≡ Open writer
      → HoldsWriter FitsShard CoreShardStands ShardAnswerSays cells caller session.number own writer
      → HasReadLines cells caller session.number place d s writer own now lines
      → EndsSelect cells caller session s place d own now (reply.Rows writer.epoch lines)
  -- refused because memory ran out after its reader was opened, which is closed
  gave_up : (epoch : ℕ) (opened tried closed : List CoreEntry) → mode_of session.mode ≡ Idle
      → HasOpenedReader cells caller session.number session.statements epoch own opened
      → LeavesOverShards cells caller session.number opened tried []
      → HasClosedReader cells caller session.number session.statements tried closed
      → LeavesRefusal cells caller session closed now NoMemory
      → EndsSelect cells caller session s place d own now (reply.Refused NoMemory)
  -- refused because memory ran out before that, or inside the transaction that is open
  without_memory : LeavesRefusal cells caller session own now NoMemory
      → EndsSelect cells caller session s place d own now (reply.Refused NoMemory)
  -- refused for the first test on its cube that it fails
  unfit : (misfit : Misfit) → HasMisfit d s misfit → LeavesRefusal cells caller session own now (of_misfit misfit)
      → EndsSelect cells caller session s place d own now (reply.Refused (of_misfit misfit))
