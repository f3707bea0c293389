-- How a WATCH ends once its cube is found, and how a SHOW WATCH does.
-- Source: AOSI (ICDE 2018), readers; materialized views kept by their changes (Gupta, Mumick, Subrahmanian, SIGMOD 1993).
use Rattle.std.specs.Prelude.{◌≡◌, ℕ, true, List, [], ◌∷◌, Option, Some, None}
use Rattle.core_watches.specs.BoundReaders.{IsShownWatch}
use Rattle.core_watches.specs.WatchingCalls.{LeavesByWatching}
use Rattle.core_cubes.specs.StandingCubes.{StandsBefore}
use Rattle.core_program.specs.CoreFits.{CoreEntry}
use Rattle.core_states.specs.declared.session.CoreSession.{CoreSession}
use Rattle.cube_core.specs.declared.cell.CoreCell.{CoreCell}
use Rattle.cube_journal.specs.Refusals.{code, of_misfit}
use Rattle.cube_journal.specs.declared.journal_entry.JournalEntry.{JournalEntry}
use Rattle.cube_journal.specs.declared.journal_entry.JournalEntry.TheVariants as entry
use Rattle.cube_journal.specs.declared.refusal.Refusal.TheVariants.{NoMemory}
use Rattle.cube_journal.specs.declared.reply.Reply.{Reply}
use Rattle.cube_journal.specs.declared.reply.Reply.TheVariants as reply
use Rattle.cube_language.specs.Misfits.{FitsCube, HasMisfit}
use Rattle.cube_language.specs.declared.decl.Decl.{Decl}
use Rattle.cube_language.specs.declared.misfit.Misfit.{Misfit}
use Rattle.cube_language.specs.declared.statement.Statement.{Statement}
use Rattle.cube_run.specs.RunRecords.{cube_needed}
use Rattle.cube_run.specs.SessionStates.{KeptWatch, first_holder, other_holder}
use Rattle.cube_run.specs.StatementEntries.{is_watch}
use Rattle.cube_values.specs.declared.table.Field.{Field}
use Rattle.known_cubes.specs.KnownCubes.{IsToldOfCube}
use Rattle.linked_shards.specs.CellShards.{CoreShardStands}
use Rattle.shard_events.specs.ShardsInRuns.{FitsShard, ShardAnswerSays}
use Rattle.linked_shards.specs.declared.cell.CoreShard.{CoreShard}
use Rattle.shard_statements.specs.OverShards.{LeavesOverShards}
use Rattle.watched_queries.specs.declared.watch.SessionWatch.{SessionWatch}

module _ (cells : List (CoreCell CoreShard)) (caller : ℕ) where
  -- In its statement of a number the session found the cube that the statement needs, by calls that leave nothing.
  pub record HasFoundCube (session number : ℕ) (s : Statement) (place : ℕ) (d : Decl) (own now : List CoreEntry)
      : Type 0 where
    pub left : LeavesOverShards cells caller session own now []
    pub name : List ℕ
    pub needed : cube_needed s ≡ Some name
    pub told : IsToldOfCube now name place d
    pub stands : StandsBefore FitsShard CoreShardStands ShardAnswerSays cells caller session number own now name place d

-- A statement is a WATCH of the cube at a place, of which the session was told, and fits it.
pub record WatchesCube (s : Statement) (place : ℕ) (d : Decl) (own : List CoreEntry) : Type 0 where
  pub form : is_watch s ≡ true
  pub name : List ℕ
  pub needed : cube_needed s ≡ Some name
  pub told : IsToldOfCube own name place d
  pub fits : FitsCube d s

-- The entries of the statement that a session has counted: a refusal for want of memory, a reader that is opened under
-- a number, and one that is opened and closed again because memory ran out.
abbrev pub no_memory_entry : CoreSession → JournalEntry
no_memory_entry session = entry.Refused session.number session.statements 16

abbrev pub reader_opened : CoreSession → ℕ → ℕ → JournalEntry
reader_opened session holder epoch = entry.Read holder session.statements epoch

abbrev pub reader_closed : CoreSession → ℕ → JournalEntry
reader_closed session holder = entry.ReadEnd holder session.statements

abbrev pub given_up : CoreSession → ℕ → ℕ → List JournalEntry
given_up session holder epoch =
    reader_opened session holder epoch ∷ reader_closed session holder ∷ no_memory_entry session ∷ []

-- The session, which has counted the WATCH, ends it with these calls, this watch and this reply.
pub data EndsWatch (cells : List (CoreCell CoreShard)) (caller : ℕ) (session : CoreSession) (s : Statement) (d : Decl)
    (own now : List CoreEntry) : Option KeptWatch → Reply → Type 0 where
  -- with a reader under the first of its holder numbers, and what this sees
  begun : (w : SessionWatch) (table : List (List Field)) → FitsCube d s → w.holder ≡ first_holder session.number
      → LeavesByWatching cells caller session.number own now (reader_opened session w.holder w.epoch ∷ [])
      → IsShownWatch cells caller now session.number d s w table
      → EndsWatch cells caller session s d own now (Some (record { holder = w.holder; asked = s }))
      (reply.Watching w.epoch table)
  -- refused because memory ran out after the reader was opened, which is closed
  gave_up : (epoch : ℕ)
      → LeavesByWatching cells caller session.number own now (given_up session (first_holder session.number) epoch)
      → EndsWatch cells caller session s d own now None (reply.Refused NoMemory)
  -- refused because memory ran out before that
  without_memory : LeavesByWatching cells caller session.number own now (no_memory_entry session ∷ [])
      → EndsWatch cells caller session s d own now None (reply.Refused NoMemory)
  -- refused for the first test on its cube that it fails
  unfit : (misfit : Misfit) → HasMisfit d s misfit
      → LeavesByWatching cells caller session.number own now
      (entry.Refused session.number session.statements (code (of_misfit misfit)) ∷ [])
      → EndsWatch cells caller session s d own now None (reply.Refused (of_misfit misfit))

-- The session, which has counted the SHOW WATCH of this watch, ends it with these calls, this watch and this reply.
pub data EndsShow (cells : List (CoreCell CoreShard)) (caller : ℕ) (session : CoreSession) (kept : KeptWatch) (d : Decl)
    (own now : List CoreEntry) : KeptWatch → Reply → Type 0 where
  -- with a newer reader under the other holder number, what this sees, and the older one closed
  shown : (w : SessionWatch) (table : List (List Field)) → w.holder ≡ other_holder session.number kept.holder
      → LeavesByWatching cells caller session.number own now
      (reader_opened session w.holder w.epoch ∷ reader_closed session kept.holder ∷ [])
      → IsShownWatch cells caller now session.number d kept.asked w table
      → EndsShow cells caller session kept d own now (record { holder = w.holder; asked = kept.asked })
      (reply.Watching w.epoch table)
  -- refused because memory ran out after the newer reader was opened, which is closed
  show_given_up : (epoch : ℕ)
      → LeavesByWatching cells caller session.number own now
      (given_up session (other_holder session.number kept.holder) epoch)
      → EndsShow cells caller session kept d own now kept (reply.Refused NoMemory)
  -- refused because memory ran out before that
  show_unread : LeavesByWatching cells caller session.number own now (no_memory_entry session ∷ [])
      → EndsShow cells caller session kept d own now kept (reply.Refused NoMemory)
