-- The steps by which a session reads the lines of a SELECT, and how it gives up.
-- Source: Cubrick (VLDB 2016), one request that goes to all shards, and the merging of partial results.
use Rattle.std.specs.Prelude.{◌≡◌, ℕ, List}
use Rattle.agg_fold.specs.declared.groups.Groups.{Groups}
use Rattle.core_selects.specs.ReadLines.{AreFirstOfTable, GoesOnHolding, IsBoundBy}
use Rattle.core_selects.specs.SelectEnds.{HasClosedReader, LeavesRefusal}
use Rattle.condition_spans.specs.Codes.{lists_at}
use Rattle.core_program.specs.CoreFits.{CoreEntry}
use Rattle.core_states.specs.declared.session.CoreSession.{CoreSession}
use Rattle.cube_core.specs.declared.cell.CoreCell.{CoreCell}
use Rattle.cube_journal.specs.declared.refusal.Refusal.TheVariants.{NoMemory}
use Rattle.cube_journal.specs.declared.reply.Reply.{Reply}
use Rattle.cube_journal.specs.declared.reply.Reply.TheVariants as reply
use Rattle.cube_language.specs.Misfits.{HasMisfit}
use Rattle.cube_language.specs.declared.decl.Decl.{Decl}
use Rattle.cube_language.specs.declared.misfit.Misfit.{Misfit}
use Rattle.cube_language.specs.declared.statement.Statement.{Statement}
use Rattle.cube_values.specs.declared.call_error.CallError.{CallError}
use Rattle.cube_values.specs.declared.call_error.CallError.TheVariants as error
use Rattle.cube_values.specs.declared.query.BoundQuery.{BoundQuery}
use Rattle.cube_values.specs.declared.snapshot.Snapshot.{Snapshot}
use Rattle.cube_values.specs.declared.table.Field.{Field}
use Rattle.linked_shards.specs.declared.cell.CoreShard.{CoreShard}
use Rattle.session_groups.specs.ShardGroups.{HasFoundRows, KnowsOfShards}

module _ (cells : List (CoreCell CoreShard)) (caller session : ℕ) where
  -- All shards gave the rows of a query that a snapshot sees, and these are the lines of their groups by the texts of each
  -- dimension.
  pub record HasScannedLines (s : Statement) (lists : List (List (List ℕ))) (query : BoundQuery) (snapshot : Snapshot)
      (own now : List CoreEntry) (lines : List (List Field)) : Type 0 where
    pub scanned : List CoreEntry
    pub groups : Groups
    pub scanning : GoesOnHolding cells caller session own scanned
    pub making : GoesOnHolding cells caller session scanned now
    pub found : KnowsOfShards cells caller session scanned (HasFoundRows session query snapshot groups)
    pub are : AreFirstOfTable s lists query groups lines

  -- So it is of a query to which the statement is bound by names of the cube at a place.
  pub record HasNamedLines (place : ℕ) (d : Decl) (s : Statement) (snapshot : Snapshot)
      (names : List (List (List (List ℕ)))) (own now : List CoreEntry) (lines : List (List Field)) : Type 0 where
    pub query : BoundQuery
    pub bound : IsBoundBy place d s names query
    pub lines_are : HasScannedLines s (lists_at names query.cube) query snapshot own now lines

-- A session closed its reader, and refused the statement for want of memory.
pub record HasGivenUp (cells : List (CoreCell CoreShard)) (caller : ℕ) (session : CoreSession) (own now : List CoreEntry)
    (said : Reply) : Type 0 where
  pub is : said ≡ reply.Refused NoMemory
  pub closed : List CoreEntry
  pub closing : HasClosedReader cells caller session.number session.statements own closed
  pub refused : LeavesRefusal cells caller session closed now NoMemory

-- Why a statement does not fit its cube, unless memory ran out.
abbrev pub IsMisfitIn : Decl → Statement → CallError Misfit → Type 0
IsMisfitIn d s (error.Fault misfit) = HasMisfit d s misfit
IsMisfitIn d s error.NoMemory = Unit {0}
