-- Runs of the core in which each session's posts stand for what its statements have done.
-- Source: this project's own.
use Rattle.std.specs.Prelude.{◌≡◌, ℕ, ◌≤◌, true, List, [], length, slice_get, Some, None, All}
use Rattle.std.specs.List.{list_any}
use Rattle.cube_values.specs.declared.snapshot.Snapshot.{Snapshot}
use Rattle.cube_language.specs.Cubes.{first_repeated}
use Rattle.cube_language.specs.declared.decl.Decl.{Decl}
use Rattle.cube_schema.specs.Schemas.{cube_of}
use Rattle.cube_journal.specs.Counters.{held_by}
use Rattle.cube_run.specs.RunRecords.{RunRecord, catalog_of, script_of}
use Rattle.cube_run.specs.RunTransactions.{is_commit_of, operations_at, session_operations, transaction_so_far}
use Rattle.aosi_desk.specs.Desks.{decl_names}
use Rattle.condition_spans.specs.Codes.{lists_at}
use Rattle.core_events.specs.Cells.{counters_of_run, desk_of}
use Rattle.core_events.specs.Clients.{calls_of}
use Rattle.core_events.specs.Events.{Opening, CoreEvent, IsSession}
use Rattle.core_events.specs.Runs.{IsCoreRun}
use Rattle.core_rows.specs.RowsOfCubes.{IsCubeRow}
use Rattle.core_serial.specs.OwnOperations.{operations_by_calls}
use Rattle.core_records.specs.CoreRecords.{RunScripts, record_of}
use Rattle.core_records.specs.OpeningNames.{OpensWithNames}
use Rattle.core_records.specs.OwnEntries.{entries_by_calls}
use Rattle.core_records.specs.ScriptedCalls.{FollowScripts}
use Rattle.core_agreements.specs.PostsForOperations.{PostsStandFor}

-- A run opens with cubes named apart, of which these are the first or all: each has the shape of its declaration, its
-- dictionaries and its rows. A cube that is made in the run has no rows yet.
pub record OpensWithCubes (o : Opening) (cubes : List Decl) : Type 0 where
  pub names : OpensWithNames o cubes
  pub apart : first_repeated (decl_names o.cubes) ≡ None
  pub shapes : (cube : ℕ) (d : Decl) → slice_get cubes cube ≡ Some d → o.shapes cube ≡ cube_of d
  pub rows : (cube : ℕ) → All (IsCubeRow o [] cube) (o.rows cube)
  pub none : (cube : ℕ) → length o.cubes ≤ cube → o.rows cube ≡ []

-- Of each transaction that a session committed, its posts of each cube stand for what its statements have done at that
-- epoch, by the cubes and dictionaries in the end.
pub record CommitsStand (o : Opening) (given : RunScripts) (es : List CoreEvent) (session : ℕ) : Type 0 where
  pub each : (epoch cube : ℕ) (d : Decl)
      → list_any (is_commit_of epoch) (entries_by_calls o session (calls_of session es)) ≡ true
      → slice_get (catalog_of (record_of o given es)).cubes cube ≡ Some d
      → PostsStandFor d (lists_at (record_of o given es).names cube)
      (operations_by_calls o session cube (calls_of session es) epoch)
      (operations_at epoch
      (session_operations (record_of o given es) session (script_of (record_of o given es) session)))

-- A run whose sessions follow their scripts.
pub record IsScriptedRun (o : Opening) (given : RunScripts) (es : List CoreEvent) : Type 0 where
  pub run : IsCoreRun o es
  pub follow : FollowScripts o given es
  pub opens : OpensWithCubes o (desk_of o es).cubes
  pub commits : (session : ℕ) → IsSession o session → CommitsStand o given es session

-- A session is at a statement inside its transaction: it holds the writer, and its posts of a cube so far stand for
-- what its statements before this one have done.
pub record IsAtStatement (o : Opening) (run : RunRecord) (es : List CoreEvent) (session statement cube : ℕ) (d : Decl)
    (s : Snapshot) : Type 0 where
  pub is_session : IsSession o session
  pub held : held_by (counters_of_run o es).snapshots session ≡ Some s
  pub writes : s.own ≡ true
  pub posts : PostsStandFor d (lists_at run.names cube)
      (operations_by_calls o session cube (calls_of session es) s.epoch)
      (transaction_so_far run session (script_of run session) statement s.epoch).operations
