-- What is on record of a run of the core: its journal is the desk's, its dictionaries are those that its calls left,
-- and what it kept is what it opened with.
-- Source: this project's own.
use Rattle.std.specs.Prelude.{ℕ, List, [], map}
use Rattle.std.specs.List.{enumerate_from, flat_map}
use Rattle.cube_values.specs.declared.row.StoredRow.{StoredRow}
use Rattle.cube_language.specs.declared.decl.Decl.{Decl}
use Rattle.cube_language.specs.declared.decl.DimDecl.{DimDecl}
use Rattle.cube_run.specs.RunRecords.{LoadedFile, RunRecord, Sentence}
use Rattle.condition_spans.specs.Codes.{lists_at}
use Rattle.query_plan.specs.Ties.{stored_for}
use Rattle.core_events.specs.Cells.{desk_of, dictionary_of}
use Rattle.core_events.specs.Events.{Opening, CoreEvent}
use Rattle.core_serial.specs.Journals.{journal_of}

-- What a run is given: the script of each session, the file of each LOAD, by session and statement, and after how many
-- commits of a session a round follows.
pub record RunScripts : Type 0 where
  pub scripts : List (List Sentence)
  pub file : ℕ → ℕ → LoadedFile
  pub round_every : ℕ

-- The names of each dimension of a cube, and of cubes, by their places.
abbrev pub names_of_dims : (ℕ → List (List ℕ)) → List DimDecl → List (List (List ℕ))
names_of_dims names dims = map (λ p. names p.0) (enumerate_from 0 dims)

abbrev pub names_of_cubes : (ℕ → ℕ → List (List ℕ)) → List Decl → List (List (List (List ℕ)))
names_of_cubes names cubes = map (λ p. names_of_dims (names p.0) p.1.dims) (enumerate_from 0 cubes)

-- The dictionaries of the cubes that there are after events.
abbrev pub names_in : Opening → List CoreEvent → ℕ → ℕ → List (List ℕ)
names_in o es cube dim = (dictionary_of o cube dim es).names

abbrev pub names_left : Opening → List CoreEvent → List (List (List (List ℕ)))
names_left o es = names_of_cubes (names_in o es) (desk_of o es).cubes

-- The rows with which a run opens, as rows of values by the names with which it opens.
abbrev pub rows_kept : Opening → List StoredRow
rows_kept o =
    flat_map (λ p. map (stored_for p.1.name (lists_at (names_left o []) p.0)) (o.rows p.0)) (enumerate_from 0 o.cubes)

-- The run on record.
abbrev pub record_of : Opening → RunScripts → List CoreEvent → RunRecord
record_of o given es = record {
  safe = o.safe;
  kept = rows_kept o;
  kept_names = names_left o [];
  cubes = o.cubes;
  scripts = given.scripts;
  file = given.file;
  round_every = given.round_every;
  names = names_left o es;
  journal = journal_of o es;
}
