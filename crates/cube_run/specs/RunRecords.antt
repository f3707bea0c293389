-- What is on record of a run but for its text: what it began with, what its sessions asked, what their files gave, the
-- dictionaries that it left, and its journal.
-- Source: this project's own.
use Rattle.std.specs.Prelude.{ℕ, ◌-◌, List, [], ◌++◌, Option, Some, None, Result, find, slice_get, filter_map, map, unwrap_or}
use Rattle.std.specs.List.{position_from}
use Rattle.std.specs.Option.{option_and_then}
use Rattle.std.specs.Str.{bytes_eq}
use Rattle.cube_values.specs.declared.row.Row.{Row}
use Rattle.cube_values.specs.declared.row.StoredRow.{StoredRow}
use Rattle.cube_language.specs.declared.bad_row.BadRow.{BadRow}
use Rattle.cube_language.specs.declared.decl.Decl.{Decl}
use Rattle.cube_language.specs.declared.statement.Statement.{Statement}
use Rattle.cube_language.specs.declared.statement.Statement.TheVariants.{Select, Insert, Load, Delete, CreateCube, Watch}
use Rattle.cube_language.specs.Grammar.{Spells}
use Rattle.cube_language.specs.Syntax.{IsSyntaxFault}
use Rattle.cube_journal.specs.declared.journal_entry.JournalEntry.{JournalEntry}
use Rattle.cube_journal.specs.declared.journal_entry.JournalEntry.TheVariants as entry
use Rattle.cube_journal.specs.Entries.{session_of, statement_of}
use Rattle.cube_journal.specs.Legal.{IsLegal}

-- What the text of a statement says: the statement that it spells, or the place that shows that it spells none.
pub data Sentence : Type 0 where
  Says : Statement → Sentence
  SaysNone : ℕ → Sentence

-- A text says so.
abbrev pub IsSaidBy : List ℕ → Sentence → Type 0
IsSaidBy text (Says s) = Spells text s
IsSaidBy text (SaysNone at) = IsSyntaxFault text at

-- What the file of a LOAD gives: nothing; a size that is too large; or its records, each of which is for a cube a row,
-- or bad for the first reason but that of a full dictionary.
pub data LoadedFile : Type 0 where
  Missing : LoadedFile
  TooLarge : ℕ → LoadedFile
  Records : (Decl → List (Result Row BadRow)) → LoadedFile

-- A run begins with what its store keeps, if it has one: a safe epoch, the rows up to it, and for each cube and
-- dimension the names; and with cubes. Each session has a script. Each LOAD, by session and statement, has a file.
-- After so many commits of a session a round follows (0: after none). For each cube and dimension there is the
-- dictionary in the end.
pub record RunRecord : Type 0 where
  pub safe : ℕ
  pub kept : List StoredRow
  pub kept_names : List (List (List (List ℕ)))
  pub cubes : List Decl
  pub scripts : List (List Sentence)
  pub file : ℕ → ℕ → LoadedFile
  pub round_every : ℕ
  pub names : List (List (List (List ℕ)))
  pub journal : List JournalEntry

-- The script of a session, counted from 1.
abbrev pub script_of : RunRecord → ℕ → List Sentence
script_of run session = unwrap_or (slice_get run.scripts (session - 1)) []

abbrev pub statement_said : Sentence → Option Statement
statement_said (Says s) = Some s
statement_said (SaysNone at) = None

-- The statement of a session by its number, counted from 1, if its text spells one.
abbrev pub statement_at : RunRecord → ℕ → ℕ → Option Statement
statement_at run session statement =
    option_and_then statement_said (slice_get (script_of run session) (statement - 1))

-- The statement that an entry belongs to.
abbrev pub statement_of_entry : RunRecord → JournalEntry → Option Statement
statement_of_entry run e =
    option_and_then (λ i. option_and_then (λ j. statement_at run i j) (statement_of e)) (session_of e)

abbrev pub declaration_in : Statement → Option Decl
declaration_in (CreateCube d) = Some d
declaration_in s = None

-- The cube that an entry makes, as its statement declares it.
abbrev pub made_by : RunRecord → JournalEntry → Option Decl
made_by run (entry.Cube session statement epoch) =
    option_and_then declaration_in (statement_at run session statement)
made_by run _ = None

-- The cubes after some entries: those of the beginning, and those that were made.
abbrev pub cubes_at : RunRecord → List JournalEntry → List Decl
cubes_at run journal = run.cubes ++ filter_map (made_by run) journal

-- The cube of a name.
abbrev pub cube_called : List Decl → List ℕ → Option Decl
cube_called cubes name = find (λ d. bytes_eq d.name name) cubes

-- The cubes in the end, with their dictionaries.
pub record Catalog : Type 0 where
  pub cubes : List Decl
  pub names : List (List (List (List ℕ)))

abbrev pub catalog_of : RunRecord → Catalog
catalog_of run = record { cubes = cubes_at run run.journal; names = run.names }

-- The declaration of the cube of a name. No statement that is done asks for one that is not there; it has no columns.
abbrev pub declaration_of : Catalog → List ℕ → Decl
declaration_of catalog name =
    unwrap_or (cube_called catalog.cubes name) (record { name = name; dims = []; metrics = [] })

-- The dictionaries of the cube of a name, one for each dimension; those that are not there are empty.
abbrev pub names_of_cube : Catalog → List ℕ → List (List (List ℕ))
names_of_cube catalog name =
    unwrap_or (option_and_then (slice_get catalog.names) (position_from (λ d. bytes_eq d.name name) 0 catalog.cubes)) []

-- The cube that a statement needs: it reads, changes or watches that cube.
abbrev pub cube_needed : Statement → Option (List ℕ)
cube_needed (Select items cube conds group having order limit) = Some cube
cube_needed (Insert cube rows) = Some cube
cube_needed (Load cube path reject) = Some cube
cube_needed (Delete cube conds) = Some cube
cube_needed (Watch items cube conds group) = Some cube
cube_needed s = None

-- The name of the cube that a statement needs or makes; no name where it does neither.
abbrev pub name_spoken_of : Statement → List ℕ
name_spoken_of (CreateCube d) = d.name
name_spoken_of s = unwrap_or (cube_needed s) []

abbrev pub name_of_entry : RunRecord → JournalEntry → List ℕ
name_of_entry run e = unwrap_or (option_and_then (λ s. Some (name_spoken_of s)) (statement_of_entry run e)) []

-- The journal is legal, by the names of the scripts.
abbrev pub IsLegalRun : RunRecord → Type 0
IsLegalRun run =
    IsLegal run.safe (map (λ d. d.name) run.cubes) (map (name_of_entry run) run.journal) run.journal
