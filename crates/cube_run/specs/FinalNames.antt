-- Which dictionaries a run may end with: the kept names stand first, each further text was offered, and each text that
-- rows have is there.
-- Source: Cubrick (VLDB 2016), dictionaries of dimensions; who offers a text is this project's own.
use Rattle.std.specs.Prelude.{◌≡◌, ◌⊎◌, ℕ, ◌≤◌, List, [], length, take, drop, Option, Some, None, Result, Ok, Contains, All, slice_get, unwrap_or}
use Rattle.std.specs.Option.{option_and_then}
use Rattle.cube_values.specs.declared.row.Row.{Row}
use Rattle.cube_values.specs.declared.row.StoredRow.{StoredRow}
use Rattle.cube_values.specs.declared.value.Value.{Value}
use Rattle.cube_values.specs.declared.value.Value.TheVariants.{Text}
use Rattle.cube_values.specs.Visible.{rows_put}
use Rattle.cube_language.specs.declared.bad_row.BadRow.{BadRow}
use Rattle.cube_language.specs.declared.bad_row.TheConstants.{TEXT_BYTES}
use Rattle.cube_language.specs.declared.decl.Decl.{Decl}
use Rattle.cube_language.specs.declared.decl.DimDecl.{DimDecl}
use Rattle.cube_language.specs.declared.statement.Cond.{Cond}
use Rattle.cube_language.specs.declared.statement.Cond.TheVariants.{Equal, In}
use Rattle.cube_language.specs.declared.statement.Statement.{Statement}
use Rattle.cube_language.specs.declared.statement.Statement.TheVariants.{Insert, Load, Delete}
use Rattle.cube_language.specs.Cubes.{first_repeated}
use Rattle.cube_run.specs.LoadedRows.{load_records}
use Rattle.cube_run.specs.StepOutcomes.{MeetsAtBinding}
use Rattle.cube_run.specs.RunRecords.{RunRecord, Says, Records, catalog_of}
use Rattle.cube_run.specs.RunTransactions.{DoneOperation, epoch_done, operation_done}
use Rattle.cube_run.specs.SessionSteps.{SessionStep, all_steps}

-- The names of a dimension of a cube, by their places.
abbrev pub names_at : List (List (List (List ℕ))) → ℕ → ℕ → List (List ℕ)
names_at lists cube place = unwrap_or (option_and_then (λ dims. slice_get dims place) (slice_get lists cube)) []

-- A dimension of one of the cubes in the end, by the places of both.
pub record HasDimension (run : RunRecord) (cube place : ℕ) (d : Decl) (dim : DimDecl) : Type 0 where
  pub cube_is : slice_get (catalog_of run).cubes cube ≡ Some d
  pub dim_is : slice_get d.dims place ≡ Some dim

-- A dictionary of a dimension: distinct short texts, no more than it has coordinates, those that were kept first.
pub record IsDictionary (dim : DimDecl) (kept names : List (List ℕ)) : Type 0 where
  pub distinct : first_repeated names ≡ None
  pub short : All (λ name. length name ≤ TEXT_BYTES) names
  pub few : length names ≤ dim.cardinality
  pub first : take (length kept) names ≡ kept

-- A statement of the run says this and meets no refusal up to its binding.
pub record IsBound (run : RunRecord) (step : SessionStep) (s : Statement) : Type 0 where
  pub is_step : Contains (all_steps run) step
  pub says : step.sentence ≡ Says s
  pub bound : MeetsAtBinding (catalog_of run) step None

-- A condition on the column of a name compares with a text.
abbrev pub Compares : List ℕ → List ℕ → Cond → Type 0
Compares name text (Equal column wanted) = (column ≡ name) × (wanted ≡ Text text)
Compares name text (In column wanted) = (column ≡ name) × Contains wanted (Text text)
Compares name text cond = ⊥

-- A record of a file is a row but for the dictionaries, and a LOAD looks at it.
pub record LooksAt (run : RunRecord) (step : SessionStep) (d : Decl) (reject : ℕ) (row : Row) : Type 0 where
  pub records : Decl → List (Result Row BadRow)
  pub file : step.file ≡ Records records
  pub looked : Contains
      (take (length (load_records (catalog_of run) d.name reject step.file)) (records d)) (Ok row)

-- A text is offered to the dictionary of a dimension of a cube, at a place.
pub data Offers (run : RunRecord) (d : Decl) (dim : DimDecl) (place : ℕ) (text : List ℕ) : Type 0 where
  -- by a row of an INSERT
  by_insert : (step : SessionStep) (rows : List (List Value)) (values : List Value)
      → IsBound run step (Insert d.name rows) → Contains rows values → slice_get values place ≡ Some (Text text)
      → Offers run d dim place text
  -- by a record of a LOAD
  by_load : (step : SessionStep) (path : List ℕ) (reject : ℕ) (row : Row)
      → IsBound run step (Load d.name path reject) → LooksAt run step d reject row
      → slice_get row.dims place ≡ Some (Text text) → Offers run d dim place text
  -- by a condition of a DELETE, since rows of a lower epoch may still bring the text
  by_delete : (step : SessionStep) (conds : List Cond) (cond : Cond)
      → IsBound run step (Delete d.name conds) → Contains conds cond → Compares dim.name text cond
      → length text ≤ TEXT_BYTES → Offers run d dim place text

-- The text of a row at the place of a dimension stands in its dictionary.
abbrev pub HasItsName : List ℕ → ℕ → List (List ℕ) → StoredRow → Type 0
HasItsName cube place names stored =
    (text : List ℕ) → stored.cube ≡ cube → slice_get stored.row.dims place ≡ Some (Text text) → Contains names text

-- What a statement that was done has put, row by row.
abbrev pub PutsNamed : List ℕ → ℕ → List (List ℕ) → Option DoneOperation → Type 0
PutsNamed cube place names None = Unit {0}
PutsNamed cube place names (Some done) = All (HasItsName cube place names) (rows_put done.operation)

-- A DELETE that was done: a short text that it compares the dimension with stands in the dictionary, or that is full.
pub record DropsNamed (dim : DimDecl) (cube : List ℕ) (names : List (List ℕ)) (step : SessionStep) : Type 0 where
  pub each : (conds : List Cond) (cond : Cond) (text : List ℕ) (epoch : ℕ) → step.sentence ≡ Says (Delete cube conds)
      → epoch_done step.state.mode step.entries ≡ Some epoch → Contains conds cond → Compares dim.name text cond
      → length text ≤ TEXT_BYTES → Contains names text ⊎ (dim.cardinality ≤ length names)

-- The dictionary of a dimension fits the run.
pub record NamesFit (run : RunRecord) (d : Decl) (dim : DimDecl) (place : ℕ) (kept names : List (List ℕ)) : Type 0 where
  pub dictionary : IsDictionary dim kept names
  pub offered : All (Offers run d dim place) (drop (length kept) names)
  pub kept_rows : All (HasItsName d.name place names) run.kept
  pub stored_rows : All (λ step. PutsNamed d.name place names (operation_done (catalog_of run) step)) (all_steps run)
  pub deletions : All (DropsNamed dim d.name names) (all_steps run)

-- The dictionaries fit the run: each of them does.
abbrev pub FinalNamesFit : RunRecord → Type 0
FinalNamesFit run =
    (cube place : ℕ) (d : Decl) (dim : DimDecl) → HasDimension run cube place d dim
    → NamesFit run d dim place (names_at run.kept_names cube place) (names_at run.names cube place)
