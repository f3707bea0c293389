-- The changes of a session's rows by coordinates, and the operations that they stand for.
-- Source: AOSI (ICDE 2018), appends and deletions by epoch; Cubrick (VLDB 2016), rows by coordinates.
use Rattle.std.specs.Prelude.{◌≡◌, ℕ, ◌≤◌, Bool, true, false, not, ◌&&◌, ◌||◌, ◌==◌, List, [], ◌∷◌, ◌++◌, map, filter, fold, slice_get, Some, if◌then◌else◌}
use Rattle.std.specs.List.{AllByRecursion, AllZip, list_any}
use Rattle.std.specs.Str.{bytes_eq}
use Rattle.cube_values.specs.Sees.{sees}
use Rattle.cube_values.specs.Spans.{span_has}
use Rattle.cube_values.specs.declared.operation.Operation.{Operation}
use Rattle.cube_values.specs.declared.operation.Operation.TheVariants.{Put, Drop}
use Rattle.cube_values.specs.declared.query.BoundQuery.{BoundQuery}
use Rattle.cube_values.specs.declared.row.CodedRow.{CodedRow}
use Rattle.cube_values.specs.declared.row.StoredRow.{StoredRow}
use Rattle.cube_values.specs.declared.snapshot.Snapshot.{Snapshot}
use Rattle.cube_values.specs.declared.span.Span.{Span}
use Rattle.cube_language.specs.Misfits.{FitsCube}
use Rattle.cube_language.specs.declared.decl.Decl.{Decl}
use Rattle.cube_language.specs.declared.statement.Statement.{Statement}
use Rattle.cube_journal.specs.declared.journal_entry.JournalEntry.{JournalEntry}
use Rattle.cube_journal.specs.declared.journal_entry.JournalEntry.TheVariants as entry
use Rattle.cube_run.specs.RunRecords.{Catalog, RunRecord}
use Rattle.cube_run.specs.RunTransactions.{DoneOperation, is_commit_of}
use Rattle.cube_run.specs.SessionSteps.{session_part}
use Rattle.condition_spans.specs.Codes.{lists_at}
use Rattle.query_plan.specs.Ties.{AreDistinct, StandForValues, TakesRegion, stored_for}
use Rattle.query_plan.specs.Bindings.{IsQueryOn}
use Rattle.one_session.specs.Behind.{cubes_behind}
use Rattle.one_session.specs.Pasts.{Beginning, SessionPast}

-- ---- which operations count

abbrev pub is_begin_of : ℕ → JournalEntry → Bool
is_begin_of epoch (entry.Begin session statement begun deps) = begun == epoch
is_begin_of epoch _ = false

-- From one epoch over those of operations to another no number is below the one before it.
abbrev pub EpochsNeverFall : ℕ → List DoneOperation → ℕ → Type 0
EpochsNeverFall low [] high = low ≤ high
EpochsNeverFall low (o ∷ done) high = (low ≤ o.epoch) × EpochsNeverFall o.epoch done high

-- Operations stand in the order of their epochs, up to one; each of these was begun behind.
pub record AreInEpochOrder (past : SessionPast) (done : List DoneOperation) (high : ℕ) : Type 0 where
  pub epochs : EpochsNeverFall 0 done high
  pub begun : AllByRecursion (λ o. list_any (is_begin_of o.epoch) (session_part 1 past.journal) ≡ true) done

-- An operation counts for a snapshot where it is the snapshot's own, or is committed behind and seen.
abbrev pub operation_counts : SessionPast → Snapshot → DoneOperation → Bool
operation_counts past s o =
    (s.own && (o.epoch == s.epoch))
    || (sees s o.epoch && list_any (is_commit_of o.epoch) (session_part 1 past.journal))

-- ---- changes by coordinates

-- Rows that come to a cube, or a span of it whose rows go.
pub data CodedChange : Type 0 where
  Come : List CodedRow → CodedChange
  Go : Span → CodedChange

-- A change of the cube at a place.
pub record ChangeAt : Type 0 where
  pub cube : ℕ
  pub change : CodedChange

-- The rows of a cube after a change of it.
abbrev pub rows_changed : List CodedRow → CodedChange → List CodedRow
rows_changed rows (Come new) = rows ++ new
rows_changed rows (Go span) = filter (λ row. not (span_has span row.coords)) rows

abbrev pub rows_with_change : ℕ → List CodedRow → ChangeAt → List CodedRow
rows_with_change cube rows c = if c.cube == cube then rows_changed rows c.change else rows

-- The rows of the cube at a place, from these on, after changes in their order.
abbrev pub rows_with_changes : ℕ → List CodedRow → List ChangeAt → List CodedRow
rows_with_changes cube rows changes = fold (rows_with_change cube) rows changes

-- ---- what they stand for

-- Each of these rows by coordinates stands for a row of values.
abbrev pub AllStandForValues : Decl → List (List (List ℕ)) → List CodedRow → Type 0
AllStandForValues d lists rows = AllByRecursion (λ row. StandForValues d lists row.coords) rows

-- Rows come that stand for all that are put.
pub record ComeFor (d : Decl) (lists : List (List (List ℕ))) (rows : List CodedRow) (stored : List StoredRow)
    : Type 0 where
  pub are : stored ≡ map (stored_for d.name lists) rows
  pub each : AllStandForValues d lists rows

-- A change of a cube stands for an operation on it, by the texts of each of its dimensions.
abbrev pub ChangesFor : Decl → List (List (List ℕ)) → CodedChange → Operation → Type 0
ChangesFor d lists (Come rows) (Put stored) = ComeFor d lists rows stored
ChangesFor d lists (Go span) (Drop region) = TakesRegion d lists region span × (region.cube ≡ d.name)
ChangesFor d lists change operation = ⊥

-- It does so by the cubes and dictionaries in the end.
pub record StandsForDone (catalog : Catalog) (c : ChangeAt) (o : DoneOperation) : Type 0 where
  pub decl : Decl
  pub cube_is : slice_get catalog.cubes c.cube ≡ Some decl
  pub stands : ChangesFor decl (lists_at catalog.names c.cube) c.change o.operation

-- No two cubes have one name.
abbrev pub AreNamedApart : List Decl → Type 0
AreNamedApart cubes =
    (a b : ℕ) (d e : Decl) → slice_get cubes a ≡ Some d → slice_get cubes b ≡ Some e → d.name ≡ e.name → a ≡ b

-- The rows among others that are a cube's.
abbrev pub rows_in_cube : List ℕ → List StoredRow → List StoredRow
rows_in_cube cube rows = filter (λ row. bytes_eq row.cube cube) rows

-- The cubes that are there, with the dictionaries that a run ends with.
abbrev pub catalog_behind : Beginning → SessionPast → RunRecord → Catalog
catalog_behind beginning past run = record { cubes = cubes_behind beginning past; names = run.names }

-- A statement's query is bound to its cube by the names so far, and read from rows by coordinates that stand for the
-- kept ones, and from changes that stand for operations.
pub record IsReadBy (beginning : Beginning) (past : SessionPast) (run : RunRecord) (d : Decl) (s : Statement)
    (query : BoundQuery) (kept_rows : List CodedRow) (changed : List ChangeAt) (done : List DoneOperation)
    : Type 0 where
  pub apart : AreNamedApart (cubes_behind beginning past)
  pub cube_is : slice_get (cubes_behind beginning past) query.cube ≡ Some d
  pub fits : FitsCube d s
  pub distinct : AreDistinct (lists_at past.names query.cube)
  pub bound : IsQueryOn d past.names s query
  pub kept : ComeFor d (lists_at run.names query.cube) kept_rows (rows_in_cube d.name beginning.kept)
  pub changes : AllZip (StandsForDone (catalog_behind beginning past run)) changed done
  pub now : AllStandForValues d (lists_at past.names query.cube) (rows_with_changes query.cube kept_rows changed)
