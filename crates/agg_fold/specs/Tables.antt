-- The groups of a partial by what their keys stand for, and the lines of a table.
use Rattle.std.specs.Prelude.{◌≡◌, ◌≢◌, ℕ, ◌+◌, ◌<◌, ◌≤◌, ◌==◌, ◌⊎◌, ℤ, List, [], ◌∷◌, length, map, All, take, drop, unwrap_or, slice_get, if◌then◌else◌}
use Rattle.std.specs.List.{flat_map, IsDistinct}
use Rattle.std.specs.Str.{bytes_eq}
use Rattle.cube_values.specs.declared.query.BoundQuery.{BoundQuery}
use Rattle.cube_values.specs.declared.row.CodedRow.{CodedRow}
use Rattle.cube_values.specs.declared.table.Field.{Field}
use Rattle.cube_values.specs.declared.value.Value.{Value}
use Rattle.cube_values.specs.Answer.{item_of, rows_of_key}
use Rattle.cube_values.specs.Values.{values_cmp, values_eq}
use Rattle.std.specs.Ordering.{is_lt}
use Rattle.std.specs.List.{AllByRecursion}
use Rattle.std.specs.Prelude.{false}
use Rattle.agg_fold.specs.declared.finish.Named.{Named}
use Rattle.agg_fold.specs.declared.groups.Groups.{Groups}
use Rattle.agg_fold.specs.Tallies.{tally_of}
use Rattle.agg_fold.specs.Coded.{coded_key, metrics_with, row_for}
use Rattle.agg_fold.specs.Lines.{decoded_key, field_for}
use Rattle.agg_fold.specs.Standing.{StandsFor}

-- The groups that have rows, from a place on.
abbrev pub named_from : List (List (List ℕ)) → List ℕ → ℕ → List (List ℕ) → List ℕ → List Named
named_from lists group place [] counts = []
named_from lists group place (key ∷ keys) [] = []
named_from lists group place (key ∷ keys) (count ∷ counts) =
    if count == 0 then named_from lists group (place + 1) keys counts
    else record { values = decoded_key lists group key; place = place } ∷ named_from lists group (place + 1) keys counts

-- The groups that have rows.
abbrev pub groups_named : List (List (List ℕ)) → BoundQuery → Groups → List Named
groups_named lists query groups = named_from lists query.group 0 groups.keys groups.counts.items

-- The key of a group.
abbrev pub key_at : List (List ℕ) → Named → List ℕ
key_at keys named = unwrap_or (slice_get keys named.place) []

-- The values of the groups.
abbrev pub values_of : List Named → List (List Value)
values_of named = map (λ n. n.values) named

-- No list of values comes before an earlier one.
abbrev pub AreSorted : List (List Value) → Type 0
AreSorted [] = Unit {0}
AreSorted (v ∷ values) = AllByRecursion (λ w. is_lt (values_cmp w v) ≡ false) values × AreSorted values

-- It is one of these.
abbrev pub IsIn : {X : Type 0} → X → List X → Type 0
IsIn x [] = ⊥
IsIn x (y ∷ ys) = (x ≡ y) ⊎ IsIn x ys

-- What the key of a row stands for.
abbrev pub values_at : List (List (List ℕ)) → List ℕ → CodedRow → List Value
values_at lists group row = decoded_key lists group (coded_key group row.coords)

-- The group of a row is one of these, or none of them has the values of the row.
abbrev pub IsCovered : List (List (List ℕ)) → BoundQuery → List (List ℕ) → List Named → CodedRow → Type 0
IsCovered lists query keys named row =
    IsIn (coded_key query.group row.coords) (map (key_at keys) named)
    ⊎ AllByRecursion (λ v. v ≢ values_at lists query.group row) (values_of named)

-- These are groups of rows, sorted by what their keys stand for. Of each row the group is one of them, or
-- no group with the values of the row is.
pub record AreNamed (lists : List (List (List ℕ))) (query : BoundQuery) (rows : List CodedRow)
    (groups : Groups) (named : List Named) : Type 0 where
  pub within : All (λ n. n.place < length groups.keys) named
  pub some : All (λ n. 0 < unwrap_or (slice_get groups.counts.items n.place) 0) named
  pub values : All (λ n. n.values ≡ decoded_key lists query.group (key_at groups.keys n)) named
  pub once : IsDistinct bytes_eq (map (key_at groups.keys) named)
  pub all : All (IsCovered lists query groups.keys named) rows
  pub sorted : AreSorted (values_of named)

-- The last of each run of equal lists of values.
abbrev pub distinct_values : List (List Value) → List (List Value)
distinct_values [] = []
distinct_values (v ∷ []) = v ∷ []
distinct_values (v ∷ w ∷ values) =
    if values_eq v w then distinct_values (w ∷ values) else v ∷ distinct_values (w ∷ values)

-- The line of a key.
abbrev pub line_of : List (List (List ℕ)) → BoundQuery → List CodedRow → List Value → List Field
line_of lists query rows values = map (item_of (rows_of_key query.group (map (row_for lists) rows) values)) query.items

-- The lines of groups.
abbrev pub table_lines : List (List (List ℕ)) → BoundQuery → List CodedRow → List Named → List (List Field)
table_lines lists query rows named = map (line_of lists query rows) (distinct_values (values_of named))

-- The metrics of the rows of a run.
abbrev pub run_metrics : List ℕ → List CodedRow → List (List ℕ) → List Named → List (List ℤ)
run_metrics group rows keys run = flat_map (λ n. metrics_with group rows (key_at keys n)) run

-- The line of rows of one key by their tallies.
abbrev pub line_of_tallies : BoundQuery → List Value → List (List ℤ) → List Field
line_of_tallies query values metrics =
    map (λ item. field_for query.group values (length metrics) item (tally_of metrics item)) query.items

-- The groups stand for some rows, of which these groups are.
abbrev pub HasNamed : List (List (List ℕ)) → BoundQuery → Groups → List Named → Type 0
HasNamed lists query groups named =
    (rows : List CodedRow) × StandsFor query rows groups × AreNamed lists query rows groups named

-- These lines are those of the groups, for any rows of which these groups are.
abbrev pub AreTableLines : List (List (List ℕ)) → BoundQuery → Groups → List Named → List (List Field) → Type 0
AreTableLines lists query groups named lines =
    (rows : List CodedRow) → StandsFor query rows groups → AreNamed lists query rows groups named
    → lines ≡ table_lines lists query rows named

-- Groups stand for rows, and those of a run have some of them.
pub record HasRun (query : BoundQuery) (rows : List CodedRow) (groups : Groups) (run : List Named) : Type 0 where
  pub stands : StandsFor query rows groups
  pub within : All (λ n. n.place < length groups.keys) run
  pub some : All (λ n. 0 < unwrap_or (slice_get groups.counts.items n.place) 0) run
  pub few : length (run_metrics query.group rows groups.keys run) ≤ length rows

-- This is the line of a run, for any rows that groups stand for.
abbrev pub IsRunLine : BoundQuery → Groups → List Value → List Named → List Field → Type 0
IsRunLine query groups values run line =
    (rows : List CodedRow) → StandsFor query rows groups
    → line ≡ line_of_tallies query values (run_metrics query.group rows groups.keys run)

-- The first of these, where there is one, has other values.
abbrev pub BeginOtherwise : List Value → List Named → Type 0
BeginOtherwise values [] = Unit {0}
BeginOtherwise values (n ∷ named) = n.values ≢ values

-- So many groups in front have these values, and the next one has others.
pub record IsRun (values : List Value) (named : List Named) (n : ℕ) : Type 0 where
  pub within : n ≤ length named
  pub same : All (λ m. m.values ≡ values) (take n named)
  pub ended : BeginOtherwise values (drop n named)
