-- Reading of a payload: which part of it is the first that breaks a rule.
use Rattle.std.specs.Prelude.{ℕ, ◌+◌, ◌-◌, ℤ, Bool, false, not, ◌&&◌, ◌==◌, nat_lt, nat_le, List, [], ◌∷◌, ◌++◌, length, map, take, drop, Option, Some, None, is_none, Result, Ok, Err, if◌then◌else◌}
use Rattle.std.specs.List.{list_any, zip}
use Rattle.std.specs.Str.{bytes_eq, is_utf8}
use Rattle.cube_values.specs.declared.entry.Entry.{Entry}
use Rattle.cube_values.specs.declared.entry.Entry.TheVariants.{Run, Mark}
use Rattle.cube_values.specs.declared.row.CodedRow.{CodedRow}
use Rattle.cube_values.specs.EpochsVector.{maker, with_rows_after, is_one_with}
use Rattle.cube_values.specs.Shapes.{bricks_of}
use Rattle.cube_language.specs.declared.decl.TheConstants.{MOST_CUBES}
use Rattle.cube_language.specs.declared.decl.DimDecl.{DimDecl}
use Rattle.cube_language.specs.declared.decl.Decl.{Decl}
use Rattle.cube_language.specs.Cubes.{sizes_of, repeated_after}
use Rattle.brick_address.specs.Addresses.{brick_of}
use Rattle.cube_rounds.specs.declared.round.RoundCube.{RoundCube}
use Rattle.cube_rounds.specs.Bricks.{BrickPart}
use Rattle.cube_rounds.specs.Demands.{DimNames, names_with, coord_limits, no_names, cube_names_of}
use Rattle.round_fields.specs.Reading.{◌>>=◌, ReadOf, with_test, step_of, list_with, repeat_step, each_step, byte_from, four_from, eight_from, signed_from, short_from}

-- A coordinate below its limit.
abbrev pub coord_from : ℕ → List ℕ → ReadOf ℕ
coord_from limit bytes = with_test (λ n. nat_lt n limit) four_from bytes

abbrev pub coord_step : ℕ → List ℕ → List ℕ → ReadOf (List ℕ)
coord_step limit coords bytes = step_of list_with (λ before. coord_from limit) coords bytes

-- A coordinate for each limit.
unfoldable pub coords_from : List ℕ → List ℕ → ReadOf (List ℕ)
coords_from limits bytes = each_step coord_step limits [] bytes

abbrev pub metric_step : List ℕ → List ℤ → List ℕ → ReadOf (List ℤ)
metric_step name metrics bytes = step_of list_with (λ before. signed_from) metrics bytes

-- A metric for each name.
unfoldable pub metrics_from : List (List ℕ) → List ℕ → ReadOf (List ℤ)
metrics_from names bytes = each_step metric_step names [] bytes

abbrev pub row_of_parts : List ℕ → List ℤ → CodedRow
row_of_parts coords metrics = record { coords = coords; metrics = metrics }

-- A row whose coordinates lie in the brick.
unfoldable pub row_from : Decl → List ℕ → ℕ → List ℕ → ReadOf CodedRow
row_from cube limits brick bytes = do
  coords ← with_test (λ coords. brick_of (sizes_of cube.dims) coords == brick) (coords_from limits) bytes
  metrics ← metrics_from cube.metrics coords.1
  Ok (row_of_parts coords.0 metrics.0, metrics.1)

abbrev pub row_step : Decl → List ℕ → ℕ → List CodedRow → List ℕ → ReadOf (List CodedRow)
row_step cube limits brick rows bytes = step_of list_with (λ before. row_from cube limits brick) rows bytes

-- At least one row behind the number of rows, put behind those before them.
unfoldable pub run_rows_from : Decl → List ℕ → ℕ → List CodedRow → List ℕ → ReadOf (List CodedRow)
run_rows_from cube limits brick rows bytes = do
  count ← with_test (nat_lt 0) eight_from bytes
  repeat_step (row_step cube limits brick) count.0 rows count.1

-- The rows that an entry appends.
abbrev pub appended_from : Decl → List ℕ → ℕ → Entry → List CodedRow → List ℕ → ReadOf (List CodedRow)
appended_from cube limits brick (Run epoch end) rows bytes = run_rows_from cube limits brick rows bytes
appended_from cube limits brick (Mark epoch at) rows bytes = Ok (rows, bytes)

-- The last of the entries is one with the next.
abbrev pub joins_last : List Entry → Entry → Bool
joins_last [] next = false
joins_last (last ∷ []) next = is_one_with last next
joins_last (first ∷ second ∷ entries) next = joins_last (second ∷ entries) next

-- An entry may come next: it is of an epoch of the round, and not one with the last.
abbrev pub may_come_next : ℕ → ℕ → List Entry → Entry → Bool
may_come_next from epoch entries next =
    nat_lt from (maker next) && (nat_le (maker next) epoch && not (joins_last entries next))

-- What the first byte of an entry and its epoch say, behind so many rows.
abbrev pub entry_of_kind : ℕ → ℕ → ℕ → Entry
entry_of_kind kind epoch rows = if kind == 0 then Run epoch rows else Mark epoch rows

-- The kind and the epoch of an entry.
unfoldable pub kind_from : ℕ → ℕ → List Entry → ℕ → List ℕ → ReadOf Entry
kind_from from epoch entries rows bytes = do
  kind ← with_test (λ kind. nat_lt kind 2) byte_from bytes
  made ← eight_from kind.1
  if may_come_next from epoch entries (entry_of_kind kind.0 made.0 rows)
      then Ok (entry_of_kind kind.0 made.0 rows, made.1)
      else Err (length bytes)

-- Entries, and the rows that they appended.
pub record EntriesAndRows : Type 0 where
  pub entries : List Entry
  pub rows : List CodedRow

abbrev pub brick_content : List Entry → List CodedRow → EntriesAndRows
brick_content entries rows = record { entries = entries; rows = rows }

-- An entry with its rows.
unfoldable pub entry_step : Decl → List ℕ → ℕ → ℕ → ℕ → EntriesAndRows → List ℕ → ReadOf EntriesAndRows
entry_step cube limits from epoch brick v bytes = do
  entry ← kind_from from epoch v.entries (length v.rows) bytes
  rows ← appended_from cube limits brick entry.0 v.rows entry.1
  Ok (brick_content (v.entries ++ with_rows_after entry.0 (length rows.0) ∷ []) rows.0, rows.1)

-- At least one entry behind the number of entries.
unfoldable pub entries_from : Decl → List ℕ → ℕ → ℕ → ℕ → List ℕ → ReadOf EntriesAndRows
entries_from cube limits from epoch brick bytes = do
  count ← with_test (nat_lt 0) eight_from bytes
  repeat_step (entry_step cube limits from epoch brick) count.0 (brick_content [] []) count.1

-- RisingBricks, and the least number that the next may have.
pub record RisingBricks : Type 0 where
  pub least : ℕ
  pub bricks : List BrickPart

abbrev pub rising_bricks : ℕ → List BrickPart → RisingBricks
rising_bricks least bricks = record { least = least; bricks = bricks }

-- RisingBricks with one more.
abbrev pub with_brick : RisingBricks → BrickPart → RisingBricks
with_brick b brick = rising_bricks (brick.brick + 1) (b.bricks ++ brick ∷ [])

-- A brick of these entries and rows.
abbrev pub brick_with : ℕ → EntriesAndRows → BrickPart
brick_with number v = record { brick = number; entries = v.entries; rows = v.rows }

-- A brick of the cube whose number is not below the least.
unfoldable pub brick_from : Decl → List ℕ → ℕ → ℕ → ℕ → List ℕ → ReadOf BrickPart
brick_from cube limits from epoch least bytes = do
  number ← with_test (λ n. nat_le least n && nat_lt n (bricks_of (sizes_of cube.dims))) eight_from bytes
  v ← entries_from cube limits from epoch number.0 number.1
  Ok (brick_with number.0 v.0, v.1)

abbrev pub brick_step : Decl → List ℕ → ℕ → ℕ → RisingBricks → List ℕ → ReadOf RisingBricks
brick_step cube limits from epoch b bytes =
    step_of with_brick (λ before. brick_from cube limits from epoch before.least) b bytes

-- So many bricks.
unfoldable pub bricks_counted : Decl → List ℕ → ℕ → ℕ → ℕ → List ℕ → ReadOf (List BrickPart)
bricks_counted cube limits from epoch count bytes = do
  b ← repeat_step (brick_step cube limits from epoch) count (rising_bricks 0 []) bytes
  Ok (b.0.bricks, b.1)

-- RisingBricks behind their number.
unfoldable pub bricks_from : Decl → List ℕ → ℕ → ℕ → List ℕ → ReadOf (List BrickPart)
bricks_from cube limits from epoch bytes = do
  count ← eight_from bytes
  bricks_counted cube limits from epoch count.0 count.1

-- A name is in UTF-8 and none of these.
abbrev pub is_new_name : List (List ℕ) → List ℕ → Bool
is_new_name names name = is_utf8 name && not (list_any (bytes_eq name) names)

-- A name that differs from all before it.
abbrev pub name_from : List (List ℕ) → List ℕ → ReadOf (List ℕ)
name_from names bytes = with_test (is_new_name names) short_from bytes

abbrev pub name_step : List (List ℕ) → List (List ℕ) → List ℕ → ReadOf (List (List ℕ))
name_step earlier names bytes = step_of list_with (λ before. name_from (earlier ++ before)) names bytes

-- New names of a dimension of texts, no more of them than there is room for.
unfoldable pub names_from : ℕ → List (List ℕ) → List ℕ → ReadOf (List (List ℕ))
names_from cardinality earlier bytes = do
  count ← with_test (λ n. nat_le (length earlier + n) cardinality) eight_from bytes
  repeat_step (name_step earlier) count.0 [] count.1

-- The new names of a dimension; one of numbers has none.
abbrev pub dim_names_from : DimDecl × List (List ℕ) → List ℕ → ReadOf (List (List ℕ))
dim_names_from d bytes = if d.0.text then names_from d.0.cardinality d.1 bytes else Ok ([], bytes)

abbrev pub dim_step : DimDecl × List (List ℕ) → DimNames → List ℕ → ReadOf DimNames
dim_step d lists bytes = step_of list_with (λ before. dim_names_from d) lists bytes

-- Names and bricks of a cube.
abbrev pub round_cube : DimNames → List BrickPart → RoundCube
round_cube names bricks = record { names = names; bricks = bricks }

-- What the round has of a cube with its names.
unfoldable pub cube_from : ℕ → ℕ → Decl × DimNames → List ℕ → ReadOf RoundCube
cube_from from epoch c bytes = do
  names ← each_step dim_step (zip c.0.dims c.1) [] bytes
  bricks ← bricks_from c.0 (coord_limits c.0 (names_with c.1 names.0)) from epoch names.1
  Ok (round_cube names.0 bricks.0, bricks.1)

abbrev pub cube_step : ℕ → ℕ → Decl × DimNames → List RoundCube → List ℕ → ReadOf (List RoundCube)
cube_step from epoch c cubes bytes = step_of list_with (λ before. cube_from from epoch c) cubes bytes

-- Cubes are so many, and none has the name of a cube before it.
abbrev pub may_be_new : List Decl → ℕ → List Decl → Bool
may_be_new before count made =
    length made == count && is_none (repeated_after (cube_names_of before) (cube_names_of made))

-- The cubes that a text tells, where they are right.
abbrev pub made_or : List Decl → ℕ → Option (List Decl) → ℕ → List ℕ → ReadOf (List Decl)
made_or before count None left rest = Err left
made_or before count (Some made) left rest = if may_be_new before count made then Ok (made, rest) else Err left

-- The new cubes by their text behind its size, which breaks a rule at its first byte.
abbrev pub made_of_size : (List ℕ → Option (List Decl)) → List Decl → ℕ → ℕ × List ℕ → ReadOf (List Decl)
made_of_size told before count size =
    if nat_lt (length size.1) size.0
    then Err (length size.1)
    else made_or before count (told (take size.0 size.1)) (length size.1) (drop size.0 size.1)

-- So many new cubes by their text; nothing where there are none.
unfoldable pub made_from : (List ℕ → Option (List Decl)) → List Decl → ℕ → List ℕ → ReadOf (List Decl)
made_from told before count bytes =
    if count == 0 then Ok ([], bytes) else (eight_from bytes >>= made_of_size told before count)

-- New cubes, and what the round has of each cube.
pub record PayloadContent : Type 0 where
  pub made : List Decl
  pub cubes : List RoundCube

abbrev pub payload_content : List Decl → List RoundCube → PayloadContent
payload_content made cubes = record { made = made; cubes = cubes }

-- A payload of a round from one epoch up to another, behind these cubes and names, and nothing more.
unfoldable pub payload_from : (List ℕ → Option (List Decl)) → List Decl → List DimNames → ℕ → ℕ → List ℕ
    → Result PayloadContent ℕ
payload_from told before names from epoch bytes = do
  count ← with_test (λ n. nat_le (length before) n && nat_le n MOST_CUBES) eight_from bytes
  made ← made_from told before (count.0 - length before) count.1
  old ← each_step (cube_step from epoch) (zip before names) [] made.1
  cubes ← each_step (cube_step from epoch) (zip made.0 (map no_names made.0)) old.0 old.1
  if length cubes.1 == 0 then Ok (payload_content made.0 cubes.0) else Err (length cubes.1)
