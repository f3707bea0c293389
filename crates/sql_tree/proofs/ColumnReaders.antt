-- The readers of the columns of a CREATE CUBE.
use Rattle.std.proofs.Common.{◌≡◌, ℕ, ◌+◌, ◌<◌, Bool, List, [], ◌∷◌, ◌++◌, length, map, pos, refl, ap, arith}
use Rattle.std.specs.List.{AllByRecursion, filter_map}
use Rattle.std.proofs.lemmas.List.{length-append}
use Rattle.cube_language.specs.declared.decl.Column.{Column}
use Rattle.cube_language.specs.declared.decl.Column.TheVariants as column
use Rattle.cube_language.specs.declared.decl.DimDecl.{DimDecl}
use Rattle.cube_language.specs.declared.keyword.Keyword.TheVariants as keyword
use Rattle.cube_language.specs.Columns.{columns_of, column_dim, column_metric, decl_of}
use Rattle.cube_language.specs.Grammar.{name_form, number_form, kind_keyword, column_form, IsProperColumn}
use Rattle.cube_language.specs.declared.symbol.Symbol.{Symbol}
use Rattle.cube_language.specs.declared.symbol.Symbol.TheVariants.{Keyword, Word, Number}
use Rattle.sql_tree.specs.declared.head.ColumnHead.{ColumnHead}
use Rattle.sql_tree.specs.declared.head.ColumnHead.TheVariants as column_head
use Rattle.sql_tree.specs.Reading.{read_first, kind_in, column_head_in, read_name, read_size, column_behind, read_column}
use Rattle.sql_tree.proofs.Readers.{given, IsReader, Always, Formed, IsMade, IsLed, sequence, reader_as, made_reader, led_reader}
use Rattle.sql_tree.proofs.SymbolReaders.{Any, IsName, IsSize, column_keyword, name_reader, size_reader, kind_reader, column_head_reader}

-- ---- one column

abbrev dim_of : List ℕ → Bool → ℕ → ℕ → Column
dim_of name text cardinality range = column.Dim (record { name = name; text = text; cardinality = cardinality; range = range })

abbrev size_symbol : ℕ → Symbol
size_symbol n = Number (pos n)

abbrev kind_symbol : Bool → Symbol
kind_symbol text = Keyword (kind_keyword text)

abbrev BehindCardinality : List ℕ → Bool → ℕ → Column → List Symbol → Type 0
BehindCardinality name text cardinality = IsMade (Formed IsSize (λ n. size_symbol n ∷ [])) (dim_of name text cardinality)

abbrev BehindKind : List ℕ → Bool → Column → List Symbol → Type 0
BehindKind name text = IsLed IsSize size_symbol (BehindCardinality name text)

abbrev BehindName : List ℕ → Column → List Symbol → Type 0
BehindName name = IsLed Any kind_symbol (BehindKind name)

-- What comes behind the first word of a column.
abbrev BehindHead : ColumnHead → Column → List Symbol → Type 0
BehindHead column_head.Dim = IsLed IsName Word BehindName
BehindHead column_head.Metric = IsMade (Formed IsName name_form) column.Metric

column_behind_reader : (h : ColumnHead) → IsReader (column_behind h) (BehindHead h) Always
column_behind_reader column_head.Dim =
    let range = λ (name : List ℕ) (text : Bool) (cardinality : ℕ). sequence read_size (λ n. given (dim_of name text cardinality n)) in
    let sizes = λ (name : List ℕ) (text : Bool). sequence read_size (range name text) in
    led_reader read_name (λ name. sequence (read_first kind_in) (sizes name)) IsName Word BehindName Always name_reader
    (λ name. led_reader (read_first kind_in) (sizes name) Any kind_symbol (BehindKind name) Always kind_reader
    (λ text. led_reader read_size (range name text) IsSize size_symbol (BehindCardinality name text) Always size_reader
    (λ cardinality. made_reader read_size (dim_of name text cardinality) (Formed IsSize (λ n. size_symbol n ∷ [])) Always size_reader)))
column_behind_reader column_head.Metric = made_reader read_name column.Metric (Formed IsName name_form) Always name_reader

abbrev head_symbol : ColumnHead → Symbol
head_symbol h = Keyword (column_keyword h)

column_to : (h : ColumnHead) (x : Column) (front rest : List Symbol) → front ≡ head_symbol h ∷ rest → BehindHead h x rest → Formed IsProperColumn column_form x front
column_to column_head.Dim x front rest e h =
    let kind = h.4 in
    let cardinality = kind.4 in
    let range = cardinality.4 in (
      rw range.made (record { name = h.1; cardinality = cardinality.1; range = range.form.0 }),
      rw (range.made, e, h.3, kind.3, cardinality.3, range.form.1) refl,
    )
column_to column_head.Metric x front rest e h = (rw h.made h.form.0, rw (h.made, e, h.form.1) refl)

column_from : (x : Column) (front : List Symbol) → Formed IsProperColumn column_form x front → IsLed Any head_symbol BehindHead x front
column_from (column.Dim d) front f =
    let range = number_form (pos d.range) in
    let sizes = size_symbol d.cardinality ∷ range in
    let kind = kind_symbol d.text ∷ sizes in (
      column_head.Dim,
      tt,
      Word d.name ∷ kind,
      f.1,
      (d.name, f.0.name, kind, refl, (d.text, tt, sizes, refl, (d.cardinality, f.0.cardinality, range, refl, record { value = d.range; made = refl; form = (f.0.range, refl) }))),
    )
column_from (column.Metric name) front f = (column_head.Metric, tt, name_form name, f.1, record { value = name; made = refl; form = (f.0, refl) })

pub column_reader : IsReader read_column (Formed IsProperColumn column_form) Always
unfolding read_column
column_reader =
    reader_as read_column (IsLed Any head_symbol BehindHead) (Formed IsProperColumn column_form) Always (λ x front h. column_to h.0 x front h.2 h.3 h.4) column_from
    (led_reader (read_first column_head_in) column_behind Any head_symbol BehindHead Always column_head_reader column_behind_reader)

-- ---- columns in the order of their kinds

abbrev AreProper : List Column → Type 0
AreProper columns = AllByRecursion IsProperColumn columns

abbrev dims_in : List Column → List Column
dims_in columns = map column.Dim (filter_map column_dim columns)

abbrev metrics_in : List Column → List Column
metrics_in columns = map column.Metric (filter_map column_metric columns)

abbrev pub sorted : List Column → List Column
sorted columns = dims_in columns ++ metrics_in columns

proper_append : (front behind : List Column) → AreProper front → AreProper behind → AreProper (front ++ behind)
proper_append [] behind one two = two
proper_append (x ∷ front) behind one two = (one.0, proper_append front behind one.1 two)

proper_parts : (front behind : List Column) → AreProper (front ++ behind) → AreProper front × AreProper behind
proper_parts [] behind all = (tt, all)
proper_parts (x ∷ front) behind all = let parts = proper_parts front behind all.1 in ((all.0, parts.0), parts.1)

dims_proper : (columns : List Column) → AreProper columns → AreProper (dims_in columns)
dims_proper [] all = tt
dims_proper (column.Dim d ∷ columns) all = (all.0, dims_proper columns all.1)
dims_proper (column.Metric name ∷ columns) all = dims_proper columns all.1

metrics_proper : (columns : List Column) → AreProper columns → AreProper (metrics_in columns)
metrics_proper [] all = tt
metrics_proper (column.Dim d ∷ columns) all = metrics_proper columns all.1
metrics_proper (column.Metric name ∷ columns) all = (all.0, metrics_proper columns all.1)

both_proper : (columns : List Column) → AreProper (dims_in columns) → AreProper (metrics_in columns) → AreProper columns
both_proper [] dims metrics = tt
both_proper (column.Dim d ∷ columns) dims metrics = (dims.0, both_proper columns dims.1 metrics)
both_proper (column.Metric name ∷ columns) dims metrics = (metrics.0, both_proper columns dims metrics.1)

pub sorted_proper : (columns : List Column) → AllByRecursion IsProperColumn columns → AllByRecursion IsProperColumn (sorted columns)
sorted_proper columns all = proper_append (dims_in columns) (metrics_in columns) (dims_proper columns all) (metrics_proper columns all)

pub unsorted_proper : (columns : List Column) → AllByRecursion IsProperColumn (sorted columns) → AllByRecursion IsProperColumn columns
unsorted_proper columns all = let parts = proper_parts (dims_in columns) (metrics_in columns) all in both_proper columns parts.0 parts.1

lengths : (columns : List Column) → length (dims_in columns) + length (metrics_in columns) ≡ length columns
lengths [] = refl
lengths (column.Dim d ∷ columns) = omega (arith, lengths columns)
lengths (column.Metric name ∷ columns) = omega (arith, lengths columns)

pub sorted_length : (columns : List Column) → length (sorted columns) ≡ length columns
sorted_length columns = omega (arith, length-append (dims_in columns) (metrics_in columns), lengths columns)
