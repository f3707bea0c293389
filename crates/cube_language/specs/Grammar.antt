-- Which texts spell which statements: what a text's tokens say is a form of the statement.
-- Source: this project's own, a small part of SQL.
use Rattle.std.specs.Prelude.{◌≡◌, ℕ, ◌<◌, ◌^◌, Bool, true, false, List, [], ◌∷◌, ◌++◌, length, map, pos, ℤ, Option, Some, None, IsTrue, FitsSigned, All, if◌then◌else◌}
use Rattle.std.specs.Int.{w64}
use Rattle.std.specs.List.{list_all, flat_map}
use Rattle.cube_values.specs.declared.top_plan.Bound.{Bound}
use Rattle.cube_values.specs.declared.top_plan.Bound.TheVariants as bound
use Rattle.cube_values.specs.declared.value.Value.{Value}
use Rattle.cube_values.specs.declared.value.Value.TheVariants as value
use Rattle.cube_language.specs.Columns.{columns_of, decl_of}
use Rattle.cube_language.specs.Names.{is_name}
use Rattle.cube_language.specs.declared.decl.Column.{Column}
use Rattle.cube_language.specs.declared.decl.Column.TheVariants as column
use Rattle.cube_language.specs.declared.decl.DimDecl.{DimDecl}
use Rattle.cube_language.specs.declared.keyword.Keyword.{Keyword as KeywordWord}
use Rattle.cube_language.specs.declared.keyword.Keyword.TheVariants as keyword
use Rattle.cube_language.specs.declared.statement.Cond.{Cond}
use Rattle.cube_language.specs.declared.statement.Cond.TheVariants.{Equal, In, Between}
use Rattle.cube_language.specs.declared.statement.Item.{Item}
use Rattle.cube_language.specs.declared.statement.Item.TheVariants.{Plain, Sum, Min, Max, Avg, CountAll}
use Rattle.cube_language.specs.declared.statement.Key.{Key}
use Rattle.cube_language.specs.declared.statement.Statement.{Statement}
use Rattle.cube_language.specs.declared.statement.Statement.TheVariants.{Select, Insert, Load, Delete, Begin, Commit, Rollback, Flush, Purge, ShowEpochs, CreateCube, Watch, ShowWatch}
use Rattle.cube_language.specs.declared.statement.Test.{Test}
use Rattle.cube_language.specs.declared.token.Token.{Token}
use Rattle.cube_language.specs.declared.written.Direction.{Direction}
use Rattle.cube_language.specs.declared.written.Direction.TheVariants.{Unsaid, Asc, Desc}
use Rattle.cube_language.specs.declared.written.WrittenKey.{WrittenKey}
use Rattle.cube_language.specs.declared.symbol.Symbol.{Symbol}
use Rattle.cube_language.specs.declared.symbol.Symbol.TheVariants.{Keyword, Word, Number, Text, Open, Close, Comma, Equals, Star}
use Rattle.cube_language.specs.Symbols.{symbols_of}
use Rattle.cube_language.specs.Tokens.{AreTokens}

-- ---- the parts of statements

-- A form behind a symbol.
abbrev pub form_behind : {A : Type 0} → Symbol → (A → List Symbol) → A → List Symbol
form_behind symbol form x = symbol ∷ form x

-- Forms with a symbol between each two.
abbrev pub separated : {A : Type 0} → Symbol → (A → List Symbol) → List A → List Symbol
separated between form [] = []
separated between form (x ∷ xs) = form x ++ flat_map (form_behind between form) xs

abbrev pub name_form : List ℕ → List Symbol
name_form name = Word name ∷ []

abbrev pub number_form : ℤ → List Symbol
number_form n = Number n ∷ []

abbrev pub value_form : Value → List Symbol
value_form (value.Int n) = Number n ∷ []
value_form (value.Text text) = Text text ∷ []

-- `(x, ..)`
abbrev pub list_form : {A : Type 0} → (A → List Symbol) → List A → List Symbol
list_form form xs = Open ∷ (separated Comma form xs ++ Close ∷ [])

-- `(value, ..)`
abbrev pub tuple_form : List Value → List Symbol
tuple_form values = list_form value_form values

-- `SUM(metric)` and its like.
abbrev pub aggregate_form : KeywordWord → List ℕ → List Symbol
aggregate_form aggregate metric = Keyword aggregate ∷ Open ∷ Word metric ∷ Close ∷ []

abbrev pub item_form : Item → List Symbol
item_form (Plain name) = Word name ∷ []
item_form (Sum metric) = aggregate_form keyword.Sum metric
item_form (Min metric) = aggregate_form keyword.Min metric
item_form (Max metric) = aggregate_form keyword.Max metric
item_form (Avg metric) = aggregate_form keyword.Avg metric
item_form CountAll = Keyword keyword.Count ∷ Open ∷ Star ∷ Close ∷ []

abbrev pub cond_form : Cond → List Symbol
cond_form (Equal name wanted) = Word name ∷ Equals ∷ value_form wanted
cond_form (In name listed) = Word name ∷ Keyword keyword.In ∷ tuple_form listed
cond_form (Between name first last) = Word name ∷ Keyword keyword.Between
    ∷ (value_form first ++ Keyword keyword.And ∷ value_form last)

-- `WHERE cond AND ..`, or nothing where there is no condition.
abbrev pub where_form : List Cond → List Symbol
where_form [] = []
where_form (cond ∷ conds) = Keyword keyword.Where ∷ separated (Keyword keyword.And) cond_form (cond ∷ conds)

-- `GROUP BY name, ..`, or nothing where there is no name.
abbrev pub group_form : List (List ℕ) → List Symbol
group_form [] = []
group_form (name ∷ names) = Keyword keyword.Group ∷ Keyword keyword.By ∷ separated Comma name_form (name ∷ names)

-- `SELECT items FROM cube`, with WHERE and GROUP BY.
abbrev pub query_form : List Item → List ℕ → List Cond → List (List ℕ) → List Symbol
query_form items cube conds group =
    Keyword keyword.Select ∷ (separated Comma item_form items
    ++ Keyword keyword.From ∷ Word cube ∷ (where_form conds ++ group_form group))

-- ---- HAVING, ORDER BY and LIMIT

abbrev pub bound_form : Bound → List Symbol
bound_form (bound.Equal n) = Equals ∷ number_form n
bound_form (bound.In numbers) = Keyword keyword.In ∷ list_form number_form numbers
bound_form (bound.Between first last) = Keyword keyword.Between ∷ Number first ∷ Keyword keyword.And ∷ number_form last

abbrev pub test_form : Test → List Symbol
test_form test = item_form test.item ++ bound_form test.bound

-- `HAVING test AND ..`, or nothing where there is no test.
abbrev pub having_form : List Test → List Symbol
having_form [] = []
having_form (test ∷ tests) = Keyword keyword.Having ∷ separated (Keyword keyword.And) test_form (test ∷ tests)

-- Where no direction is written, the least value comes first.
abbrev pub is_desc : Direction → Bool
is_desc Unsaid = false
is_desc Asc = false
is_desc Desc = true

-- The key that is written.
abbrev pub sort_key_of : WrittenKey → Key
sort_key_of written = record { item = written.item; desc = is_desc written.direction }

abbrev pub direction_form : Direction → List Symbol
direction_form Unsaid = []
direction_form Asc = Keyword keyword.Asc ∷ []
direction_form Desc = Keyword keyword.Desc ∷ []

abbrev pub key_form : WrittenKey → List Symbol
key_form written = item_form written.item ++ direction_form written.direction

-- A key as it is printed: without ASC.
abbrev pub plain_form : Key → List Symbol
plain_form key = item_form key.item ++ (if key.desc then Keyword keyword.Desc ∷ [] else [])

-- `ORDER BY key, ..` by the form of a key, or nothing where there is no key.
abbrev pub order_form : {A : Type 0} → (A → List Symbol) → List A → List Symbol
order_form form [] = []
order_form form (key ∷ keys) = Keyword keyword.Order ∷ Keyword keyword.By ∷ separated Comma form (key ∷ keys)

-- `LIMIT n`, or nothing where there is no limit.
abbrev pub limit_form : Option ℕ → List Symbol
limit_form None = []
limit_form (Some n) = Keyword keyword.Limit ∷ number_form (pos n)

-- What stands behind a query, by the form of a key.
abbrev pub top_form : {A : Type 0} → (A → List Symbol) → List Test → List A → Option ℕ → List Symbol
top_form form having keys limit = having_form having ++ (order_form form keys ++ limit_form limit)

-- ---- CREATE CUBE

abbrev pub kind_keyword : Bool → KeywordWord
kind_keyword text = if text then keyword.Text else keyword.Int

-- `DIM name TEXT cardinality range` and its like, or `METRIC name`.
abbrev pub column_form : Column → List Symbol
column_form (column.Dim dim) =
    Keyword keyword.Dim ∷ Word dim.name ∷ Keyword (kind_keyword dim.text) ∷ Number (pos dim.cardinality)
    ∷ number_form (pos dim.range)
column_form (column.Metric name) = Keyword keyword.Metric ∷ name_form name

-- `CREATE CUBE name (column, ..)`
abbrev pub create_form : List ℕ → List Column → List Symbol
create_form name columns = Keyword keyword.Create ∷ Keyword keyword.Cube ∷ Word name ∷ list_form column_form columns

-- ---- statements

-- The symbols of a statement as it is printed: without ASC, and with the dimensions of a cube first.
abbrev pub form_of : Statement → List Symbol
form_of (Select items cube conds group having order limit) =
    query_form items cube conds group ++ top_form plain_form having order limit
form_of (Insert cube rows) = Keyword keyword.Insert ∷ Keyword keyword.Into ∷ Word cube ∷ Keyword keyword.Values
    ∷ separated Comma tuple_form rows
form_of (Load cube path reject) =
    Keyword keyword.Load ∷ Word cube ∷ Keyword keyword.From ∷ Text path ∷ Keyword keyword.Reject
    ∷ number_form (pos reject)
form_of (Delete cube conds) = Keyword keyword.Delete ∷ Keyword keyword.From ∷ Word cube ∷ where_form conds
form_of Begin = Keyword keyword.Begin ∷ []
form_of Commit = Keyword keyword.Commit ∷ []
form_of Rollback = Keyword keyword.Rollback ∷ []
form_of Flush = Keyword keyword.Flush ∷ []
form_of Purge = Keyword keyword.Purge ∷ []
form_of ShowEpochs = Keyword keyword.Show ∷ Keyword keyword.Epochs ∷ []
form_of (CreateCube decl) = create_form decl.name (columns_of decl)
form_of (Watch items cube conds group) = Keyword keyword.Watch ∷ query_form items cube conds group
form_of ShowWatch = Keyword keyword.Show ∷ Keyword keyword.Watch ∷ []

-- The symbols are a form of the statement: the printed one, or with keys written in another way or columns in
-- another order.
abbrev pub IsFormOf : Statement → List Symbol → Type 0
IsFormOf (Select items cube conds group having order limit) symbols =
    (keys : List WrittenKey) × (order ≡ map sort_key_of keys)
    × (symbols ≡ query_form items cube conds group ++ top_form key_form having keys limit)
IsFormOf (CreateCube decl) symbols =
    (columns : List Column) × (decl ≡ decl_of decl.name columns) × (symbols ≡ create_form decl.name columns)
IsFormOf statement symbols = symbols ≡ form_of statement

-- ---- what may stand in a form

-- Names are names, numbers fit, and lists that a form wants filled have something in them.
abbrev pub IsProperValue : Value → Type 0
IsProperValue (value.Int n) = FitsSigned w64 n
IsProperValue (value.Text text) = Unit {0}

abbrev pub IsProperTuple : List Value → Type 0
IsProperTuple values = (0 < length values) × All IsProperValue values

abbrev pub IsProperItem : Item → Type 0
IsProperItem (Plain name) = IsTrue (is_name name)
IsProperItem (Sum metric) = IsTrue (is_name metric)
IsProperItem (Min metric) = IsTrue (is_name metric)
IsProperItem (Max metric) = IsTrue (is_name metric)
IsProperItem (Avg metric) = IsTrue (is_name metric)
IsProperItem CountAll = Unit {0}

abbrev pub IsProperCond : Cond → Type 0
IsProperCond (Equal name wanted) = IsTrue (is_name name) × IsProperValue wanted
IsProperCond (In name listed) = IsTrue (is_name name) × IsProperTuple listed
IsProperCond (Between name first last) = IsTrue (is_name name) × IsProperValue first × IsProperValue last

pub record IsProperQuery (items : List Item) (cube : List ℕ) (conds : List Cond) (group : List (List ℕ)) : Type 0 where
  pub some : 0 < length items
  pub each_item : All IsProperItem items
  pub cube_name : IsTrue (is_name cube)
  pub each_cond : All IsProperCond conds
  pub group_names : IsTrue (list_all is_name group)

abbrev pub IsProperBound : Bound → Type 0
IsProperBound (bound.Equal n) = FitsSigned w64 n
IsProperBound (bound.In numbers) = (0 < length numbers) × All (FitsSigned w64) numbers
IsProperBound (bound.Between first last) = FitsSigned w64 first × FitsSigned w64 last

-- HAVING tests aggregates.
abbrev pub IsAggregate : Item → Type 0
IsAggregate (Plain name) = ⊥
IsAggregate item = Unit {0}

pub record IsProperTest (test : Test) : Type 0 where
  pub aggregate : IsAggregate test.item
  pub item : IsProperItem test.item
  pub bound : IsProperBound test.bound

abbrev pub IsProperLimit : Option ℕ → Type 0
IsProperLimit None = Unit {0}
IsProperLimit (Some n) = n < 2 ^ 63

pub record IsProperTop (having : List Test) (order : List Key) (limit : Option ℕ) : Type 0 where
  pub each_test : All IsProperTest having
  pub each_key : All (λ key. IsProperItem key.item) order
  pub most : IsProperLimit limit

pub record IsProperDim (dim : DimDecl) : Type 0 where
  pub name : IsTrue (is_name dim.name)
  pub cardinality : dim.cardinality < 2 ^ 32
  pub range : dim.range < 2 ^ 32

abbrev pub IsProperColumn : Column → Type 0
IsProperColumn (column.Dim dim) = IsProperDim dim
IsProperColumn (column.Metric name) = IsTrue (is_name name)

abbrev pub AreProperColumns : List Column → Type 0
AreProperColumns columns = (0 < length columns) × All IsProperColumn columns

abbrev pub IsProper : Statement → Type 0
IsProper (Select items cube conds group having order limit) =
    IsProperQuery items cube conds group × IsProperTop having order limit
IsProper (Insert cube rows) = IsTrue (is_name cube) × (0 < length rows) × All IsProperTuple rows
IsProper (Load cube path reject) = IsTrue (is_name cube) × (reject < 2 ^ 63)
IsProper (Delete cube conds) = IsTrue (is_name cube) × All IsProperCond conds
IsProper (CreateCube decl) = IsTrue (is_name decl.name) × AreProperColumns (columns_of decl)
IsProper (Watch items cube conds group) = IsProperQuery items cube conds group
IsProper statement = Unit {0}

-- A text spells a statement.
pub record Spells (text : List ℕ) (statement : Statement) : Type 0 where
  pub tokens : List Token
  pub are : AreTokens text tokens
  pub form : IsFormOf statement (symbols_of text tokens)
  pub proper : IsProper statement

-- Some text spells the statement.
abbrev pub IsSpelled : Statement → Type 0
IsSpelled statement = (text : List ℕ) × Spells text statement
