-- Reading a statement from symbols, from left to right: what is read and the symbols behind it, or how many
-- symbols are left from the first that does not fit, 0 where they end too early.
use Rattle.std.specs.Prelude.{◌≡◌, ℕ, zero, suc, ◌^◌, Bool, true, false, nat_lt, List, [], ◌∷◌, length, drop, map, ℤ, pos, negsuc, Option, Some, None, Result, Ok, Err, if◌then◌else◌}
use Rattle.std.specs.Borrow.{Bor}
use Rattle.std.specs.Option.{option_map, option_map_or}
use Rattle.std.specs.Str.{bytes_eq}
use Rattle.cube_values.specs.declared.call_error.CallError.{CallError}
use Rattle.cube_values.specs.declared.call_error.CallError.TheVariants.{Fault, NoMemory}
use Rattle.cube_values.specs.declared.value.Value.{Value}
use Rattle.cube_values.specs.declared.value.Value.TheVariants as value
use Rattle.cube_values.specs.declared.top_plan.Bound.{Bound}
use Rattle.cube_values.specs.declared.top_plan.Bound.TheVariants as bound
use Rattle.cube_language.specs.Columns.{decl_of}
use Rattle.cube_language.specs.Grammar.{sort_key_of}
use Rattle.cube_language.specs.Names.{is_name}
use Rattle.cube_language.specs.declared.decl.Column.{Column}
use Rattle.cube_language.specs.declared.decl.Column.TheVariants as column
use Rattle.cube_language.specs.declared.statement.Cond.{Cond}
use Rattle.cube_language.specs.declared.statement.Cond.TheVariants as cond
use Rattle.cube_language.specs.declared.statement.Item.{Item}
use Rattle.cube_language.specs.declared.statement.Item.TheVariants as item
use Rattle.cube_language.specs.declared.statement.Statement.{Statement}
use Rattle.cube_language.specs.declared.statement.Statement.TheVariants as statement
use Rattle.cube_language.specs.declared.statement.Test.{Test}
use Rattle.cube_language.specs.declared.written.Direction.{Direction}
use Rattle.cube_language.specs.declared.written.Direction.TheVariants as direction
use Rattle.cube_language.specs.declared.written.WrittenKey.{WrittenKey}
use Rattle.cube_language.specs.declared.keyword.Keyword.{Keyword as KeywordWord}
use Rattle.cube_language.specs.declared.keyword.Keyword.TheVariants as keyword
use Rattle.cube_language.specs.Keywords.{keyword_text}
use Rattle.cube_language.specs.declared.symbol.Symbol.{Symbol}
use Rattle.cube_language.specs.declared.symbol.Symbol.TheVariants.{Keyword, Word, Number, Text, Open, Close, Comma, Equals, Star}
use Rattle.cube_language.specs.declared.token.Token.{Token}
use Rattle.cube_language.specs.Symbols.{symbols_of}
use Rattle.sql_tree.specs.declared.head.Sign.{Sign}
use Rattle.sql_tree.specs.declared.head.Sign.TheVariants as sign
use Rattle.sql_tree.specs.declared.head.Aggregate.{Aggregate}
use Rattle.sql_tree.specs.declared.head.Aggregate.TheVariants as aggregate
use Rattle.sql_tree.specs.declared.head.Operator.{Operator}
use Rattle.sql_tree.specs.declared.head.Operator.TheVariants as operator
use Rattle.sql_tree.specs.declared.head.ColumnHead.{ColumnHead}
use Rattle.sql_tree.specs.declared.head.ColumnHead.TheVariants as column_head
use Rattle.sql_tree.specs.declared.head.Selection.{Selection}
use Rattle.sql_tree.specs.declared.head.Shown.{Shown}
use Rattle.sql_tree.specs.declared.head.Shown.TheVariants as shown
use Rattle.sql_tree.specs.declared.head.Verb.{Verb}
use Rattle.sql_tree.specs.declared.head.Verb.TheVariants as verb

-- What reading gives.
abbrev pub Readout : Type 0 → Type 0
Readout A = Result (A × List Symbol) ℕ

infixl 10 ◌>>=◌
abbrev pub ◌>>=◌ : {A B : Type 0} → Result A ℕ → (A → Result B ℕ) → Result B ℕ
(Ok x) >>= f = f x
(Err left) >>= f = Err left

-- What a function returned, seen by view, is what reading gives, unless memory ran out.
abbrev pub IsMiss : {Y : Type 0} → CallError ℕ → Result Y ℕ → Type 0
IsMiss NoMemory read = Unit {0}
IsMiss (Fault left) read = read ≡ Err left

abbrev pub Gives : {X Y : Type 0} → (X → Y) → Result X (CallError ℕ) → Result Y ℕ → Type 0
Gives view (Ok x) read = read ≡ Ok (view x)
Gives view (Err e) read = IsMiss e read

-- What was read from tokens of a text, and the symbols of the tokens left, are what reading gives of the symbols.
abbrev pub ReadsAs : {A : Type 0} → (List Symbol → Readout A) → List ℕ → List Token
    → Result (A × Bor (List Token)) (CallError ℕ) → Type 0
ReadsAs reading text tokens result =
    Gives (λ x. (x.0, symbols_of text x.1.now)) result (reading (symbols_of text tokens))

-- The symbols of the tokens left are what reading leaves of the symbols of the tokens.
abbrev pub Skips : (List Symbol → Readout (Unit {0})) → List ℕ → List Token
    → Result (Bor (List Token)) (CallError ℕ) → Type 0
Skips reading text tokens result =
    Gives (λ rest. (tt, symbols_of text rest.now)) result (reading (symbols_of text tokens))

-- ---- one symbol

-- What the first symbol means, where it means something.
abbrev pub read_first : {A : Type 0} → (Symbol → Option A) → List Symbol → Readout A
read_first meaning [] = Err 0
read_first meaning (symbol ∷ symbols) =
    option_map_or (λ x. Ok (x, symbols)) (meaning symbol) (Err (length (symbol ∷ symbols)))

-- Both keywords have the same letters.
abbrev pub same_keyword : KeywordWord → KeywordWord → Bool
same_keyword wanted k = bytes_eq (keyword_text k) (keyword_text wanted)

-- The symbol that a sign is.
abbrev pub sign_symbol : Sign → Symbol
sign_symbol (sign.Keyword k) = Keyword k
sign_symbol sign.Open = Open
sign_symbol sign.Close = Close
sign_symbol sign.Comma = Comma
sign_symbol sign.Star = Star

-- The symbol is this sign.
abbrev pub is_sign : Sign → Symbol → Bool
is_sign (sign.Keyword wanted) (Keyword k) = same_keyword wanted k
is_sign sign.Open Open = true
is_sign sign.Close Close = true
is_sign sign.Comma Comma = true
is_sign sign.Star Star = true
is_sign wanted symbol = false

abbrev pub sign_in : Sign → Symbol → Option (Unit {0})
sign_in wanted symbol = if is_sign wanted symbol then Some tt else None

-- The sign is wanted.
unfoldable pub expect : Sign → List Symbol → Readout (Unit {0})
expect wanted symbols = read_first (sign_in wanted) symbols

-- The number is one of 64 bits.
abbrev pub fits : ℤ → Bool
fits (pos n) = nat_lt n (2 ^ 63)
fits (negsuc n) = nat_lt n (2 ^ 63)

abbrev pub keyword_in : Symbol → Option KeywordWord
keyword_in (Keyword k) = Some k
keyword_in symbol = None

abbrev pub name_in : Symbol → Option (List ℕ)
name_in (Word word) = if is_name word then Some word else None
name_in symbol = None

abbrev pub number_in : Symbol → Option ℤ
number_in (Number n) = if fits n then Some n else None
number_in symbol = None

abbrev pub value_in : Symbol → Option Value
value_in (Number n) = if fits n then Some (value.Int n) else None
value_in (Text text) = Some (value.Text text)
value_in symbol = None

abbrev pub text_in : Symbol → Option (List ℕ)
text_in (Text text) = Some text
text_in symbol = None

abbrev pub count_in : Symbol → Option ℕ
count_in (Number (pos n)) = if nat_lt n (2 ^ 63) then Some n else None
count_in symbol = None

-- A number of 32 bits.
abbrev pub size_in : Symbol → Option ℕ
size_in (Number (pos n)) = if nat_lt n (2 ^ 32) then Some n else None
size_in symbol = None

abbrev pub operator_in : Symbol → Option Operator
operator_in Equals = Some operator.Equal
operator_in (Keyword keyword.In) = Some operator.In
operator_in (Keyword keyword.Between) = Some operator.Between
operator_in symbol = None

abbrev pub aggregate_in : Symbol → Option Aggregate
aggregate_in (Keyword keyword.Sum) = Some aggregate.Sum
aggregate_in (Keyword keyword.Min) = Some aggregate.Min
aggregate_in (Keyword keyword.Max) = Some aggregate.Max
aggregate_in (Keyword keyword.Avg) = Some aggregate.Avg
aggregate_in (Keyword keyword.Count) = Some aggregate.Count
aggregate_in symbol = None

abbrev pub verb_in : Symbol → Option Verb
verb_in (Keyword keyword.Select) = Some verb.Select
verb_in (Keyword keyword.Insert) = Some verb.Insert
verb_in (Keyword keyword.Load) = Some verb.Load
verb_in (Keyword keyword.Delete) = Some verb.Delete
verb_in (Keyword keyword.Begin) = Some verb.Begin
verb_in (Keyword keyword.Commit) = Some verb.Commit
verb_in (Keyword keyword.Rollback) = Some verb.Rollback
verb_in (Keyword keyword.Flush) = Some verb.Flush
verb_in (Keyword keyword.Purge) = Some verb.Purge
verb_in (Keyword keyword.Show) = Some verb.Show
verb_in (Keyword keyword.Create) = Some verb.Create
verb_in (Keyword keyword.Watch) = Some verb.Watch
verb_in symbol = None

abbrev pub shown_in : Symbol → Option Shown
shown_in (Keyword keyword.Epochs) = Some shown.Epochs
shown_in (Keyword keyword.Watch) = Some shown.Watch
shown_in symbol = None

abbrev pub direction_in : Symbol → Option Direction
direction_in (Keyword keyword.Asc) = Some direction.Asc
direction_in (Keyword keyword.Desc) = Some direction.Desc
direction_in symbol = None

abbrev pub column_head_in : Symbol → Option ColumnHead
column_head_in (Keyword keyword.Dim) = Some column_head.Dim
column_head_in (Keyword keyword.Metric) = Some column_head.Metric
column_head_in symbol = None

-- Whether a dimension has texts or numbers.
abbrev pub kind_in : Symbol → Option Bool
kind_in (Keyword keyword.Text) = Some true
kind_in (Keyword keyword.Int) = Some false
kind_in symbol = None

unfoldable pub read_name : List Symbol → Readout (List ℕ)
read_name symbols = read_first name_in symbols

unfoldable pub read_value : List Symbol → Readout Value
read_value symbols = read_first value_in symbols

unfoldable pub read_text : List Symbol → Readout (List ℕ)
read_text symbols = read_first text_in symbols

unfoldable pub read_count : List Symbol → Readout ℕ
read_count symbols = read_first count_in symbols

unfoldable pub read_number : List Symbol → Readout ℤ
read_number symbols = read_first number_in symbols

unfoldable pub read_size : List Symbol → Readout ℕ
read_size symbols = read_first size_in symbols

-- ---- lists and parts that may be left out

-- The sign stands first.
abbrev pub stands_first : Sign → List Symbol → Bool
stands_first wanted [] = false
stands_first wanted (symbol ∷ symbols) = is_sign wanted symbol

-- At most this many items with a sign between each two.
unfoldable pub listed_within : {A : Type 0} → ℕ → Sign → (List Symbol → Readout A) → List Symbol → Readout (List A)
listed_within zero between item symbols = Err (length symbols)
listed_within (suc most) between item symbols = do
  first ← item symbols
  if stands_first between first.1
      then (listed_within most between item (drop 1 first.1) >>= λ others. Ok (first.0 ∷ others.0, others.1))
      else Ok (first.0 ∷ [], first.1)

-- Items with a sign between each two, one at least.
unfoldable pub listed : {A : Type 0} → Sign → (List Symbol → Readout A) → List Symbol → Readout (List A)
listed between item symbols = listed_within (suc (length symbols)) between item symbols

-- What stands behind a sign, or else what it means that the sign does not come.
unfoldable pub optional : {A : Type 0} → Sign → A → (List Symbol → Readout A) → List Symbol → Readout A
optional wanted none part symbols = if stands_first wanted symbols then part (drop 1 symbols) else Ok (none, symbols)

-- Items in parentheses.
unfoldable pub enclosed : {A : Type 0} → (List Symbol → Readout A) → List Symbol → Readout (List A)
enclosed item symbols = do
  opened ← expect sign.Open symbols
  items ← listed sign.Comma item opened.1
  closed ← expect sign.Close items.1
  Ok (items.0, closed.1)

-- ---- the parts of statements

unfoldable pub read_tuple : List Symbol → Readout (List Value)
read_tuple symbols = enclosed read_value symbols

-- What an item begins with: a name, or the word of an aggregate.
pub data ItemHead : Type 0 where
  Named : List ℕ → ItemHead
  Aggregated : Aggregate → ItemHead

abbrev pub item_head : Symbol → Option ItemHead
item_head symbol = option_map_or (λ a. Some (Aggregated a)) (aggregate_in symbol) (option_map Named (name_in symbol))

unfoldable pub read_metric : List Symbol → Readout (List ℕ)
read_metric symbols = do
  opened ← expect sign.Open symbols
  metric ← read_name opened.1
  closed ← expect sign.Close metric.1
  Ok (metric.0, closed.1)

unfoldable pub read_star : List Symbol → Readout (Unit {0})
read_star symbols = do
  opened ← expect sign.Open symbols
  star ← expect sign.Star opened.1
  expect sign.Close star.1

abbrev pub item_behind : ItemHead → List Symbol → Readout Item
item_behind (Named name) symbols = Ok (item.Plain name, symbols)
item_behind (Aggregated aggregate.Sum) symbols = read_metric symbols >>= λ metric. Ok (item.Sum metric.0, metric.1)
item_behind (Aggregated aggregate.Min) symbols = read_metric symbols >>= λ metric. Ok (item.Min metric.0, metric.1)
item_behind (Aggregated aggregate.Max) symbols = read_metric symbols >>= λ metric. Ok (item.Max metric.0, metric.1)
item_behind (Aggregated aggregate.Avg) symbols = read_metric symbols >>= λ metric. Ok (item.Avg metric.0, metric.1)
item_behind (Aggregated aggregate.Count) symbols = read_star symbols >>= λ star. Ok (item.CountAll, star.1)

unfoldable pub read_item : List Symbol → Readout Item
read_item symbols = do
  head ← read_first item_head symbols
  item_behind head.0 head.1

abbrev pub cond_behind : List ℕ → Operator → List Symbol → Readout Cond
cond_behind name operator.Equal symbols = read_value symbols >>= λ wanted. Ok (cond.Equal name wanted.0, wanted.1)
cond_behind name operator.In symbols = read_tuple symbols >>= λ wanted. Ok (cond.In name wanted.0, wanted.1)
cond_behind name operator.Between symbols = do
  first ← read_value symbols
  and ← expect (sign.Keyword keyword.And) first.1
  last ← read_value and.1
  Ok (cond.Between name first.0 last.0, last.1)

unfoldable pub read_cond : List Symbol → Readout Cond
read_cond symbols = do
  name ← read_name symbols
  operator ← read_first operator_in name.1
  cond_behind name.0 operator.0 operator.1

unfoldable pub read_where : List Symbol → Readout (List Cond)
read_where symbols = optional (sign.Keyword keyword.Where) [] (listed (sign.Keyword keyword.And) read_cond) symbols

unfoldable pub read_by : List Symbol → Readout (List (List ℕ))
read_by symbols = do
  by ← expect (sign.Keyword keyword.By) symbols
  listed sign.Comma read_name by.1

unfoldable pub read_group : List Symbol → Readout (List (List ℕ))
read_group symbols = optional (sign.Keyword keyword.Group) [] read_by symbols

-- What a SELECT asks for, behind its first word.
unfoldable pub read_selection : List Symbol → Readout Selection
read_selection symbols = do
  items ← listed sign.Comma read_item symbols
  from ← expect (sign.Keyword keyword.From) items.1
  cube ← read_name from.1
  conds ← read_where cube.1
  group ← read_group conds.1
  Ok (record { items = items.0; cube = cube.0; conds = conds.0; group = group.0 }, group.1)

-- ---- HAVING, ORDER BY and LIMIT

abbrev pub bound_behind : Operator → List Symbol → Readout Bound
bound_behind operator.Equal symbols = read_number symbols >>= λ wanted. Ok (bound.Equal wanted.0, wanted.1)
bound_behind operator.In symbols = enclosed read_number symbols >>= λ wanted. Ok (bound.In wanted.0, wanted.1)
bound_behind operator.Between symbols = do
  first ← read_number symbols
  and ← expect (sign.Keyword keyword.And) first.1
  last ← read_number and.1
  Ok (bound.Between first.0 last.0, last.1)

unfoldable pub read_bound : List Symbol → Readout Bound
read_bound symbols = do
  operator ← read_first operator_in symbols
  bound_behind operator.0 operator.1

unfoldable pub read_aggregate : List Symbol → Readout Item
read_aggregate symbols = do
  aggregate ← read_first aggregate_in symbols
  item_behind (Aggregated aggregate.0) aggregate.1

unfoldable pub read_test : List Symbol → Readout Test
read_test symbols = do
  item ← read_aggregate symbols
  bound ← read_bound item.1
  Ok (record { item = item.0; bound = bound.0 }, bound.1)

unfoldable pub read_having : List Symbol → Readout (List Test)
read_having symbols = optional (sign.Keyword keyword.Having) [] (listed (sign.Keyword keyword.And) read_test) symbols

-- The direction that the first symbol says, or none.
unfoldable pub read_direction : List Symbol → Readout Direction
read_direction [] = Ok (direction.Unsaid, [])
read_direction (symbol ∷ symbols) =
    option_map_or (λ d. Ok (d, symbols)) (direction_in symbol) (Ok (direction.Unsaid, symbol ∷ symbols))

unfoldable pub read_key : List Symbol → Readout WrittenKey
read_key symbols = do
  item ← read_item symbols
  direction ← read_direction item.1
  Ok (record { item = item.0; direction = direction.0 }, direction.1)

unfoldable pub read_keys : List Symbol → Readout (List WrittenKey)
read_keys symbols = do
  by ← expect (sign.Keyword keyword.By) symbols
  listed sign.Comma read_key by.1

unfoldable pub read_order : List Symbol → Readout (List WrittenKey)
read_order symbols = optional (sign.Keyword keyword.Order) [] read_keys symbols

unfoldable pub read_some_count : List Symbol → Readout (Option ℕ)
read_some_count symbols = do
  count ← read_count symbols
  Ok (Some count.0, count.1)

unfoldable pub read_limit : List Symbol → Readout (Option ℕ)
read_limit symbols = optional (sign.Keyword keyword.Limit) None read_some_count symbols

-- ---- the columns of a cube

abbrev pub column_behind : ColumnHead → List Symbol → Readout Column
column_behind column_head.Dim symbols = do
  name ← read_name symbols
  kind ← read_first kind_in name.1
  cardinality ← read_size kind.1
  range ← read_size cardinality.1
  Ok (column.Dim (record { name = name.0; text = kind.0; cardinality = cardinality.0; range = range.0 }), range.1)
column_behind column_head.Metric symbols = do
  name ← read_name symbols
  Ok (column.Metric name.0, name.1)

unfoldable pub read_column : List Symbol → Readout Column
read_column symbols = do
  head ← read_first column_head_in symbols
  column_behind head.0 head.1

-- ---- statements, behind their first word

unfoldable pub read_select : List Symbol → Readout Statement
read_select symbols = do
  asked ← read_selection symbols
  having ← read_having asked.1
  keys ← read_order having.1
  limit ← read_limit keys.1
  Ok (
    statement.Select asked.0.items asked.0.cube asked.0.conds asked.0.group having.0 (map sort_key_of keys.0) limit.0,
    limit.1,
  )

unfoldable pub read_watch : List Symbol → Readout Statement
read_watch symbols = do
  select ← expect (sign.Keyword keyword.Select) symbols
  asked ← read_selection select.1
  Ok (statement.Watch asked.0.items asked.0.cube asked.0.conds asked.0.group, asked.1)

unfoldable pub read_create : List Symbol → Readout Statement
read_create symbols = do
  cube ← expect (sign.Keyword keyword.Cube) symbols
  name ← read_name cube.1
  columns ← enclosed read_column name.1
  Ok (statement.CreateCube (decl_of name.0 columns.0), columns.1)

abbrev pub statement_shown : Shown → Statement
statement_shown shown.Epochs = statement.ShowEpochs
statement_shown shown.Watch = statement.ShowWatch

unfoldable pub read_show : List Symbol → Readout Statement
read_show symbols = do
  shown ← read_first shown_in symbols
  Ok (statement_shown shown.0, shown.1)

unfoldable pub read_insert : List Symbol → Readout Statement
read_insert symbols = do
  into ← expect (sign.Keyword keyword.Into) symbols
  cube ← read_name into.1
  values ← expect (sign.Keyword keyword.Values) cube.1
  rows ← listed sign.Comma read_tuple values.1
  Ok (statement.Insert cube.0 rows.0, rows.1)

unfoldable pub read_load : List Symbol → Readout Statement
read_load symbols = do
  cube ← read_name symbols
  from ← expect (sign.Keyword keyword.From) cube.1
  path ← read_text from.1
  reject ← expect (sign.Keyword keyword.Reject) path.1
  count ← read_count reject.1
  Ok (statement.Load cube.0 path.0 count.0, count.1)

unfoldable pub read_delete : List Symbol → Readout Statement
read_delete symbols = do
  from ← expect (sign.Keyword keyword.From) symbols
  cube ← read_name from.1
  conds ← read_where cube.1
  Ok (statement.Delete cube.0 conds.0, conds.1)

abbrev pub statement_behind : Verb → List Symbol → Readout Statement
statement_behind verb.Select symbols = read_select symbols
statement_behind verb.Insert symbols = read_insert symbols
statement_behind verb.Load symbols = read_load symbols
statement_behind verb.Delete symbols = read_delete symbols
statement_behind verb.Begin symbols = Ok (statement.Begin, symbols)
statement_behind verb.Commit symbols = Ok (statement.Commit, symbols)
statement_behind verb.Rollback symbols = Ok (statement.Rollback, symbols)
statement_behind verb.Flush symbols = Ok (statement.Flush, symbols)
statement_behind verb.Purge symbols = Ok (statement.Purge, symbols)
statement_behind verb.Show symbols = read_show symbols
statement_behind verb.Create symbols = read_create symbols
statement_behind verb.Watch symbols = read_watch symbols

-- ---- whole

-- Nothing is left.
abbrev pub ended : Statement → List Symbol → Readout Statement
ended read [] = Ok (read, [])
ended read (symbol ∷ symbols) = Err (length (symbol ∷ symbols))

-- A statement, behind which symbols may be left.
unfoldable pub read_begun : List Symbol → Readout Statement
read_begun symbols = do
  verb ← read_first verb_in symbols
  statement_behind verb.0 verb.1

-- The statement whose form the symbols are.
unfoldable pub read_statement : List Symbol → Readout Statement
read_statement symbols = do
  read ← read_begun symbols
  ended read.0 read.1
