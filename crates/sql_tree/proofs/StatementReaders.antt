-- The readers of statements.
use Rattle.std.proofs.Common.{◌≡◌, ℕ, ◌<◌, List, [], ◌∷◌, ◌++◌, length, Option, Some, None, map, pos, refl, sym, ap, subst, ◌∙◌, arith}
use Rattle.std.specs.Prelude.{All}
use Rattle.std.specs.List.{AllByRecursion}
use Rattle.std.proofs.lemmas.List.Elements.{All-from_recursion, recursion_from_All}
use Rattle.std.proofs.lemmas.List.{append-nil}
use Rattle.cube_values.specs.declared.value.Value.{Value}
use Rattle.cube_language.specs.declared.decl.Column.{Column}
use Rattle.cube_language.specs.declared.decl.Decl.{Decl}
use Rattle.cube_language.specs.declared.keyword.Keyword.TheVariants as keyword
use Rattle.cube_language.specs.declared.statement.Cond.{Cond}
use Rattle.cube_language.specs.declared.statement.Item.{Item}
use Rattle.cube_language.specs.declared.statement.Key.{Key}
use Rattle.cube_language.specs.declared.statement.Statement.{Statement}
use Rattle.cube_language.specs.declared.statement.Statement.TheVariants as statement
use Rattle.cube_language.specs.declared.statement.Test.{Test}
use Rattle.cube_language.specs.declared.written.WrittenKey.{WrittenKey}
use Rattle.cube_language.specs.Columns.{columns_of, decl_of}
use Rattle.cube_language.specs.Grammar.{separated, list_form, tuple_form, item_form, where_form, group_form, query_form, having_form, sort_key_of, key_form, order_form, limit_form, top_form, column_form, create_form, form_of, IsFormOf, IsProperTuple, IsProperItem, IsProperQuery, IsProperTest, IsProperLimit, IsProperTop, IsProperColumn, IsProper}
use Rattle.cube_language.specs.declared.symbol.Symbol.{Symbol}
use Rattle.cube_language.specs.declared.symbol.Symbol.TheVariants.{Keyword, Word, Number, Text, Comma}
use Rattle.sql_tree.specs.declared.head.Selection.{Selection}
use Rattle.sql_tree.specs.declared.head.Shown.{Shown}
use Rattle.sql_tree.specs.declared.head.Shown.TheVariants as shown
use Rattle.sql_tree.specs.declared.head.Sign.TheVariants as sign
use Rattle.sql_tree.specs.declared.head.Verb.{Verb}
use Rattle.sql_tree.specs.declared.head.Verb.TheVariants as verb
use Rattle.sql_tree.specs.Reading.{Readout, enclosed, listed, read_first, shown_in, verb_in, expect, read_name, read_text, read_count, read_tuple, read_item, read_where, read_group, read_selection, read_having, read_order, read_limit, read_column, read_select, read_watch, read_insert, read_load, read_delete, read_create, read_show, statement_shown, statement_behind, ended, read_begun, read_statement}
use Rattle.sql_tree.proofs.Readers.{given, Tells, IsReader, Always, Formed, IsMade, IsThen, IsLed, sequence, reader_as, reader_ends, sequence_reader, done_reader, made_reader, led_reader}
use Rattle.sql_tree.proofs.ReadersOfLists.{AreListed, listed_form, Parted, listed_reader}
use Rattle.sql_tree.proofs.SymbolReaders.{Any, IsName, IsCount, IsSigned, shown_keyword, signed_reader, expect_reader, name_reader, text_reader, count_reader, shown_reader, verb_keyword, verb_reader}
use Rattle.sql_tree.proofs.PartReaders.{IsDone, AreEnclosed, AreConds, AreNames, EndsWhere, EndsGroup, enclosed_reader, tuple_reader, item_reader, where_reader, group_reader}
use Rattle.sql_tree.proofs.TopReaders.{AreTests, AreKeys, IsProperKey, EndsHaving, EndsOrder, EndsLimit, having_reader, order_reader, limit_reader}
use Rattle.sql_tree.proofs.ColumnReaders.{column_reader, sorted, sorted_proper, unsorted_proper, sorted_length}

-- Nothing is left.
abbrev IsEnd : List Symbol → Type 0
IsEnd rest = rest ≡ []

-- ---- what a SELECT asks for

abbrev selection : List Item → List ℕ → List Cond → List (List ℕ) → Selection
selection items cube conds group = record { items = items; cube = cube; conds = conds; group = group }

abbrev selection_form : Selection → List Symbol
selection_form asked = separated Comma item_form asked.items ++ Keyword keyword.From ∷ Word asked.cube ∷ (where_form asked.conds ++ group_form asked.group)

abbrev IsProperSelection : Selection → Type 0
IsProperSelection asked = IsProperQuery asked.items asked.cube asked.conds asked.group

-- The rest goes on with no condition and no name.
abbrev EndsSelection : List Symbol → Type 0
EndsSelection rest = EndsWhere rest × EndsGroup rest

-- What comes behind the conditions.
abbrev BehindConds : List Item → List ℕ → List Cond → Selection → List Symbol → Type 0
BehindConds items cube conds = IsMade (Formed AreNames group_form) (selection items cube conds)

group_ends : (group : List (List ℕ)) (front rest : List Symbol) → Formed AreNames group_form group front → EndsSelection rest → EndsWhere (front ++ rest)
group_ends [] front rest f e = rw f.1 e.0
group_ends (name ∷ names) front rest f e = rw f.1 (refl, refl)

conds_reader : (items : List Item) (cube : List ℕ) → IsReader (sequence read_where (λ conds. sequence read_group (λ group. given (selection items cube conds group)))) (IsThen (Formed AreConds where_form) (BehindConds items cube)) EndsSelection
conds_reader items cube =
    sequence_reader read_where (λ conds. sequence read_group (λ group. given (selection items cube conds group))) (Formed AreConds where_form) (BehindConds items cube) EndsWhere EndsSelection where_reader
    (λ conds. made_reader read_group (selection items cube conds) (Formed AreNames group_form) EndsSelection (reader_ends read_group (Formed AreNames group_form) EndsGroup EndsSelection (λ rest e. e.1) group_reader))
    (λ conds y front rest h e. group_ends h.value front rest h.form e)

-- What comes behind the items.
abbrev BehindItems : List Item → Selection → List Symbol → Type 0
BehindItems items = IsSigned (sign.Keyword keyword.From) (IsLed IsName Word (λ cube. IsThen (Formed AreConds where_form) (BehindConds items cube)))

abbrev IsSelection : Selection → List Symbol → Type 0
IsSelection = IsThen (Formed (AreListed IsProperItem) (listed_form sign.Comma item_form)) BehindItems

selection_to : (asked : Selection) (front : List Symbol) → IsSelection asked front → Formed IsProperSelection selection_form asked front
selection_to asked front h =
    let cube = h.is_rest.2 in
    let conds = cube.4 in
    let group = conds.is_rest in (
      rw group.made (record { some = h.is_first.0.0; each_item = All-from_recursion IsProperItem h.first h.is_first.0.1; cube_name = cube.1; each_cond = conds.is_first.0; group_names = group.form.0 }),
      rw (group.made, h.whole, h.is_first.1, h.is_rest.1, cube.3, conds.whole, conds.is_first.1, group.form.1) refl,
    )

selection_from : (asked : Selection) (front : List Symbol) → Formed IsProperSelection selection_form asked front → IsSelection asked front
selection_from asked front f =
    let parts = where_form asked.conds ++ group_form asked.group in
    record {
      first = asked.items;
      front = separated Comma item_form asked.items;
      behind = Keyword keyword.From ∷ Word asked.cube ∷ parts;
      whole = f.1;
      is_first = ((f.0.some, recursion_from_All IsProperItem asked.items f.0.each_item), refl);
      is_rest = (
        Word asked.cube ∷ parts,
        refl,
        (
          asked.cube,
          f.0.cube_name,
          parts,
          refl,
          record {
            first = asked.conds;
            front = where_form asked.conds;
            behind = group_form asked.group;
            whole = refl;
            is_first = (f.0.each_cond, refl);
            is_rest = record { value = asked.group; made = refl; form = (f.0.group_names, refl) };
          },
        ),
      );
    }

selection_reader : IsReader read_selection (Formed IsProperSelection selection_form) EndsSelection
unfolding read_selection
selection_reader =
    let conds = λ (items : List Item) (cube : List ℕ). sequence read_where (λ conds. sequence read_group (λ group. given (selection items cube conds group))) in
    reader_as read_selection IsSelection (Formed IsProperSelection selection_form) EndsSelection selection_to selection_from
    (sequence_reader (listed sign.Comma read_item) (λ items. sequence (expect (sign.Keyword keyword.From)) (λ u. sequence read_name (conds items))) (Formed (AreListed IsProperItem) (listed_form sign.Comma item_form)) BehindItems (Parted sign.Comma) EndsSelection
    (listed_reader sign.Comma read_item IsProperItem item_form item_reader)
    (λ items. signed_reader (sign.Keyword keyword.From) (sequence read_name (conds items)) (IsLed IsName Word (λ cube. IsThen (Formed AreConds where_form) (BehindConds items cube))) EndsSelection
    (led_reader read_name (conds items) IsName Word (λ cube. IsThen (Formed AreConds where_form) (BehindConds items cube)) EndsSelection name_reader (conds_reader items)))
    (λ items y front rest h e. rw h.1 refl))

-- ---- SELECT

abbrev select_of : Selection → List Test → List WrittenKey → Option ℕ → Statement
select_of asked having keys limit = statement.Select asked.items asked.cube asked.conds asked.group having (map sort_key_of keys) limit

abbrev BehindOrder : Selection → List Test → List WrittenKey → Statement → List Symbol → Type 0
BehindOrder asked having keys = IsMade (Formed IsProperLimit limit_form) (select_of asked having keys)

abbrev BehindHaving : Selection → List Test → Statement → List Symbol → Type 0
BehindHaving asked having = IsThen (Formed AreKeys (order_form key_form)) (BehindOrder asked having)

abbrev BehindSelection : Selection → Statement → List Symbol → Type 0
BehindSelection asked = IsThen (Formed AreTests having_form) (BehindHaving asked)

abbrev IsSelect : Statement → List Symbol → Type 0
IsSelect = IsThen (Formed IsProperSelection selection_form) BehindSelection

limit_ends : (limit : Option ℕ) → EndsOrder (limit_form limit)
limit_ends None = (refl, (refl, tt))
limit_ends (Some n) = (refl, (refl, refl))

order_ends : (keys : List WrittenKey) (limit : Option ℕ) → EndsHaving (order_form key_form keys ++ limit_form limit)
order_ends [] None = (refl, refl)
order_ends [] (Some n) = (refl, refl)
order_ends (key ∷ keys) limit = (refl, refl)

top_ends : (having : List Test) (keys : List WrittenKey) (limit : Option ℕ) → EndsSelection (top_form key_form having keys limit)
top_ends [] [] None = ((refl, refl), (refl, refl))
top_ends [] [] (Some n) = ((refl, refl), (refl, refl))
top_ends [] (key ∷ keys) limit = ((refl, refl), (refl, refl))
top_ends (test ∷ having) keys limit = ((refl, refl), (refl, refl))

-- what ends where nothing is left
ended_by : (E : List Symbol → Type 0) (front form rest : List Symbol) → front ≡ form → rest ≡ [] → E form → E (front ++ rest)
ended_by E front form rest e f ends = subst E (sym (ap (λ symbols. symbols ++ rest) e ∙ ap (λ symbols. form ++ symbols) f ∙ append-nil form)) ends

behind_having_form : (asked : Selection) (having : List Test) (s : Statement) (front : List Symbol) (h : BehindHaving asked having s front) → front ≡ order_form key_form h.first ++ limit_form h.is_rest.value
behind_having_form asked having s front h = rw (h.whole, h.is_first.1, h.is_rest.form.1) refl

behind_selection_form : (asked : Selection) (s : Statement) (front : List Symbol) (h : BehindSelection asked s front) → front ≡ top_form key_form h.first h.is_rest.first h.is_rest.is_rest.value
behind_selection_form asked s front h = rw (h.whole, h.is_first.1, behind_having_form asked h.first s h.behind h.is_rest) refl

order_part_reader : (asked : Selection) (having : List Test) → IsReader (sequence read_order (λ keys. sequence read_limit (λ limit. given (select_of asked having keys limit)))) (BehindHaving asked having) IsEnd
order_part_reader asked having =
    sequence_reader read_order (λ keys. sequence read_limit (λ limit. given (select_of asked having keys limit))) (Formed AreKeys (order_form key_form)) (BehindOrder asked having) EndsOrder IsEnd order_reader
    (λ keys. made_reader read_limit (select_of asked having keys) (Formed IsProperLimit limit_form) IsEnd (reader_ends read_limit (Formed IsProperLimit limit_form) EndsLimit IsEnd (λ rest e. rw e (refl, tt)) limit_reader))
    (λ keys y front rest h e. ended_by EndsOrder front (limit_form h.value) rest h.form.1 e (limit_ends h.value))

top_reader : (asked : Selection) → IsReader (sequence read_having (λ having. sequence read_order (λ keys. sequence read_limit (λ limit. given (select_of asked having keys limit))))) (BehindSelection asked) IsEnd
top_reader asked =
    sequence_reader read_having (λ having. sequence read_order (λ keys. sequence read_limit (λ limit. given (select_of asked having keys limit)))) (Formed AreTests having_form) (BehindHaving asked) EndsHaving IsEnd having_reader (order_part_reader asked)
    (λ having y front rest h e. ended_by EndsHaving front (order_form key_form h.first ++ limit_form h.is_rest.value) rest (behind_having_form asked having y front h) e (order_ends h.first h.is_rest.value))

select_reader : IsReader read_select IsSelect IsEnd
unfolding read_select
select_reader =
    sequence_reader read_selection (λ asked. sequence read_having (λ having. sequence read_order (λ keys. sequence read_limit (λ limit. given (select_of asked having keys limit))))) (Formed IsProperSelection selection_form) BehindSelection EndsSelection IsEnd selection_reader top_reader
    (λ asked y front rest h e. ended_by EndsSelection front (top_form key_form h.first h.is_rest.first h.is_rest.is_rest.value) rest (behind_selection_form asked y front h) e (top_ends h.first h.is_rest.first h.is_rest.is_rest.value))

-- ---- WATCH

abbrev watch_of : Selection → Statement
watch_of asked = statement.Watch asked.items asked.cube asked.conds asked.group

abbrev IsWatch : Statement → List Symbol → Type 0
IsWatch = IsSigned (sign.Keyword keyword.Select) (IsMade (Formed IsProperSelection selection_form) watch_of)

watch_reader : IsReader read_watch IsWatch IsEnd
unfolding read_watch
watch_reader =
    signed_reader (sign.Keyword keyword.Select) (sequence read_selection (λ asked. given (watch_of asked))) (IsMade (Formed IsProperSelection selection_form) watch_of) IsEnd
    (made_reader read_selection watch_of (Formed IsProperSelection selection_form) IsEnd (reader_ends read_selection (Formed IsProperSelection selection_form) EndsSelection IsEnd (λ rest e. rw e ((refl, refl), (refl, refl))) selection_reader))

-- ---- INSERT, LOAD and DELETE

abbrev IsInsert : Statement → List Symbol → Type 0
IsInsert =
    IsSigned (sign.Keyword keyword.Into) (IsLed IsName Word (λ cube. IsSigned (sign.Keyword keyword.Values) (IsMade (Formed (AreListed IsProperTuple) (listed_form sign.Comma tuple_form)) (λ rows. statement.Insert cube rows))))

insert_reader : IsReader read_insert IsInsert IsEnd
unfolding read_insert
insert_reader =
    let made = λ (cube : List ℕ) (rows : List (List Value)). statement.Insert cube rows in
    let Rows = IsMade (Formed (AreListed IsProperTuple) (listed_form sign.Comma tuple_form)) in
    let rows = λ (cube : List ℕ). sequence (listed sign.Comma read_tuple) (λ rows. given (made cube rows)) in
    signed_reader (sign.Keyword keyword.Into) (sequence read_name (λ cube. sequence (expect (sign.Keyword keyword.Values)) (λ u. rows cube))) (IsLed IsName Word (λ cube. IsSigned (sign.Keyword keyword.Values) (Rows (made cube)))) IsEnd
    (led_reader read_name (λ cube. sequence (expect (sign.Keyword keyword.Values)) (λ u. rows cube)) IsName Word (λ cube. IsSigned (sign.Keyword keyword.Values) (Rows (made cube))) IsEnd name_reader
    (λ cube. signed_reader (sign.Keyword keyword.Values) (rows cube) (Rows (made cube)) IsEnd
    (made_reader (listed sign.Comma read_tuple) (made cube) (Formed (AreListed IsProperTuple) (listed_form sign.Comma tuple_form)) IsEnd
    (reader_ends (listed sign.Comma read_tuple) (Formed (AreListed IsProperTuple) (listed_form sign.Comma tuple_form)) (Parted sign.Comma) IsEnd (λ rest e. rw e refl) (listed_reader sign.Comma read_tuple IsProperTuple tuple_form tuple_reader)))))

abbrev IsRejected : List ℕ → List ℕ → Statement → List Symbol → Type 0
IsRejected cube path = IsSigned (sign.Keyword keyword.Reject) (IsMade (Formed IsCount (λ n. Number (pos n) ∷ [])) (λ n. statement.Load cube path n))

abbrev IsLoad : Statement → List Symbol → Type 0
IsLoad = IsLed IsName Word (λ cube. IsSigned (sign.Keyword keyword.From) (IsLed Any Text (IsRejected cube)))

load_reader : IsReader read_load IsLoad Always
unfolding read_load
load_reader =
    let count = λ (cube path : List ℕ). sequence read_count (λ n. given (statement.Load cube path n)) in
    let reject = λ (cube path : List ℕ). sequence (expect (sign.Keyword keyword.Reject)) (λ u. count cube path) in
    led_reader read_name (λ cube. sequence (expect (sign.Keyword keyword.From)) (λ u. sequence read_text (reject cube))) IsName Word (λ cube. IsSigned (sign.Keyword keyword.From) (IsLed Any Text (IsRejected cube))) Always name_reader
    (λ cube. signed_reader (sign.Keyword keyword.From) (sequence read_text (reject cube)) (IsLed Any Text (IsRejected cube)) Always
    (led_reader read_text (reject cube) Any Text (IsRejected cube) Always text_reader
    (λ path. signed_reader (sign.Keyword keyword.Reject) (count cube path) (IsMade (Formed IsCount (λ n. Number (pos n) ∷ [])) (λ n. statement.Load cube path n)) Always
    (made_reader read_count (λ n. statement.Load cube path n) (Formed IsCount (λ n. Number (pos n) ∷ [])) Always count_reader))))

abbrev IsDelete : Statement → List Symbol → Type 0
IsDelete = IsSigned (sign.Keyword keyword.From) (IsLed IsName Word (λ cube. IsMade (Formed AreConds where_form) (λ conds. statement.Delete cube conds)))

delete_reader : IsReader read_delete IsDelete IsEnd
unfolding read_delete
delete_reader =
    let Conds = λ (cube : List ℕ). IsMade (Formed AreConds where_form) (λ conds. statement.Delete cube conds) in
    let conds = λ (cube : List ℕ). sequence read_where (λ conds. given (statement.Delete cube conds)) in
    signed_reader (sign.Keyword keyword.From) (sequence read_name conds) (IsLed IsName Word Conds) IsEnd
    (led_reader read_name conds IsName Word Conds IsEnd name_reader
    (λ cube. made_reader read_where (λ conds. statement.Delete cube conds) (Formed AreConds where_form) IsEnd (reader_ends read_where (Formed AreConds where_form) EndsWhere IsEnd (λ rest e. rw e (refl, refl)) where_reader)))

-- ---- CREATE CUBE and SHOW

abbrev create_of : List ℕ → List Column → Statement
create_of name columns = statement.CreateCube (decl_of name columns)

abbrev AreColumns : List Column → List Symbol → Type 0
AreColumns = Formed (AreEnclosed IsProperColumn) (list_form column_form)

abbrev IsCreate : Statement → List Symbol → Type 0
IsCreate = IsSigned (sign.Keyword keyword.Cube) (IsLed IsName Word (λ name. IsMade AreColumns (create_of name)))

create_reader : IsReader read_create IsCreate Always
unfolding read_create
create_reader =
    let columns = λ (name : List ℕ). sequence (enclosed read_column) (λ columns. given (create_of name columns)) in
    signed_reader (sign.Keyword keyword.Cube) (sequence read_name columns) (IsLed IsName Word (λ name. IsMade AreColumns (create_of name))) Always
    (led_reader read_name columns IsName Word (λ name. IsMade AreColumns (create_of name)) Always name_reader
    (λ name. made_reader (enclosed read_column) (create_of name) AreColumns Always (enclosed_reader read_column IsProperColumn column_form column_reader)))

abbrev IsShow : Statement → List Symbol → Type 0
IsShow = IsMade (Formed Any (λ s. Keyword (shown_keyword s) ∷ [])) statement_shown

show_reader : IsReader read_show IsShow Always
unfolding read_show
show_reader = made_reader (read_first shown_in) statement_shown (Formed Any (λ s. Keyword (shown_keyword s) ∷ [])) Always shown_reader

-- ---- all forms

-- What comes behind the first word of a statement.
abbrev pub BehindVerb : Verb → Statement → List Symbol → Type 0
BehindVerb verb.Select = IsSelect
BehindVerb verb.Insert = IsInsert
BehindVerb verb.Load = IsLoad
BehindVerb verb.Delete = IsDelete
BehindVerb verb.Begin = IsDone statement.Begin
BehindVerb verb.Commit = IsDone statement.Commit
BehindVerb verb.Rollback = IsDone statement.Rollback
BehindVerb verb.Flush = IsDone statement.Flush
BehindVerb verb.Purge = IsDone statement.Purge
BehindVerb verb.Show = IsShow
BehindVerb verb.Create = IsCreate
BehindVerb verb.Watch = IsWatch

-- a reader that ends anywhere ends there
at_end : (read : List Symbol → Readout Statement) (F : Statement → List Symbol → Type 0) → IsReader read F Always → IsReader read F IsEnd
at_end read F r = reader_ends read F Always IsEnd (λ rest e. tt) r

alone : (s : Statement) → IsReader (given s) (IsDone s) IsEnd
alone s = at_end (given s) (IsDone s) (done_reader s)

behind_reader : (v : Verb) → IsReader (statement_behind v) (BehindVerb v) IsEnd
behind_reader verb.Select = select_reader
behind_reader verb.Insert = insert_reader
behind_reader verb.Load = at_end read_load IsLoad load_reader
behind_reader verb.Delete = delete_reader
behind_reader verb.Begin = alone statement.Begin
behind_reader verb.Commit = alone statement.Commit
behind_reader verb.Rollback = alone statement.Rollback
behind_reader verb.Flush = alone statement.Flush
behind_reader verb.Purge = alone statement.Purge
behind_reader verb.Show = at_end read_show IsShow show_reader
behind_reader verb.Create = at_end read_create IsCreate create_reader
behind_reader verb.Watch = watch_reader

-- A form of a statement, and one that may stand there.
pub record HasForm (s : Statement) (symbols : List Symbol) : Type 0 where
  pub proper : IsProper s
  pub form : IsFormOf s symbols

-- the keys that are written stand for proper ones
keys_proper : (keys : List WrittenKey) → AllByRecursion IsProperKey keys → AllByRecursion (λ (key : Key). IsProperItem key.item) (map sort_key_of keys)
keys_proper [] all = tt
keys_proper (key ∷ keys) all = (all.0, keys_proper keys all.1)

keys_written : (keys : List WrittenKey) → AllByRecursion (λ (key : Key). IsProperItem key.item) (map sort_key_of keys) → AllByRecursion IsProperKey keys
keys_written [] all = tt
keys_written (key ∷ keys) all = (all.0, keys_written keys all.1)

select_to : (s : Statement) (front rest : List Symbol) → front ≡ Keyword keyword.Select ∷ rest → IsSelect s rest → HasForm s front
select_to s front rest e h =
    let keys = h.is_rest.is_rest in
    let limit = keys.is_rest in
    let order = All-from_recursion (λ (key : Key). IsProperItem key.item) (map sort_key_of keys.first) (keys_proper keys.first keys.is_first.0) in
    rw limit.made
    (record {
      proper = (h.is_first.0, record { each_test = h.is_rest.is_first.0; each_key = order; most = limit.form.0 });
      form = (keys.first, refl, rw (e, h.whole, h.is_first.1, behind_selection_form h.first s h.behind h.is_rest) refl);
    })

insert_to : (s : Statement) (front rest : List Symbol) → front ≡ Keyword keyword.Insert ∷ rest → IsInsert s rest → HasForm s front
insert_to s front rest e h =
    let cube = h.2 in
    let rows = cube.4.2 in
    rw rows.made (record { proper = (cube.1, rows.form.0.0, All-from_recursion IsProperTuple rows.value rows.form.0.1); form = rw (e, h.1, cube.3, cube.4.1, rows.form.1) refl })

load_to : (s : Statement) (front rest : List Symbol) → front ≡ Keyword keyword.Load ∷ rest → IsLoad s rest → HasForm s front
load_to s front rest e h =
    let path = h.4.2 in
    let count = path.4.2 in
    rw count.made (record { proper = (h.1, count.form.0); form = rw (e, h.3, h.4.1, path.3, path.4.1, count.form.1) refl })

delete_to : (s : Statement) (front rest : List Symbol) → front ≡ Keyword keyword.Delete ∷ rest → IsDelete s rest → HasForm s front
delete_to s front rest e h =
    let cube = h.2 in
    let conds = cube.4 in
    rw conds.made (record { proper = (cube.1, conds.form.0); form = rw (e, h.1, cube.3, conds.form.1) refl })

create_to : (s : Statement) (front rest : List Symbol) → front ≡ Keyword keyword.Create ∷ rest → IsCreate s rest → HasForm s front
create_to s front rest e h =
    let name = h.2 in
    let columns = name.4 in
    let all = sorted_proper columns.value (recursion_from_All IsProperColumn columns.value columns.form.0.1) in
    let some : 0 < length (sorted columns.value) = omega (arith, columns.form.0.0, sorted_length columns.value) in
    rw columns.made
    (record {
      proper = (name.1, (some, All-from_recursion IsProperColumn (sorted columns.value) all));
      form = (columns.value, refl, rw (e, h.1, name.3, columns.form.1) refl);
    })

show_to : (s : Statement) (front rest : List Symbol) (what : Shown) → front ≡ Keyword keyword.Show ∷ rest → s ≡ statement_shown what → rest ≡ Keyword (shown_keyword what) ∷ [] → HasForm s front
show_to s front rest shown.Epochs e made f = rw made (record { proper = tt; form = rw (e, f) refl })
show_to s front rest shown.Watch e made f = rw made (record { proper = tt; form = rw (e, f) refl })

watch_to : (s : Statement) (front rest : List Symbol) → front ≡ Keyword keyword.Watch ∷ rest → IsWatch s rest → HasForm s front
watch_to s front rest e h =
    let asked = h.2 in
    rw asked.made (record { proper = asked.form.0; form = rw (e, h.1, asked.form.1) refl })

statement_to : (v : Verb) (s : Statement) (front rest : List Symbol) → front ≡ Keyword (verb_keyword v) ∷ rest → BehindVerb v s rest → HasForm s front
statement_to verb.Select s front rest e h = select_to s front rest e h
statement_to verb.Insert s front rest e h = insert_to s front rest e h
statement_to verb.Load s front rest e h = load_to s front rest e h
statement_to verb.Delete s front rest e h = delete_to s front rest e h
statement_to verb.Begin s front rest e h = rw h.0 (record { proper = tt; form = rw (e, h.1) refl })
statement_to verb.Commit s front rest e h = rw h.0 (record { proper = tt; form = rw (e, h.1) refl })
statement_to verb.Rollback s front rest e h = rw h.0 (record { proper = tt; form = rw (e, h.1) refl })
statement_to verb.Flush s front rest e h = rw h.0 (record { proper = tt; form = rw (e, h.1) refl })
statement_to verb.Purge s front rest e h = rw h.0 (record { proper = tt; form = rw (e, h.1) refl })
statement_to verb.Show s front rest e h = show_to s front rest h.value e h.made h.form.1
statement_to verb.Create s front rest e h = create_to s front rest e h
statement_to verb.Watch s front rest e h = watch_to s front rest e h

abbrev IsBegun : Statement → List Symbol → Type 0
IsBegun = IsLed Any (λ v. Keyword (verb_keyword v)) BehindVerb

select_from : (asked : Selection) (having : List Test) (order : List Key) (limit : Option ℕ) (keys : List WrittenKey) → order ≡ map sort_key_of keys → IsProperSelection asked → IsProperTop having order limit
    → IsSelect (statement.Select asked.items asked.cube asked.conds asked.group having order limit) (selection_form asked ++ top_form key_form having keys limit)
select_from asked having order limit keys e p q = record {
  first = asked;
  front = selection_form asked;
  behind = top_form key_form having keys limit;
  whole = refl;
  is_first = (p, refl);
  is_rest = record {
    first = having;
    front = having_form having;
    behind = order_form key_form keys ++ limit_form limit;
    whole = refl;
    is_first = (q.each_test, refl);
    is_rest = record {
      first = keys;
      front = order_form key_form keys;
      behind = limit_form limit;
      whole = refl;
      is_first = (keys_written keys (subst (λ (ks : List Key). AllByRecursion (λ (key : Key). IsProperItem key.item) ks) e (recursion_from_All (λ (key : Key). IsProperItem key.item) order q.each_key)), refl);
      is_rest = record { value = limit; made = ap (λ (ks : List Key). statement.Select asked.items asked.cube asked.conds asked.group having ks limit) e; form = (q.most, refl) };
    };
  };
}

insert_from : (cube : List ℕ) (rows : List (List Value)) → IsProper (statement.Insert cube rows) → IsInsert (statement.Insert cube rows) (Keyword keyword.Into ∷ Word cube ∷ Keyword keyword.Values ∷ separated Comma tuple_form rows)
insert_from cube rows p =
    let listed = separated Comma tuple_form rows in
    (Word cube ∷ Keyword keyword.Values ∷ listed, refl, (cube, p.0, Keyword keyword.Values ∷ listed, refl, (listed, refl, record { value = rows; made = refl; form = ((p.1, recursion_from_All IsProperTuple rows p.2), refl) })))

load_from : (cube path : List ℕ) (n : ℕ) → IsProper (statement.Load cube path n) → IsLoad (statement.Load cube path n) (Word cube ∷ Keyword keyword.From ∷ Text path ∷ Keyword keyword.Reject ∷ Number (pos n) ∷ [])
load_from cube path n p =
    let last = Keyword keyword.Reject ∷ Number (pos n) ∷ [] in
    (cube, p.0, Keyword keyword.From ∷ Text path ∷ last, refl, (Text path ∷ last, refl, (path, tt, last, refl, (Number (pos n) ∷ [], refl, record { value = n; made = refl; form = (p.1, refl) }))))

delete_from : (cube : List ℕ) (conds : List Cond) → IsProper (statement.Delete cube conds) → IsDelete (statement.Delete cube conds) (Keyword keyword.From ∷ Word cube ∷ where_form conds)
delete_from cube conds p = (Word cube ∷ where_form conds, refl, (cube, p.0, where_form conds, refl, record { value = conds; made = refl; form = (p.1, refl) }))

columns_proper : (name : List ℕ) (columns : List Column) (d : Decl) → d ≡ decl_of name columns → AreEnclosed IsProperColumn (columns_of d) → AreEnclosed IsProperColumn columns
columns_proper name columns d e p =
    let q : AreEnclosed IsProperColumn (sorted columns) = subst (λ (decl : Decl). AreEnclosed IsProperColumn (columns_of decl)) e p in
    (omega (arith, q.0, sorted_length columns), All-from_recursion IsProperColumn columns (unsorted_proper columns (recursion_from_All IsProperColumn (sorted columns) q.1)))

create_from : (d : Decl) (columns : List Column) → d ≡ decl_of d.name columns → IsProper (statement.CreateCube d) → IsCreate (statement.CreateCube d) (Keyword keyword.Cube ∷ Word d.name ∷ list_form column_form columns)
create_from d columns e p =
    let listed = list_form column_form columns in
    (Word d.name ∷ listed, refl, (d.name, p.0, listed, refl, record { value = columns; made = ap (λ (decl : Decl). statement.CreateCube decl) e; form = (columns_proper d.name columns d e p.1, refl) }))

statement_from : (s : Statement) (front : List Symbol) → HasForm s front → IsBegun s front
statement_from (statement.Select items cube conds group having order limit) front f =
    let asked = selection items cube conds group in
    let keys = f.form.0 in
    (verb.Select, tt, selection_form asked ++ top_form key_form having keys limit, f.form.2, select_from asked having order limit keys f.form.1 f.proper.0 f.proper.1)
statement_from (statement.Insert cube rows) front f = (verb.Insert, tt, Keyword keyword.Into ∷ Word cube ∷ Keyword keyword.Values ∷ separated Comma tuple_form rows, f.form, insert_from cube rows f.proper)
statement_from (statement.Load cube path n) front f = (verb.Load, tt, Word cube ∷ Keyword keyword.From ∷ Text path ∷ Keyword keyword.Reject ∷ Number (pos n) ∷ [], f.form, load_from cube path n f.proper)
statement_from (statement.Delete cube conds) front f = (verb.Delete, tt, Keyword keyword.From ∷ Word cube ∷ where_form conds, f.form, delete_from cube conds f.proper)
statement_from statement.Begin front f = (verb.Begin, tt, [], f.form, (refl, refl))
statement_from statement.Commit front f = (verb.Commit, tt, [], f.form, (refl, refl))
statement_from statement.Rollback front f = (verb.Rollback, tt, [], f.form, (refl, refl))
statement_from statement.Flush front f = (verb.Flush, tt, [], f.form, (refl, refl))
statement_from statement.Purge front f = (verb.Purge, tt, [], f.form, (refl, refl))
statement_from statement.ShowEpochs front f = (verb.Show, tt, Keyword keyword.Epochs ∷ [], f.form, record { value = shown.Epochs; made = refl; form = (tt, refl) })
statement_from (statement.CreateCube d) front f = (verb.Create, tt, Keyword keyword.Cube ∷ Word d.name ∷ list_form column_form f.form.0, f.form.2, create_from d f.form.0 f.form.1 f.proper)
statement_from (statement.Watch items cube conds group) front f =
    let asked = selection items cube conds group in
    let behind = selection_form asked in
    (verb.Watch, tt, Keyword keyword.Select ∷ behind, f.form, (behind, refl, record { value = asked; made = refl; form = (f.proper, refl) }))
statement_from statement.ShowWatch front f = (verb.Show, tt, Keyword keyword.Watch ∷ [], f.form, record { value = shown.Watch; made = refl; form = (tt, refl) })

begun_reader : IsReader read_begun HasForm IsEnd
unfolding read_begun
begun_reader =
    reader_as read_begun IsBegun HasForm IsEnd (λ s front h. statement_to h.0 s front h.2 h.3 h.4) statement_from
    (led_reader (read_first verb_in) statement_behind Any (λ v. Keyword (verb_keyword v)) BehindVerb IsEnd verb_reader behind_reader)

-- ---- nothing is left

ended_tells : (s : Statement) (symbols : List Symbol) → Tells (ended s) (IsDone s) symbols (ended s symbols)
ended_tells s [] = record { front = []; whole = refl; form = (refl, refl); local = λ next behind other e. absurd cc }
ended_tells s (symbol ∷ symbols) = record { front = []; rest = symbol ∷ symbols; whole = refl; left_is = refl; value = s; more = []; form = (refl, refl); local = λ next behind other e. refl }

ended_reader : (s : Statement) → IsReader (ended s) (IsDone s) IsEnd
ended_reader s = record {
  value = s;
  example = [];
  form = (refl, refl);
  tells = ended_tells s;
  again = λ y front rest f e. rw (f.1, e, f.0) refl;
}

done_form : (s : Statement) (front : List Symbol) → IsThen HasForm IsDone s front → HasForm s front
done_form s front h =
    let whole : front ≡ h.front = h.whole ∙ ap (λ rest. h.front ++ rest) h.is_rest.1 ∙ append-nil h.front in
    subst (λ symbols. HasForm s symbols) (sym whole) (subst (λ (t : Statement). HasForm t h.front) (sym h.is_rest.0) h.is_first)

pub statement_reader : IsReader read_statement HasForm IsEnd
unfolding read_statement
statement_reader =
    reader_as read_statement (IsThen HasForm IsDone) HasForm IsEnd done_form
    (λ s front f. record { first = s; front = front; behind = []; whole = sym (append-nil front); is_first = f; is_rest = (refl, refl) })
    (sequence_reader read_begun ended HasForm IsDone IsEnd IsEnd begun_reader ended_reader (λ s y front rest h e. rw (h.1, e) refl))
