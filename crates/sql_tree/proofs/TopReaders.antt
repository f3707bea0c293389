-- The readers of HAVING, ORDER BY and LIMIT.
use Rattle.std.proofs.Common.{◌≡◌, ℕ, ℤ, ◌<◌, List, [], ◌∷◌, ◌++◌, length, Option, Some, None, inl, inr, pos, refl, sym, ap, ◌∙◌, arith}
use Rattle.std.specs.Prelude.{All, FitsSigned}
use Rattle.std.specs.Int.{w64}
use Rattle.std.specs.List.{AllByRecursion}
use Rattle.std.proofs.lemmas.List.Elements.{All-from_recursion, recursion_from_All}
use Rattle.cube_values.specs.declared.top_plan.Bound.{Bound}
use Rattle.cube_values.specs.declared.top_plan.Bound.TheVariants as bound
use Rattle.cube_language.specs.declared.keyword.Keyword.TheVariants as keyword
use Rattle.cube_language.specs.declared.statement.Item.{Item}
use Rattle.cube_language.specs.declared.statement.Item.TheVariants as item
use Rattle.cube_language.specs.declared.statement.Test.{Test}
use Rattle.cube_language.specs.declared.written.Direction.{Direction}
use Rattle.cube_language.specs.declared.written.Direction.TheVariants as direction
use Rattle.cube_language.specs.declared.written.WrittenKey.{WrittenKey}
use Rattle.cube_language.specs.Grammar.{separated, number_form, list_form, item_form, bound_form, test_form, having_form, direction_form, key_form, order_form, limit_form, IsProperItem, IsProperBound, IsAggregate, IsProperTest, IsProperLimit}
use Rattle.cube_language.specs.declared.symbol.Symbol.{Symbol}
use Rattle.cube_language.specs.declared.symbol.Symbol.TheVariants.{Keyword, Number, Comma, Equals}
use Rattle.sql_tree.specs.declared.head.Aggregate.{Aggregate}
use Rattle.sql_tree.specs.declared.head.Aggregate.TheVariants as aggregate
use Rattle.sql_tree.specs.declared.head.Operator.{Operator}
use Rattle.sql_tree.specs.declared.head.Operator.TheVariants as operator
use Rattle.sql_tree.specs.declared.head.Sign.TheVariants as sign
use Rattle.sql_tree.specs.Reading.{Readout, Aggregated, read_first, expect, enclosed, listed, operator_in, aggregate_in, direction_in, item_behind, bound_behind, read_number, read_count, read_item, read_bound, read_aggregate, read_test, read_having, read_direction, read_key, read_keys, read_order, read_some_count, read_limit}
use Rattle.sql_tree.proofs.Readers.{given, Tells, IsReader, Always, Formed, IsMade, IsThen, IsLed, sequence, reader_as, sequence_reader, made_reader, led_reader}
use Rattle.sql_tree.proofs.ReadersOfLists.{AreListed, listed_form, Parted, EndsList, IsOptional, list_reader, listed_reader, optional_reader}
use Rattle.sql_tree.proofs.SymbolReaders.{Any, IsCount, IsSigned, aggregate_keyword, operator_symbol, signed_reader, number_reader, number_symbol_reader, count_reader, operator_reader, aggregate_word_reader}
use Rattle.sql_tree.proofs.PartReaders.{AreEnclosed, BehindHead, metric_form, star_form, enclosed_reader, head_behind_reader, item_to, item_reader}

-- ---- tests

abbrev AreNumbers : List ℤ → Type 0
AreNumbers = AreEnclosed (FitsSigned w64)

-- What comes behind the operator of a test.
abbrev BehindOperator : Operator → Bound → List Symbol → Type 0
BehindOperator operator.Equal = IsMade (Formed (FitsSigned w64) number_form) bound.Equal
BehindOperator operator.In = IsMade (Formed AreNumbers (list_form number_form)) bound.In
BehindOperator operator.Between =
    IsLed (FitsSigned w64) Number (λ first. IsSigned (sign.Keyword keyword.And) (IsMade (Formed (FitsSigned w64) number_form) (λ last. bound.Between first last)))

bound_behind_reader : (o : Operator) → IsReader (bound_behind o) (BehindOperator o) Always
bound_behind_reader operator.Equal = made_reader read_number bound.Equal (Formed (FitsSigned w64) number_form) Always number_reader
bound_behind_reader operator.In =
    made_reader (enclosed read_number) bound.In (Formed AreNumbers (list_form number_form)) Always (enclosed_reader read_number (FitsSigned w64) number_form number_reader)
bound_behind_reader operator.Between =
    led_reader read_number (λ first. sequence (expect (sign.Keyword keyword.And)) (λ u. sequence read_number (λ last. given (bound.Between first last)))) (FitsSigned w64) Number
    (λ first. IsSigned (sign.Keyword keyword.And) (IsMade (Formed (FitsSigned w64) number_form) (λ last. bound.Between first last))) Always number_symbol_reader
    (λ first. signed_reader (sign.Keyword keyword.And) (sequence read_number (λ last. given (bound.Between first last))) (IsMade (Formed (FitsSigned w64) number_form) (λ last. bound.Between first last)) Always
    (made_reader read_number (λ last. bound.Between first last) (Formed (FitsSigned w64) number_form) Always number_reader))

bound_to : (o : Operator) (b : Bound) (front rest : List Symbol) → front ≡ operator_symbol o ∷ rest → BehindOperator o b rest → Formed IsProperBound bound_form b front
bound_to operator.Equal b front rest e h = (rw h.made h.form.0, rw (h.made, e, h.form.1) refl)
bound_to operator.In b front rest e h = (rw h.made h.form.0, rw (h.made, e, h.form.1) refl)
bound_to operator.Between b front rest e h =
    let last = h.4.2 in
    (rw last.made (h.1, last.form.0), rw (last.made, e, h.3, h.4.1, last.form.1) refl)

bound_from : (b : Bound) (front : List Symbol) → Formed IsProperBound bound_form b front → IsLed Any operator_symbol BehindOperator b front
bound_from (bound.Equal n) front f = (operator.Equal, tt, number_form n, f.1, record { value = n; made = refl; form = (f.0, refl) })
bound_from (bound.In numbers) front f = (operator.In, tt, list_form number_form numbers, f.1, record { value = numbers; made = refl; form = (f.0, refl) })
bound_from (bound.Between first last) front f =
    let behind = Keyword keyword.And ∷ number_form last in
    (operator.Between, tt, Number first ∷ behind, f.1, (first, f.0.0, behind, refl, (number_form last, refl, record { value = last; made = refl; form = (f.0.1, refl) })))

bound_reader : IsReader read_bound (Formed IsProperBound bound_form) Always
unfolding read_bound
bound_reader =
    reader_as read_bound (IsLed Any operator_symbol BehindOperator) (Formed IsProperBound bound_form) Always (λ b front h. bound_to h.0 b front h.2 h.3 h.4) bound_from
    (led_reader (read_first operator_in) bound_behind Any operator_symbol BehindOperator Always operator_reader bound_behind_reader)

-- An item that is an aggregate.
pub record IsProperAggregate (x : Item) : Type 0 where
  pub aggregate : IsAggregate x
  pub item : IsProperItem x

abbrev aggregate_symbol : Aggregate → Symbol
aggregate_symbol a = Keyword (aggregate_keyword a)

abbrev BehindAggregate : Aggregate → Item → List Symbol → Type 0
BehindAggregate a = BehindHead (Aggregated a)

is_aggregate : (a : Aggregate) (x : Item) (rest : List Symbol) → BehindAggregate a x rest → IsAggregate x
is_aggregate aggregate.Sum x rest h = rw h.made tt
is_aggregate aggregate.Min x rest h = rw h.made tt
is_aggregate aggregate.Max x rest h = rw h.made tt
is_aggregate aggregate.Avg x rest h = rw h.made tt
is_aggregate aggregate.Count x rest h = rw h.made tt

aggregate_to : (a : Aggregate) (x : Item) (front rest : List Symbol) → front ≡ aggregate_symbol a ∷ rest → BehindAggregate a x rest → Formed IsProperAggregate item_form x front
aggregate_to a x front rest e h =
    let whole = item_to (Aggregated a) x front rest tt e h in
    (record { aggregate = is_aggregate a x rest h; item = whole.0 }, whole.1)

aggregate_from : (x : Item) (front : List Symbol) → Formed IsProperAggregate item_form x front → IsLed Any aggregate_symbol BehindAggregate x front
aggregate_from (item.Plain name) front f = absurd f.0.aggregate
aggregate_from (item.Sum metric) front f = (aggregate.Sum, tt, metric_form metric, f.1, record { value = metric; made = refl; form = (f.0.item, refl) })
aggregate_from (item.Min metric) front f = (aggregate.Min, tt, metric_form metric, f.1, record { value = metric; made = refl; form = (f.0.item, refl) })
aggregate_from (item.Max metric) front f = (aggregate.Max, tt, metric_form metric, f.1, record { value = metric; made = refl; form = (f.0.item, refl) })
aggregate_from (item.Avg metric) front f = (aggregate.Avg, tt, metric_form metric, f.1, record { value = metric; made = refl; form = (f.0.item, refl) })
aggregate_from item.CountAll front f = (aggregate.Count, tt, star_form tt, f.1, record { value = tt; made = refl; form = (tt, refl) })

aggregate_reader : IsReader read_aggregate (Formed IsProperAggregate item_form) Always
unfolding read_aggregate
aggregate_reader =
    reader_as read_aggregate (IsLed Any aggregate_symbol BehindAggregate) (Formed IsProperAggregate item_form) Always (λ x front h. aggregate_to h.0 x front h.2 h.3 h.4) aggregate_from
    (led_reader (read_first aggregate_in) (λ a. item_behind (Aggregated a)) Any aggregate_symbol BehindAggregate Always aggregate_word_reader (λ a. head_behind_reader (Aggregated a)))

abbrev test_of : Item → Bound → Test
test_of x b = record { item = x; bound = b }

abbrev IsTest : Test → List Symbol → Type 0
IsTest = IsThen (Formed IsProperAggregate item_form) (λ x. IsMade (Formed IsProperBound bound_form) (test_of x))

test_to : (t : Test) (front : List Symbol) → IsTest t front → Formed IsProperTest test_form t front
test_to t front h =
    let b = h.is_rest in
    (rw b.made (record { aggregate = h.is_first.0.aggregate; item = h.is_first.0.item; bound = b.form.0 }), rw (b.made, h.whole, h.is_first.1, b.form.1) refl)

test_from : (t : Test) (front : List Symbol) → Formed IsProperTest test_form t front → IsTest t front
test_from t front f = record {
  first = t.item;
  front = item_form t.item;
  behind = bound_form t.bound;
  whole = f.1;
  is_first = (record { aggregate = f.0.aggregate; item = f.0.item }, refl);
  is_rest = record { value = t.bound; made = refl; form = (f.0.bound, refl) };
}

test_reader : IsReader read_test (Formed IsProperTest test_form) Always
unfolding read_test
test_reader =
    reader_as read_test IsTest (Formed IsProperTest test_form) Always test_to test_from
    (sequence_reader read_aggregate (λ x. sequence read_bound (λ b. given (test_of x b))) (Formed IsProperAggregate item_form) (λ x. IsMade (Formed IsProperBound bound_form) (test_of x)) Always Always aggregate_reader
    (λ x. made_reader read_bound (test_of x) (Formed IsProperBound bound_form) Always bound_reader)
    (λ x y front rest h e. tt))

-- ---- HAVING

abbrev IsHaving : List Test → List Symbol → Type 0
IsHaving = IsOptional (sign.Keyword keyword.Having) [] (Formed (AreListed IsProperTest) (listed_form (sign.Keyword keyword.And) test_form))

abbrev pub AreTests : List Test → Type 0
AreTests tests = All IsProperTest tests

-- The rest goes on with no further test.
abbrev pub EndsHaving : List Symbol → Type 0
EndsHaving = EndsList (sign.Keyword keyword.Having) (Parted (sign.Keyword keyword.And))

having_some : (tests : List Test) → 0 < length tests → having_form tests ≡ Keyword keyword.Having ∷ separated (Keyword keyword.And) test_form tests
having_some [] some = absurd (omega arith)
having_some (test ∷ tests) some = refl

having_to : (tests : List Test) (front : List Symbol) → IsHaving tests front → Formed AreTests having_form tests front
having_to tests front h =
    elim h [
      | inl none ↦ (rw none.0 (All-from_recursion IsProperTest [] tt), rw (none.0, none.1) refl)
      | inr some ↦ (All-from_recursion IsProperTest tests some.2.0.1, some.1 ∙ ap (λ rest. Keyword keyword.Having ∷ rest) some.2.1 ∙ sym (having_some tests some.2.0.0))
    ]

having_from : (tests : List Test) (front : List Symbol) → Formed AreTests having_form tests front → IsHaving tests front
having_from [] front f = inl (refl, f.1)
having_from (test ∷ tests) front f =
    inr (separated (Keyword keyword.And) test_form (test ∷ tests), f.1, ((omega arith, recursion_from_All IsProperTest (test ∷ tests) f.0), refl))

pub having_reader : IsReader read_having (Formed AreTests having_form) EndsHaving
unfolding read_having
having_reader =
    reader_as read_having IsHaving (Formed AreTests having_form) EndsHaving having_to having_from
    (optional_reader (sign.Keyword keyword.Having) [] (listed (sign.Keyword keyword.And) read_test) (Formed (AreListed IsProperTest) (listed_form (sign.Keyword keyword.And) test_form)) (Parted (sign.Keyword keyword.And))
    (listed_reader (sign.Keyword keyword.And) read_test IsProperTest test_form test_reader))

-- ---- keys

-- The rest goes on with no direction.
abbrev pub EndsKey : List Symbol → Type 0
EndsKey [] = Unit {0}
EndsKey (symbol ∷ rest) = direction_in symbol ≡ None

said_direction : (symbol : Symbol) (d : Direction) → direction_in symbol ≡ Some d → symbol ∷ [] ≡ direction_form d
said_direction (Keyword keyword.Asc) d e = let same : direction.Asc ≡ d = cc in ap direction_form same
said_direction (Keyword keyword.Desc) d e = let same : direction.Desc ≡ d = cc in ap direction_form same
said_direction symbol d e = absurd cc

direction_tells_one : (symbol : Symbol) (symbols : List Symbol) (o : Option Direction) → direction_in symbol ≡ o → Tells read_direction (Formed Any direction_form) (symbol ∷ symbols) (read_direction (symbol ∷ symbols))
unfolding read_direction
direction_tells_one symbol symbols (Some d) e =
    rw e (record { front = symbol ∷ []; whole = refl; form = (tt, said_direction symbol d e); local = λ next behind other same. rw e refl })
direction_tells_one symbol symbols None e =
    rw e (record { front = []; whole = refl; form = (tt, refl); local = λ next behind other same. let there : direction_in next ≡ None = cc in rw there refl })

direction_tells : (symbols : List Symbol) → Tells read_direction (Formed Any direction_form) symbols (read_direction symbols)
unfolding read_direction
direction_tells [] = record { front = []; whole = refl; form = (tt, refl); local = λ next behind other same. absurd cc }
direction_tells (symbol ∷ symbols) = direction_tells_one symbol symbols (direction_in symbol) refl

direction_again : (d : Direction) (rest : List Symbol) → EndsKey rest → read_direction (direction_form d ++ rest) ≡ given d rest
unfolding read_direction
direction_again direction.Unsaid [] e = refl
direction_again direction.Unsaid (symbol ∷ rest) e = rw e refl
direction_again direction.Asc rest e = refl
direction_again direction.Desc rest e = refl

direction_reader : IsReader read_direction (Formed Any direction_form) EndsKey
direction_reader = record {
  value = direction.Unsaid;
  example = [];
  form = (tt, refl);
  tells = direction_tells;
  again = λ d front rest f e. ap (λ (symbols : List Symbol). read_direction (symbols ++ rest)) f.1 ∙ direction_again d rest e;
}

abbrev written_key : Item → Direction → WrittenKey
written_key x d = record { item = x; direction = d }

abbrev IsKey : WrittenKey → List Symbol → Type 0
IsKey = IsThen (Formed IsProperItem item_form) (λ x. IsMade (Formed Any direction_form) (written_key x))

abbrev pub IsProperKey : WrittenKey → Type 0
IsProperKey key = IsProperItem key.item

key_to : (key : WrittenKey) (front : List Symbol) → IsKey key front → Formed IsProperKey key_form key front
key_to key front h =
    let d = h.is_rest in
    (rw d.made h.is_first.0, rw (d.made, h.whole, h.is_first.1, d.form.1) refl)

key_from : (key : WrittenKey) (front : List Symbol) → Formed IsProperKey key_form key front → IsKey key front
key_from key front f = record {
  first = key.item;
  front = item_form key.item;
  behind = direction_form key.direction;
  whole = f.1;
  is_first = (f.0, refl);
  is_rest = record { value = key.direction; made = refl; form = (tt, refl) };
}

key_reader : IsReader read_key (Formed IsProperKey key_form) EndsKey
unfolding read_key
key_reader =
    reader_as read_key IsKey (Formed IsProperKey key_form) EndsKey key_to key_from
    (sequence_reader read_item (λ x. sequence read_direction (λ d. given (written_key x d))) (Formed IsProperItem item_form) (λ x. IsMade (Formed Any direction_form) (written_key x)) Always EndsKey item_reader
    (λ x. made_reader read_direction (written_key x) (Formed Any direction_form) EndsKey direction_reader)
    (λ x y front rest h e. tt))

-- ---- ORDER BY

abbrev IsKeys : List WrittenKey → List Symbol → Type 0
IsKeys = IsSigned (sign.Keyword keyword.By) (Formed (AreListed IsProperKey) (listed_form sign.Comma key_form))

-- The rest goes on with no further key.
abbrev EndsKeys : List Symbol → Type 0
EndsKeys = EndsList sign.Comma EndsKey

keys_reader : IsReader read_keys IsKeys EndsKeys
unfolding read_keys
keys_reader =
    signed_reader (sign.Keyword keyword.By) (listed sign.Comma read_key) (Formed (AreListed IsProperKey) (listed_form sign.Comma key_form)) EndsKeys
    (list_reader sign.Comma read_key IsProperKey key_form EndsKey (λ rest. refl) key_reader)

abbrev IsOrder : List WrittenKey → List Symbol → Type 0
IsOrder = IsOptional (sign.Keyword keyword.Order) [] IsKeys

abbrev pub AreKeys : List WrittenKey → Type 0
AreKeys keys = AllByRecursion IsProperKey keys

abbrev pub EndsOrder : List Symbol → Type 0
EndsOrder = EndsList (sign.Keyword keyword.Order) EndsKeys

order_some : (keys : List WrittenKey) → 0 < length keys → order_form key_form keys ≡ Keyword keyword.Order ∷ Keyword keyword.By ∷ separated Comma key_form keys
order_some [] some = absurd (omega arith)
order_some (key ∷ keys) some = refl

order_to : (keys : List WrittenKey) (front : List Symbol) → IsOrder keys front → Formed AreKeys (order_form key_form) keys front
order_to keys front h =
    elim h [
      | inl none ↦ (rw none.0 tt, rw (none.0, none.1) refl)
      | inr some ↦
          let by = some.2 in
          (by.2.0.1, some.1 ∙ ap (λ rest. Keyword keyword.Order ∷ rest) by.1 ∙ ap (λ rest. Keyword keyword.Order ∷ Keyword keyword.By ∷ rest) by.2.1 ∙ sym (order_some keys by.2.0.0))
    ]

order_from : (keys : List WrittenKey) (front : List Symbol) → Formed AreKeys (order_form key_form) keys front → IsOrder keys front
order_from [] front f = inl (refl, f.1)
order_from (key ∷ keys) front f =
    let listed = separated Comma key_form (key ∷ keys) in
    inr (Keyword keyword.By ∷ listed, f.1, (listed, refl, ((omega arith, f.0), refl)))

pub order_reader : IsReader read_order (Formed AreKeys (order_form key_form)) EndsOrder
unfolding read_order
order_reader =
    reader_as read_order IsOrder (Formed AreKeys (order_form key_form)) EndsOrder order_to order_from (optional_reader (sign.Keyword keyword.Order) [] read_keys IsKeys EndsKeys keys_reader)

-- ---- LIMIT

abbrev IsSome : Option ℕ → List Symbol → Type 0
IsSome = IsMade (Formed IsCount (λ n. Number (pos n) ∷ [])) Some

abbrev IsLimit : Option ℕ → List Symbol → Type 0
IsLimit = IsOptional (sign.Keyword keyword.Limit) None IsSome

-- The rest goes on with no limit.
abbrev pub EndsLimit : List Symbol → Type 0
EndsLimit = EndsList (sign.Keyword keyword.Limit) Always

some_reader : IsReader read_some_count IsSome Always
unfolding read_some_count
some_reader = made_reader read_count Some (Formed IsCount (λ n. Number (pos n) ∷ [])) Always count_reader

limit_to : (limit : Option ℕ) (front : List Symbol) → IsLimit limit front → Formed IsProperLimit limit_form limit front
limit_to limit front h =
    elim h [
      | inl none ↦ (rw none.0 tt, rw (none.0, none.1) refl)
      | inr some ↦ (rw some.2.made some.2.form.0, rw (some.2.made, some.1, some.2.form.1) refl)
    ]

limit_from : (limit : Option ℕ) (front : List Symbol) → Formed IsProperLimit limit_form limit front → IsLimit limit front
limit_from None front f = inl (refl, f.1)
limit_from (Some n) front f = inr (number_form (pos n), f.1, record { value = n; made = refl; form = (f.0, refl) })

pub limit_reader : IsReader read_limit (Formed IsProperLimit limit_form) EndsLimit
unfolding read_limit
limit_reader =
    reader_as read_limit IsLimit (Formed IsProperLimit limit_form) EndsLimit limit_to limit_from (optional_reader (sign.Keyword keyword.Limit) None read_some_count IsSome Always some_reader)
