-- The readers of the parts of statements.
use Rattle.std.proofs.Common.{◌≡◌, ℕ, ◌<◌, List, [], ◌∷◌, ◌++◌, length, inl, inr, IsTrue, refl, sym, ap, subst, ◌∙◌, arith}
use Rattle.std.specs.Prelude.{All}
use Rattle.std.specs.List.{AllByRecursion, list_all}
use Rattle.std.proofs.lemmas.Bool.{and_parts, and_from}
use Rattle.std.proofs.lemmas.List.Elements.{All-from_recursion, recursion_from_All}
use Rattle.cube_values.specs.declared.value.Value.{Value}
use Rattle.cube_language.specs.Names.{is_name}
use Rattle.cube_language.specs.declared.statement.Cond.{Cond}
use Rattle.cube_language.specs.declared.statement.Cond.TheVariants as cond
use Rattle.cube_language.specs.declared.statement.Item.{Item}
use Rattle.cube_language.specs.declared.statement.Item.TheVariants as item
use Rattle.cube_language.specs.declared.keyword.Keyword.TheVariants as keyword
use Rattle.cube_language.specs.Grammar.{separated, name_form, value_form, list_form, tuple_form, item_form, cond_form, where_form, group_form, IsProperValue, IsProperTuple, IsProperItem, IsProperCond}
use Rattle.cube_language.specs.declared.symbol.Symbol.{Symbol}
use Rattle.cube_language.specs.declared.symbol.Symbol.TheVariants.{Keyword, Word, Open, Close, Comma, Equals, Star}
use Rattle.sql_tree.specs.declared.head.Sign.{Sign}
use Rattle.sql_tree.specs.declared.head.Sign.TheVariants as sign
use Rattle.sql_tree.specs.declared.head.Aggregate.TheVariants as aggregate
use Rattle.sql_tree.specs.declared.head.Operator.{Operator}
use Rattle.sql_tree.specs.declared.head.Operator.TheVariants as operator
use Rattle.sql_tree.specs.Reading.{sign_symbol, Readout, ItemHead, Named, Aggregated, enclosed, listed, read_first, item_head, item_behind, operator_in, cond_behind, expect, read_name, read_value, read_tuple, read_metric, read_star, read_item, read_cond, read_where, read_by, read_group}
use Rattle.sql_tree.proofs.Readers.{given, IsReader, Always, Formed, IsMade, IsThen, IsLed, sequence, reader_as, sequence_reader, done_reader, made_reader, led_reader}
use Rattle.sql_tree.proofs.ReadersOfLists.{AreListed, listed_form, Parted, IsOptional, listed_reader, optional_reader}
use Rattle.sql_tree.proofs.SymbolReaders.{Any, IsName, IsHead, head_symbol, operator_symbol, value_symbol, value_form_is, IsSigned, signed_reader, expect_reader, name_reader, value_symbol_reader, value_reader, head_reader, operator_reader}

-- Nothing comes behind the value.
abbrev pub IsDone : {A : Type 0} → A → A → List Symbol → Type 0
IsDone x y front = (y ≡ x) × (front ≡ [])

pub closed_reader : {B : Type 0} (wanted : Sign) (y : B) → IsReader (sequence (expect wanted) (λ u. given y)) (IsSigned wanted (IsDone y)) Always
closed_reader wanted y = signed_reader wanted (given y) (IsDone y) Always (done_reader y)

-- ---- lists in parentheses

-- Some values of a form.
abbrev pub AreEnclosed : {A : Type 0} → (A → Type 0) → List A → Type 0
AreEnclosed P xs = (0 < length xs) × All P xs

-- They, and a closing parenthesis behind them.
abbrev IsInside : {A : Type 0} → (A → Type 0) → (A → List Symbol) → List A → List Symbol → Type 0
IsInside P form = IsThen (Formed (AreListed P) (listed_form sign.Comma form)) (λ xs. IsSigned sign.Close (IsDone xs))

enclosed_to : {A : Type 0} (P : A → Type 0) (form : A → List Symbol) (xs : List A) (front : List Symbol) → IsSigned sign.Open (IsInside P form) xs front → Formed (AreEnclosed P) (list_form form) xs front
enclosed_to P form xs front h =
    let inner = h.2 in
    let same : xs ≡ inner.first = inner.is_rest.2.0 in (
      rw same (inner.is_first.0.0, All-from_recursion P inner.first inner.is_first.0.1),
      rw (same, h.1, inner.whole, inner.is_first.1, inner.is_rest.1, inner.is_rest.2.1) refl,
    )

enclosed_from : {A : Type 0} (P : A → Type 0) (form : A → List Symbol) (xs : List A) (front : List Symbol) → Formed (AreEnclosed P) (list_form form) xs front → IsSigned sign.Open (IsInside P form) xs front
enclosed_from P form xs front f = (
  separated Comma form xs ++ Close ∷ [],
  f.1,
  record {
    first = xs;
    front = separated Comma form xs;
    behind = Close ∷ [];
    whole = refl;
    is_first = ((f.0.0, recursion_from_All P xs f.0.1), refl);
    is_rest = ([], refl, (refl, refl));
  },
)

pub enclosed_reader : {A : Type 0} (item : List Symbol → Readout A) (P : A → Type 0) (form : A → List Symbol) → IsReader item (Formed P form) Always → IsReader (enclosed item) (Formed (AreEnclosed P) (list_form form)) Always
unfolding enclosed
enclosed_reader {A} item P form r =
    let closed = λ (xs : List A). sequence (expect sign.Close) (λ u. given xs) in
    reader_as (enclosed item) (IsSigned sign.Open (IsInside P form)) (Formed (AreEnclosed P) (list_form form)) Always (enclosed_to P form) (enclosed_from P form)
    (signed_reader sign.Open (sequence (listed sign.Comma item) closed) (IsInside P form) Always
    (sequence_reader (listed sign.Comma item) closed (Formed (AreListed P) (listed_form sign.Comma form)) (λ xs. IsSigned sign.Close (IsDone xs)) (Parted sign.Comma) Always (listed_reader sign.Comma item P form r) (λ xs. closed_reader sign.Close xs)
    (λ xs y front rest h e. rw h.1 refl)))

pub tuple_reader : IsReader read_tuple (Formed IsProperTuple tuple_form) Always
unfolding read_tuple
tuple_reader = enclosed_reader read_value IsProperValue value_form value_reader

-- ---- items

-- `(metric)`
abbrev pub metric_form : List ℕ → List Symbol
metric_form metric = Open ∷ Word metric ∷ Close ∷ []

abbrev IsMetric : List ℕ → List Symbol → Type 0
IsMetric = IsSigned sign.Open (IsLed IsName Word (λ metric. IsSigned sign.Close (IsDone metric)))

metric_to : (metric : List ℕ) (front : List Symbol) → IsMetric metric front → Formed IsName metric_form metric front
metric_to metric front h =
    let name = h.2 in
    let same : metric ≡ name.0 = name.4.2.0 in
    (subst IsName (sym same) name.1, rw (same, h.1, name.3, name.4.1, name.4.2.1) refl)

pub metric_reader : IsReader read_metric (Formed IsName metric_form) Always
unfolding read_metric
metric_reader =
    reader_as read_metric IsMetric (Formed IsName metric_form) Always metric_to (λ metric front f. (Word metric ∷ Close ∷ [], f.1, (metric, f.0, Close ∷ [], refl, ([], refl, (refl, refl)))))
    (signed_reader sign.Open (sequence read_name (λ metric. sequence (expect sign.Close) (λ u. given metric))) (IsLed IsName Word (λ metric. IsSigned sign.Close (IsDone metric))) Always
    (led_reader read_name (λ metric. sequence (expect sign.Close) (λ u. given metric)) IsName Word (λ metric. IsSigned sign.Close (IsDone metric)) Always name_reader (λ metric. closed_reader sign.Close metric)))

-- `(*)`
abbrev pub star_form : Unit {0} → List Symbol
star_form u = Open ∷ Star ∷ Close ∷ []

pub star_reader : IsReader read_star (Formed Any star_form) Always
unfolding read_star
star_reader =
    reader_as read_star (IsSigned sign.Open (IsSigned sign.Star (Formed Any (λ u. sign_symbol sign.Close ∷ [])))) (Formed Any star_form) Always
    (λ u front h. (tt, rw (h.1, h.2.1, h.2.2.1) refl))
    (λ u front f. (Star ∷ Close ∷ [], f.1, (Close ∷ [], refl, (tt, refl))))
    (signed_reader sign.Open (sequence (expect sign.Star) (λ u. expect sign.Close)) (IsSigned sign.Star (Formed Any (λ u. sign_symbol sign.Close ∷ []))) Always
    (signed_reader sign.Star (expect sign.Close) (Formed Any (λ u. sign_symbol sign.Close ∷ [])) Always (expect_reader sign.Close)))

-- What comes behind the first symbol of an item.
abbrev pub BehindHead : ItemHead → Item → List Symbol → Type 0
BehindHead (Named name) = IsDone (item.Plain name)
BehindHead (Aggregated aggregate.Sum) = IsMade (Formed IsName metric_form) item.Sum
BehindHead (Aggregated aggregate.Min) = IsMade (Formed IsName metric_form) item.Min
BehindHead (Aggregated aggregate.Max) = IsMade (Formed IsName metric_form) item.Max
BehindHead (Aggregated aggregate.Avg) = IsMade (Formed IsName metric_form) item.Avg
BehindHead (Aggregated aggregate.Count) = IsMade (Formed Any star_form) (λ u. item.CountAll)

pub head_behind_reader : (head : ItemHead) → IsReader (item_behind head) (BehindHead head) Always
head_behind_reader (Named name) = done_reader (item.Plain name)
head_behind_reader (Aggregated aggregate.Sum) = made_reader read_metric item.Sum (Formed IsName metric_form) Always metric_reader
head_behind_reader (Aggregated aggregate.Min) = made_reader read_metric item.Min (Formed IsName metric_form) Always metric_reader
head_behind_reader (Aggregated aggregate.Max) = made_reader read_metric item.Max (Formed IsName metric_form) Always metric_reader
head_behind_reader (Aggregated aggregate.Avg) = made_reader read_metric item.Avg (Formed IsName metric_form) Always metric_reader
head_behind_reader (Aggregated aggregate.Count) = made_reader read_star (λ u. item.CountAll) (Formed Any star_form) Always star_reader

pub item_to : (head : ItemHead) (x : Item) (front rest : List Symbol) → IsHead head → front ≡ head_symbol head ∷ rest → BehindHead head x rest → Formed IsProperItem item_form x front
item_to (Named name) x front rest p e h = (rw h.0 p, rw (h.0, e, h.1) refl)
item_to (Aggregated aggregate.Sum) x front rest p e h = (rw h.made h.form.0, rw (h.made, e, h.form.1) refl)
item_to (Aggregated aggregate.Min) x front rest p e h = (rw h.made h.form.0, rw (h.made, e, h.form.1) refl)
item_to (Aggregated aggregate.Max) x front rest p e h = (rw h.made h.form.0, rw (h.made, e, h.form.1) refl)
item_to (Aggregated aggregate.Avg) x front rest p e h = (rw h.made h.form.0, rw (h.made, e, h.form.1) refl)
item_to (Aggregated aggregate.Count) x front rest p e h = (rw h.made tt, rw (h.made, e, h.form.1) refl)

item_from : (x : Item) (front : List Symbol) → Formed IsProperItem item_form x front → IsLed IsHead head_symbol BehindHead x front
item_from (item.Plain name) front f = (Named name, f.0, [], f.1, (refl, refl))
item_from (item.Sum metric) front f = (Aggregated aggregate.Sum, tt, metric_form metric, f.1, record { value = metric; made = refl; form = (f.0, refl) })
item_from (item.Min metric) front f = (Aggregated aggregate.Min, tt, metric_form metric, f.1, record { value = metric; made = refl; form = (f.0, refl) })
item_from (item.Max metric) front f = (Aggregated aggregate.Max, tt, metric_form metric, f.1, record { value = metric; made = refl; form = (f.0, refl) })
item_from (item.Avg metric) front f = (Aggregated aggregate.Avg, tt, metric_form metric, f.1, record { value = metric; made = refl; form = (f.0, refl) })
item_from item.CountAll front f = (Aggregated aggregate.Count, tt, star_form tt, f.1, record { value = tt; made = refl; form = (tt, refl) })

pub item_reader : IsReader read_item (Formed IsProperItem item_form) Always
unfolding read_item
item_reader =
    reader_as read_item (IsLed IsHead head_symbol BehindHead) (Formed IsProperItem item_form) Always (λ x front h. item_to h.0 x front h.2 h.1 h.3 h.4) item_from
    (led_reader (read_first item_head) item_behind IsHead head_symbol BehindHead Always head_reader head_behind_reader)

-- ---- conditions

-- `value AND value`
abbrev IsSpan : List ℕ → Cond → List Symbol → Type 0
IsSpan name = IsLed IsProperValue value_symbol (λ first. IsSigned (sign.Keyword keyword.And) (IsMade (Formed IsProperValue value_form) (λ last. cond.Between name first last)))

-- What comes behind the name and the operator of a condition.
abbrev BehindOperator : List ℕ → Operator → Cond → List Symbol → Type 0
BehindOperator name operator.Equal = IsMade (Formed IsProperValue value_form) (cond.Equal name)
BehindOperator name operator.In = IsMade (Formed IsProperTuple tuple_form) (cond.In name)
BehindOperator name operator.Between = IsSpan name

operator_behind_reader : (name : List ℕ) (o : Operator) → IsReader (cond_behind name o) (BehindOperator name o) Always
operator_behind_reader name operator.Equal = made_reader read_value (cond.Equal name) (Formed IsProperValue value_form) Always value_reader
operator_behind_reader name operator.In = made_reader read_tuple (cond.In name) (Formed IsProperTuple tuple_form) Always tuple_reader
operator_behind_reader name operator.Between =
    led_reader read_value (λ first. sequence (expect (sign.Keyword keyword.And)) (λ u. sequence read_value (λ last. given (cond.Between name first last)))) IsProperValue value_symbol
    (λ first. IsSigned (sign.Keyword keyword.And) (IsMade (Formed IsProperValue value_form) (λ last. cond.Between name first last))) Always value_symbol_reader
    (λ first. signed_reader (sign.Keyword keyword.And) (sequence read_value (λ last. given (cond.Between name first last))) (IsMade (Formed IsProperValue value_form) (λ last. cond.Between name first last)) Always
    (made_reader read_value (λ last. cond.Between name first last) (Formed IsProperValue value_form) Always value_reader))

abbrev BehindName : List ℕ → Cond → List Symbol → Type 0
BehindName name = IsLed Any operator_symbol (BehindOperator name)

cond_to : (name : List ℕ) (o : Operator) (c : Cond) (front behind rest : List Symbol) → IsName name → front ≡ Word name ∷ behind → behind ≡ operator_symbol o ∷ rest → BehindOperator name o c rest → Formed IsProperCond cond_form c front
cond_to name operator.Equal c front behind rest p e f h = (rw h.made (p, h.form.0), rw (h.made, e, f, h.form.1) refl)
cond_to name operator.In c front behind rest p e f h = (rw h.made (p, h.form.0), rw (h.made, e, f, h.form.1) refl)
cond_to name operator.Between c front behind rest p e f h =
    let last = h.4.2 in
    (rw last.made (p, h.1, last.form.0), rw (last.made, e, f, h.3, h.4.1, last.form.1, ← (value_form_is h.0)) refl)

cond_from : (c : Cond) (front : List Symbol) → Formed IsProperCond cond_form c front → IsLed IsName Word BehindName c front
cond_from (cond.Equal name wanted) front f = (name, f.0.0, Equals ∷ value_form wanted, f.1, (operator.Equal, tt, value_form wanted, refl, record { value = wanted; made = refl; form = (f.0.1, refl) }))
cond_from (cond.In name wanted) front f = (name, f.0.0, Keyword keyword.In ∷ tuple_form wanted, f.1, (operator.In, tt, tuple_form wanted, refl, record { value = wanted; made = refl; form = (f.0.1, refl) }))
cond_from (cond.Between name first last) front f =
    let behind = Keyword keyword.And ∷ value_form last in (
      name,
      f.0.0,
      Keyword keyword.Between ∷ (value_form first ++ behind),
      f.1,
      (operator.Between, tt, value_form first ++ behind, refl, (first, f.0.1, behind, ap (λ front. front ++ behind) (sym (value_form_is first)), (value_form last, refl, record { value = last; made = refl; form = (f.0.2, refl) }))),
    )

pub cond_reader : IsReader read_cond (Formed IsProperCond cond_form) Always
unfolding read_cond
cond_reader =
    reader_as read_cond (IsLed IsName Word BehindName) (Formed IsProperCond cond_form) Always (λ c front h. cond_to h.0 h.4.0 c front h.2 h.4.2 h.1 h.3 h.4.3 h.4.4) cond_from
    (led_reader read_name (λ name. sequence (read_first operator_in) (cond_behind name)) IsName Word BehindName Always name_reader
    (λ name. led_reader (read_first operator_in) (cond_behind name) Any operator_symbol (BehindOperator name) Always operator_reader (operator_behind_reader name)))

-- ---- WHERE and GROUP BY

abbrev IsWhere : List Cond → List Symbol → Type 0
IsWhere = IsOptional (sign.Keyword keyword.Where) [] (Formed (AreListed IsProperCond) (listed_form (sign.Keyword keyword.And) cond_form))

abbrev pub AreConds : List Cond → Type 0
AreConds conds = All IsProperCond conds

-- The rest goes on with no further condition.
abbrev pub EndsWhere : List Symbol → Type 0
EndsWhere rest = Parted (sign.Keyword keyword.Where) rest × Parted (sign.Keyword keyword.And) rest

where_some : (conds : List Cond) → 0 < length conds → where_form conds ≡ Keyword keyword.Where ∷ separated (Keyword keyword.And) cond_form conds
where_some [] some = absurd (omega arith)
where_some (cond ∷ conds) some = refl

where_to : (conds : List Cond) (front : List Symbol) → IsWhere conds front → Formed AreConds where_form conds front
where_to conds front h =
    elim h [
      | inl none ↦ (rw none.0 (All-from_recursion IsProperCond [] tt), rw (none.0, none.1) refl)
      | inr some ↦ (All-from_recursion IsProperCond conds some.2.0.1, some.1 ∙ ap (λ rest. Keyword keyword.Where ∷ rest) some.2.1 ∙ sym (where_some conds some.2.0.0))
    ]

where_from : (conds : List Cond) (front : List Symbol) → Formed AreConds where_form conds front → IsWhere conds front
where_from [] front f = inl (refl, f.1)
where_from (cond ∷ conds) front f = inr (separated (Keyword keyword.And) cond_form (cond ∷ conds), f.1, ((omega arith, recursion_from_All IsProperCond (cond ∷ conds) f.0), refl))

pub where_reader : IsReader read_where (Formed AreConds where_form) EndsWhere
unfolding read_where
where_reader =
    reader_as read_where IsWhere (Formed AreConds where_form) EndsWhere where_to where_from
    (optional_reader (sign.Keyword keyword.Where) [] (listed (sign.Keyword keyword.And) read_cond) (Formed (AreListed IsProperCond) (listed_form (sign.Keyword keyword.And) cond_form)) (Parted (sign.Keyword keyword.And))
    (listed_reader (sign.Keyword keyword.And) read_cond IsProperCond cond_form cond_reader))

abbrev IsBy : List (List ℕ) → List Symbol → Type 0
IsBy = IsSigned (sign.Keyword keyword.By) (Formed (AreListed IsName) (listed_form sign.Comma name_form))

by_reader : IsReader read_by IsBy (Parted sign.Comma)
unfolding read_by
by_reader = signed_reader (sign.Keyword keyword.By) (listed sign.Comma read_name) (Formed (AreListed IsName) (listed_form sign.Comma name_form)) (Parted sign.Comma) (listed_reader sign.Comma read_name IsName name_form name_reader)

abbrev pub AreNames : List (List ℕ) → Type 0
AreNames names = IsTrue (list_all is_name names)

abbrev pub EndsGroup : List Symbol → Type 0
EndsGroup rest = Parted (sign.Keyword keyword.Group) rest × Parted sign.Comma rest

names_to : (names : List (List ℕ)) → AllByRecursion IsName names → AreNames names
names_to [] all = refl
names_to (name ∷ names) all = and_from (is_name name) (list_all is_name names) all.0 (names_to names all.1)

names_from : (names : List (List ℕ)) → AreNames names → AllByRecursion IsName names
names_from [] all = tt
names_from (name ∷ names) all = let both = and_parts (is_name name) (list_all is_name names) all in (both.0, names_from names both.1)

group_some : (names : List (List ℕ)) → 0 < length names → group_form names ≡ Keyword keyword.Group ∷ Keyword keyword.By ∷ separated Comma name_form names
group_some [] some = absurd (omega arith)
group_some (name ∷ names) some = refl

group_to : (names : List (List ℕ)) (front : List Symbol) → IsOptional (sign.Keyword keyword.Group) [] IsBy names front → Formed AreNames group_form names front
group_to names front h =
    elim h [
      | inl none ↦ (rw none.0 refl, rw (none.0, none.1) refl)
      | inr some ↦
          let by = some.2 in
          (names_to names by.2.0.1, some.1 ∙ ap (λ rest. Keyword keyword.Group ∷ rest) by.1 ∙ ap (λ rest. Keyword keyword.Group ∷ Keyword keyword.By ∷ rest) by.2.1 ∙ sym (group_some names by.2.0.0))
    ]

group_from : (names : List (List ℕ)) (front : List Symbol) → Formed AreNames group_form names front → IsOptional (sign.Keyword keyword.Group) [] IsBy names front
group_from [] front f = inl (refl, f.1)
group_from (name ∷ names) front f =
    let listed = separated Comma name_form (name ∷ names) in
    inr (Keyword keyword.By ∷ listed, f.1, (listed, refl, ((omega arith, names_from (name ∷ names) f.0), refl)))

pub group_reader : IsReader read_group (Formed AreNames group_form) EndsGroup
unfolding read_group
group_reader =
    reader_as read_group (IsOptional (sign.Keyword keyword.Group) [] IsBy) (Formed AreNames group_form) EndsGroup group_to group_from (optional_reader (sign.Keyword keyword.Group) [] read_by IsBy (Parted sign.Comma) by_reader)
