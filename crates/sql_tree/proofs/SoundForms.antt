-- The printed form of a proper statement has symbols that tokens say, and is a form of the statement.
use Rattle.std.proofs.Common.{◌≡◌, ℕ, ◌<◌, Bool, true, false, not, ◌&&◌, nat_le, List, [], ◌∷◌, ◌++◌, length, map, Option, Some, None, pos, IsTrue, refl, sym, ap, subst, ◌∙◌, arith, if◌then◌else◌}
use Rattle.std.specs.Prelude.{All, FitsSigned}
use Rattle.std.specs.Int.{w64}
use Rattle.std.specs.List.{AllByRecursion, list_all, filter_map, flat_map}
use Rattle.std.proofs.lemmas.Bool.{and_parts}
use Rattle.std.proofs.lemmas.List.Elements.{recursion_from_All}
use Rattle.cube_values.specs.declared.top_plan.Bound.{Bound}
use Rattle.cube_values.specs.declared.top_plan.Bound.TheVariants as bound
use Rattle.cube_values.specs.declared.value.Value.{Value}
use Rattle.cube_values.specs.declared.value.Value.TheVariants as value
use Rattle.cube_language.specs.declared.decl.Column.{Column}
use Rattle.cube_language.specs.declared.decl.Column.TheVariants as column
use Rattle.cube_language.specs.declared.decl.Decl.{Decl}
use Rattle.cube_language.specs.declared.decl.DimDecl.{DimDecl}
use Rattle.cube_language.specs.declared.keyword.Keyword.TheVariants as keyword
use Rattle.cube_language.specs.declared.statement.Cond.{Cond}
use Rattle.cube_language.specs.declared.statement.Cond.TheVariants as cond
use Rattle.cube_language.specs.declared.statement.Item.{Item}
use Rattle.cube_language.specs.declared.statement.Item.TheVariants as item
use Rattle.cube_language.specs.declared.statement.Key.{Key}
use Rattle.cube_language.specs.declared.statement.Statement.{Statement}
use Rattle.cube_language.specs.declared.statement.Statement.TheVariants as statement
use Rattle.cube_language.specs.declared.statement.Test.{Test}
use Rattle.cube_language.specs.declared.symbol.Symbol.{Symbol}
use Rattle.cube_language.specs.declared.symbol.Symbol.TheVariants.{Keyword, Word, Close, Comma}
use Rattle.cube_language.specs.declared.written.Direction.TheVariants as direction
use Rattle.cube_language.specs.declared.written.WrittenKey.{WrittenKey}
use Rattle.cube_language.specs.Columns.{columns_of, column_dim, column_metric, decl_of}
use Rattle.cube_language.specs.Grammar.{form_behind, separated, name_form, number_form, value_form, list_form, tuple_form, item_form, cond_form, where_form, group_form, query_form, bound_form, test_form, having_form, is_desc, sort_key_of, key_form, plain_form, order_form, limit_form, top_form, column_form, form_of, IsFormOf, IsProperValue, IsProperTuple, IsProperItem, IsProperCond, IsProperQuery, IsProperBound, IsProperTest, IsProperLimit, IsProperTop, IsProperColumn, IsProper, Spells, IsSpelled}
use Rattle.cube_language.specs.Keywords.{is_keyword}
use Rattle.cube_language.specs.Names.{is_name, is_word}
use Rattle.cube_language.specs.Printed.{printed}
use Rattle.sql_tree.proofs.Keywords.{name_is_no_keyword}
use Rattle.sql_tree.proofs.PrintedTokens.{printed_has_tokens}
use Rattle.sql_tree.proofs.SymbolReaders.{IsName}
use Rattle.sql_tree.proofs.SymbolTexts.{IsSound}

abbrev AreSound : List Symbol → Type 0
AreSound symbols = AllByRecursion IsSound symbols

sound-append : (front behind : List Symbol) → AreSound front → AreSound behind → AreSound (front ++ behind)
sound-append [] behind one two = two
sound-append (symbol ∷ front) behind one two = (one.0, sound-append front behind one.1 two)

abbrev EachSound : {A : Type 0} → (A → Type 0) → (A → List Symbol) → Type 0
EachSound {A} P form = (x : A) → P x → AreSound (form x)

behind_sound : {A : Type 0} (between : Symbol) (form : A → List Symbol) (P : A → Type 0) → IsSound between → EachSound P form → (xs : List A) → AllByRecursion P xs → AreSound (flat_map (form_behind between form) xs)
behind_sound between form P sign each [] all = tt
behind_sound between form P sign each (x ∷ xs) all = (sign, sound-append (form x) (flat_map (form_behind between form) xs) (each x all.0) (behind_sound between form P sign each xs all.1))

sound_listed : {A : Type 0} (between : Symbol) (form : A → List Symbol) (P : A → Type 0) → IsSound between → EachSound P form → (xs : List A) → AllByRecursion P xs → AreSound (separated between form xs)
sound_listed between form P sign each [] all = tt
sound_listed between form P sign each (x ∷ xs) all = sound-append (form x) (flat_map (form_behind between form) xs) (each x all.0) (behind_sound between form P sign each xs all.1)

list_sound : {A : Type 0} (form : A → List Symbol) (P : A → Type 0) → EachSound P form → (xs : List A) → All P xs → AreSound (list_form form xs)
list_sound form P each xs all =
    (tt, sound-append (separated Comma form xs) (Close ∷ []) (sound_listed Comma form P tt each xs (recursion_from_All P xs all)) (tt, tt))

name_sound : (name : List ℕ) → IsName name → IsSound (Word name)
name_sound name is = ((and_parts (is_word name) (nat_le (length name) 64) (and_parts (is_word name && nat_le (length name) 64) (not (is_keyword name)) is).0).0, name_is_no_keyword name is)

value_sound : (v : Value) → IsProperValue v → AreSound (value_form v)
value_sound (value.Int n) p = (p, tt)
value_sound (value.Text text) p = (tt, tt)

tuple_sound : (values : List Value) → IsProperTuple values → AreSound (tuple_form values)
tuple_sound values p = list_sound value_form IsProperValue value_sound values p.1

item_sound : (x : Item) → IsProperItem x → AreSound (item_form x)
item_sound (item.Plain name) p = (name_sound name p, tt)
item_sound (item.Sum metric) p = (tt, (tt, (name_sound metric p, (tt, tt))))
item_sound (item.Min metric) p = (tt, (tt, (name_sound metric p, (tt, tt))))
item_sound (item.Max metric) p = (tt, (tt, (name_sound metric p, (tt, tt))))
item_sound (item.Avg metric) p = (tt, (tt, (name_sound metric p, (tt, tt))))
item_sound item.CountAll p = (tt, (tt, (tt, (tt, tt))))

cond_sound : (c : Cond) → IsProperCond c → AreSound (cond_form c)
cond_sound (cond.Equal name wanted) p = (name_sound name p.0, (tt, value_sound wanted p.1))
cond_sound (cond.In name wanted) p = (name_sound name p.0, (tt, tuple_sound wanted p.1))
cond_sound (cond.Between name first last) p = (name_sound name p.0, (tt, sound-append (value_form first) (Keyword keyword.And ∷ value_form last) (value_sound first p.1) (tt, value_sound last p.2)))

where_sound : (conds : List Cond) → AllByRecursion IsProperCond conds → AreSound (where_form conds)
where_sound [] all = tt
where_sound (c ∷ conds) all = (tt, sound_listed (Keyword keyword.And) cond_form IsProperCond tt cond_sound (c ∷ conds) all)

names_sound : (names : List (List ℕ)) → IsTrue (list_all is_name names) → AllByRecursion IsName names
names_sound [] all = tt
names_sound (name ∷ names) all = let both = and_parts (is_name name) (list_all is_name names) all in (both.0, names_sound names both.1)

group_sound : (names : List (List ℕ)) → IsTrue (list_all is_name names) → AreSound (group_form names)
group_sound [] all = tt
group_sound (name ∷ names) all = (tt, (tt, sound_listed Comma name_form IsName tt (λ x p. (name_sound x p, tt)) (name ∷ names) (names_sound (name ∷ names) all)))

query_sound : (items : List Item) (cube : List ℕ) (conds : List Cond) (group : List (List ℕ)) → IsProperQuery items cube conds group → AreSound (query_form items cube conds group)
query_sound items cube conds group p =
    let parts = sound-append (where_form conds) (group_form group) (where_sound conds (recursion_from_All IsProperCond conds p.each_cond)) (group_sound group p.group_names) in
    (tt, sound-append (separated Comma item_form items) (Keyword keyword.From ∷ Word cube ∷ (where_form conds ++ group_form group)) (sound_listed Comma item_form IsProperItem tt item_sound items (recursion_from_All IsProperItem items p.each_item)) (tt, (name_sound cube p.cube_name, parts)))

bound_sound : (b : Bound) → IsProperBound b → AreSound (bound_form b)
bound_sound (bound.Equal n) p = (tt, (p, tt))
bound_sound (bound.In numbers) p = (tt, list_sound number_form (FitsSigned w64) (λ n q. (q, tt)) numbers p.1)
bound_sound (bound.Between first last) p = (tt, (p.0, (tt, (p.1, tt))))

test_sound : (t : Test) → IsProperTest t → AreSound (test_form t)
test_sound t p = sound-append (item_form t.item) (bound_form t.bound) (item_sound t.item p.item) (bound_sound t.bound p.bound)

having_sound : (tests : List Test) → AllByRecursion IsProperTest tests → AreSound (having_form tests)
having_sound [] all = tt
having_sound (t ∷ tests) all = (tt, sound_listed (Keyword keyword.And) test_form IsProperTest tt test_sound (t ∷ tests) all)

abbrev HasProperItem : Key → Type 0
HasProperItem key = IsProperItem key.item

desc_sound : (desc : Bool) → AreSound (if desc then Keyword keyword.Desc ∷ [] else [])
desc_sound true = (tt, tt)
desc_sound false = tt

key_sound : (key : Key) → HasProperItem key → AreSound (plain_form key)
key_sound key p = sound-append (item_form key.item) (if key.desc then Keyword keyword.Desc ∷ [] else []) (item_sound key.item p) (desc_sound key.desc)

order_sound : (order : List Key) → AllByRecursion HasProperItem order → AreSound (order_form plain_form order)
order_sound [] all = tt
order_sound (key ∷ order) all = (tt, (tt, sound_listed Comma plain_form HasProperItem tt key_sound (key ∷ order) all))

limit_sound : (limit : Option ℕ) → IsProperLimit limit → AreSound (limit_form limit)
limit_sound None p = tt
limit_sound (Some n) p = (tt, (record { sfits = p }, tt))

top_sound : (having : List Test) (order : List Key) (limit : Option ℕ) → IsProperTop having order limit → AreSound (top_form plain_form having order limit)
top_sound having order limit p =
    let keys = order_sound order (recursion_from_All HasProperItem order p.each_key) in
    sound-append (having_form having) (order_form plain_form order ++ limit_form limit) (having_sound having (recursion_from_All IsProperTest having p.each_test))
    (sound-append (order_form plain_form order) (limit_form limit) keys (limit_sound limit p.most))

column_sound : (x : Column) → IsProperColumn x → AreSound (column_form x)
column_sound (column.Dim d) p =
    (tt, (name_sound d.name p.name, (tt, (record { sfits = omega (arith, p.cardinality) }, (record { sfits = omega (arith, p.range) }, tt)))))
column_sound (column.Metric name) p = (tt, (name_sound name p, tt))

form_sound : (s : Statement) → IsProper s → AreSound (form_of s)
form_sound (statement.Select items cube conds group having order limit) p =
    sound-append (query_form items cube conds group) (top_form plain_form having order limit) (query_sound items cube conds group p.0) (top_sound having order limit p.1)
form_sound (statement.Insert cube rows) p = (tt, (tt, (name_sound cube p.0, (tt, sound_listed Comma tuple_form IsProperTuple tt tuple_sound rows (recursion_from_All IsProperTuple rows p.2)))))
form_sound (statement.Load cube path n) p = (tt, (name_sound cube p.0, (tt, (tt, (tt, (record { sfits = p.1 }, tt))))))
form_sound (statement.Delete cube conds) p = (tt, (tt, (name_sound cube p.0, where_sound conds (recursion_from_All IsProperCond conds p.1))))
form_sound statement.Begin p = (tt, tt)
form_sound statement.Commit p = (tt, tt)
form_sound statement.Rollback p = (tt, tt)
form_sound statement.Flush p = (tt, tt)
form_sound statement.Purge p = (tt, tt)
form_sound statement.ShowEpochs p = (tt, (tt, tt))
form_sound (statement.CreateCube d) p = (tt, (tt, (name_sound d.name p.0, list_sound column_form IsProperColumn column_sound (columns_of d) p.1.1)))
form_sound (statement.Watch items cube conds group) p = (tt, query_sound items cube conds group p)
form_sound statement.ShowWatch p = (tt, (tt, tt))

-- ---- the printed form is a form

-- A key as it is printed.
abbrev written_of : Key → WrittenKey
written_of key = record { item = key.item; direction = if key.desc then direction.Desc else direction.Unsaid }

is_written : (x : Item) (desc : Bool) → sort_key_of (written_of (record { item = x; desc = desc })) ≡ record { item = x; desc = desc }
is_written x true = refl
is_written x false = refl

are_written : (order : List Key) → order ≡ map sort_key_of (map written_of order)
are_written [] = refl
are_written (key ∷ order) = let one = is_written key.item key.desc in let more = are_written order in rw one (ap (λ (keys : List Key). key ∷ keys) more)

plain_is : (x : Item) (desc : Bool) → plain_form (record { item = x; desc = desc }) ≡ key_form (written_of (record { item = x; desc = desc }))
plain_is x true = refl
plain_is x false = refl

plain_behind : (order : List Key) → flat_map (form_behind Comma plain_form) order ≡ flat_map (form_behind Comma key_form) (map written_of order)
plain_behind [] = refl
plain_behind (key ∷ order) =
    let one : plain_form key ≡ key_form (written_of key) = plain_is key.item key.desc in
    let more = plain_behind order in
    ap (λ (front : List Symbol). Comma ∷ (front ++ flat_map (form_behind Comma plain_form) order)) one ∙ ap (λ (behind : List Symbol). Comma ∷ (key_form (written_of key) ++ behind)) more

plain_order : (order : List Key) → order_form plain_form order ≡ order_form key_form (map written_of order)
plain_order [] = refl
plain_order (key ∷ order) =
    let one : plain_form key ≡ key_form (written_of key) = plain_is key.item key.desc in
    let more = plain_behind order in
    ap (λ (front : List Symbol). Keyword keyword.Order ∷ Keyword keyword.By ∷ (front ++ flat_map (form_behind Comma plain_form) order)) one
    ∙ ap (λ (behind : List Symbol). Keyword keyword.Order ∷ Keyword keyword.By ∷ (key_form (written_of key) ++ behind)) more

no_dims : (metrics : List (List ℕ)) → filter_map column_dim (map column.Metric metrics) ≡ []
no_dims [] = refl
no_dims (name ∷ metrics) = no_dims metrics

all_metrics : (metrics : List (List ℕ)) → filter_map column_metric (map column.Metric metrics) ≡ metrics
all_metrics [] = refl
all_metrics (name ∷ metrics) = ap (λ (names : List (List ℕ)). name ∷ names) (all_metrics metrics)

dims_back : (dims : List DimDecl) (metrics : List (List ℕ)) → filter_map column_dim (map column.Dim dims ++ map column.Metric metrics) ≡ dims
dims_back [] metrics = no_dims metrics
dims_back (d ∷ dims) metrics = ap (λ (ds : List DimDecl). d ∷ ds) (dims_back dims metrics)

metrics_back : (dims : List DimDecl) (metrics : List (List ℕ)) → filter_map column_metric (map column.Dim dims ++ map column.Metric metrics) ≡ metrics
metrics_back [] metrics = all_metrics metrics
metrics_back (d ∷ dims) metrics = metrics_back dims metrics

decl_back : (d : Decl) → d ≡ decl_of d.name (columns_of d)
decl_back d =
    let dims = dims_back d.dims d.metrics in
    let metrics = metrics_back d.dims d.metrics in
    rw (dims, metrics) refl

form_is_form : (s : Statement) → IsFormOf s (form_of s)
form_is_form (statement.Select items cube conds group having order limit) =
    (map written_of order, are_written order, ap (λ (keys : List Symbol). query_form items cube conds group ++ (having_form having ++ (keys ++ limit_form limit))) (plain_order order))
form_is_form (statement.CreateCube d) = (columns_of d, decl_back d, refl)
form_is_form (statement.Insert cube rows) = refl
form_is_form s = refl

-- what is printed of a statement spells it
pub printed_spells : (s : Statement) → IsSpelled s → Spells (printed s) s
printed_spells s spelled =
    let proper = spelled.1.proper in
    let found = printed_has_tokens (form_of s) (form_sound s proper) in
    record { tokens = found.tokens; are = found.are; form = subst (λ (symbols : List Symbol). IsFormOf s symbols) (sym found.say) (form_is_form s); proper = proper }
