-- The parts of statements that ask for something.
use Rattle.std.specs.Prelude.{ℕ, List, [], ◌++◌, map}
use Rattle.cube_language.specs.declared.statement.Cond.{Cond}
use Rattle.cube_language.specs.declared.statement.Item.{Item}
use Rattle.cube_language.specs.declared.statement.Statement.{Statement}
use Rattle.cube_language.specs.declared.statement.Statement.TheVariants.{Select, Delete, Watch}

-- The items of a query.
abbrev pub items_of : Statement → List Item
items_of (Select items cube conds group having order limit) = items
items_of (Watch items cube conds group) = items
items_of statement = []

-- The conditions on rows.
abbrev pub conds_of : Statement → List Cond
conds_of (Select items cube conds group having order limit) = conds
conds_of (Watch items cube conds group) = conds
conds_of (Delete cube conds) = conds
conds_of statement = []

-- The columns by which a query groups.
abbrev pub group_of : Statement → List (List ℕ)
group_of (Select items cube conds group having order limit) = group
group_of (Watch items cube conds group) = group
group_of statement = []

-- The items of the tests of HAVING.
abbrev pub tested_items : Statement → List Item
tested_items (Select items cube conds group having order limit) = map (λ test. test.item) having
tested_items statement = []

-- The items of the keys of ORDER BY.
abbrev pub ordered_items : Statement → List Item
ordered_items (Select items cube conds group having order limit) = map (λ key. key.item) order
ordered_items statement = []

-- The items of HAVING and of ORDER BY.
abbrev pub asked_items : Statement → List Item
asked_items s = tested_items s ++ ordered_items s
