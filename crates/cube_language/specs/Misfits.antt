-- Why a statement cannot be done on its cube: the first test of the statement and its cube alone that it fails.
-- Source: Cubrick (VLDB 2016) for ranges of dimensions; the tests and their order are this project's own.
use Rattle.std.specs.Prelude.{◌≡◌, ◌⊎◌, ℕ, ◌<◌, ◌/◌, Bool, true, false, not, ◌||◌, List, ◌∷◌, ◌++◌, filter_map, pos, Option, Some, None, find, All}
use Rattle.std.specs.List.{list_any, list_all}
use Rattle.std.specs.Str.{bytes_eq}
use Rattle.cube_values.specs.Regions.{passes}
use Rattle.cube_values.specs.declared.operation.ValueTest.{ValueTest}
use Rattle.cube_values.specs.declared.operation.ValueTest.TheVariants as test
use Rattle.cube_values.specs.declared.value.Value.{Value}
use Rattle.cube_values.specs.declared.value.Value.TheVariants as value
use Rattle.cube_language.specs.ColumnUses.{unknown_column, wrong_kind}
use Rattle.cube_language.specs.RowFaults.{first_bad_row}
use Rattle.cube_language.specs.SameItems.{item_eq}
use Rattle.cube_language.specs.StatementParts.{items_of, group_of, tested_items, asked_items}
use Rattle.cube_language.specs.declared.decl.Decl.{Decl}
use Rattle.cube_language.specs.declared.decl.DimDecl.{DimDecl}
use Rattle.cube_language.specs.declared.misfit.Misfit.{Misfit}
use Rattle.cube_language.specs.declared.misfit.Misfit.TheVariants.{UnknownColumn, WrongKind, NotGrouped, NotAnItem, BadHaving, NotWatchable, CutsBrick, BadRow}
use Rattle.cube_language.specs.declared.statement.Cond.{Cond}
use Rattle.cube_language.specs.declared.statement.Cond.TheVariants.{Equal, In, Between}
use Rattle.cube_language.specs.declared.statement.Item.{Item}
use Rattle.cube_language.specs.declared.statement.Item.TheVariants.{Plain, Min, Max, Avg}
use Rattle.cube_language.specs.declared.statement.Statement.{Statement}
use Rattle.cube_language.specs.declared.statement.Statement.TheVariants.{Insert, Delete, Watch}

-- ---- items

abbrev pub plain_name : Item → Option (List ℕ)
plain_name (Plain name) = Some name
plain_name item = None

-- The leftmost plain item that the query does not group by.
abbrev pub not_grouped : Statement → Option (List ℕ)
not_grouped s = find (λ name. not (list_any (bytes_eq name) (group_of s))) (filter_map plain_name (items_of s))

-- The leftmost item of HAVING or ORDER BY that is none of the query's.
abbrev pub not_an_item : Statement → Option Item
not_an_item s = find (λ item. not (list_any (item_eq item) (items_of s))) (asked_items s)

abbrev pub is_avg : Item → Bool
is_avg (Avg metric) = true
is_avg item = false

-- The leftmost average in HAVING.
abbrev pub bad_having : Statement → Option Item
bad_having s = find is_avg (tested_items s)

abbrev pub is_extreme : Item → Bool
is_extreme (Min metric) = true
is_extreme (Max metric) = true
is_extreme item = false

-- The leftmost least or greatest value of a WATCH.
abbrev pub not_watchable : Statement → Option Item
not_watchable (Watch items cube conds group) = find is_extreme items
not_watchable statement = None

-- ---- deletions

abbrev pub cond_name : Cond → List ℕ
cond_name (Equal name wanted) = name
cond_name (In name wanted) = name
cond_name (Between name first last) = name

abbrev pub cond_test : Cond → ValueTest
cond_test (Equal name wanted) = test.Equal wanted
cond_test (In name wanted) = test.OneOf wanted
cond_test (Between name first last) = test.Between first last

-- Every condition on the column passes the value.
abbrev pub all_pass : List Cond → List ℕ → Value → Bool
all_pass conds name v = list_all (λ c. not (bytes_eq (cond_name c) name) || passes (cond_test c) v) conds

-- Two coordinates of one range of the dimension.
pub record ShareRange (dim : DimDecl) (x y : ℕ) : Type 0 where
  pub first : x < dim.cardinality
  pub second : y < dim.cardinality
  pub range : x / dim.range ≡ y / dim.range

-- Conditions have each range of a dimension of numbers wholly or not at all.
abbrev pub HaveWholeRanges : List Cond → DimDecl → Type 0
HaveWholeRanges conds dim =
    (x y : ℕ) → ShareRange dim x y
    → all_pass conds dim.name (value.Int (pos x)) ≡ all_pass conds dim.name (value.Int (pos y))

-- The coordinates of texts are not known before: a condition on texts has whole ranges where each range is one
-- coordinate, and is refused else.
abbrev pub HaveSingleRanges : List Cond → DimDecl → Type 0
HaveSingleRanges conds dim = (dim.range ≡ 1) ⊎ (list_any (λ c. bytes_eq (cond_name c) dim.name) conds ≡ false)

-- Conditions cut no range of the dimension.
abbrev pub AreAligned : List Cond → DimDecl → Type 0
AreAligned conds dim = (dim.text ≡ false → HaveWholeRanges conds dim) × (dim.text ≡ true → HaveSingleRanges conds dim)

-- The dimension of this name is the first of which the conditions cut a range.
pub record CutsRange (d : Decl) (conds : List Cond) (name : List ℕ) : Type 0 where
  pub before : List DimDecl
  pub dim : DimDecl
  pub behind : List DimDecl
  pub whole : d.dims ≡ before ++ dim ∷ behind
  pub aligned : All (AreAligned conds) before
  pub cut : AreAligned conds dim → ⊥
  pub name_is : name ≡ dim.name

-- ---- all tests

-- The statement fails this test on its cube.
abbrev pub FailsTest : Decl → Statement → Misfit → Type 0
FailsTest d s (UnknownColumn name) = unknown_column d s ≡ Some name
FailsTest d s (WrongKind name) = wrong_kind d s ≡ Some name
FailsTest d s (NotGrouped name) = not_grouped s ≡ Some name
FailsTest d s (NotAnItem item) = not_an_item s ≡ Some item
FailsTest d s (BadHaving item) = bad_having s ≡ Some item
FailsTest d s (NotWatchable item) = not_watchable s ≡ Some item
FailsTest d (Delete cube conds) (CutsBrick name) = CutsRange d conds name
FailsTest d (Insert cube rows) (BadRow row why) = first_bad_row d rows ≡ Some (row, why)
FailsTest d s misfit = ⊥

-- Where a test stands in their order.
abbrev pub order_of : Misfit → ℕ
order_of (UnknownColumn name) = 0
order_of (WrongKind name) = 1
order_of (NotGrouped name) = 2
order_of (NotAnItem item) = 3
order_of (BadHaving item) = 4
order_of (NotWatchable item) = 5
order_of (CutsBrick name) = 6
order_of (BadRow row why) = 7

-- The first test that the statement fails.
pub record HasMisfit (d : Decl) (s : Statement) (misfit : Misfit) : Type 0 where
  pub fails : FailsTest d s misfit
  pub first : (other : Misfit) → order_of other < order_of misfit → FailsTest d s other → ⊥

-- The statement passes all tests.
abbrev pub FitsCube : Decl → Statement → Type 0
FitsCube d s = (misfit : Misfit) → FailsTest d s misfit → ⊥
