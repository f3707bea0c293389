-- The columns that a statement uses, and which uses a cube does not allow.
-- Source: this project's own.
use Rattle.std.specs.Prelude.{ℕ, Bool, true, false, not, ◌||◌, List, [], ◌∷◌, ◌++◌, map, Option, find, if◌then◌else◌}
use Rattle.std.specs.List.{list_any, flat_map}
use Rattle.std.specs.Option.{option_map, option_map_or}
use Rattle.std.specs.Str.{bytes_eq}
use Rattle.cube_values.specs.declared.value.Value.{Value}
use Rattle.cube_values.specs.declared.value.Value.TheVariants as value
use Rattle.cube_language.specs.Cubes.{column_names}
use Rattle.cube_language.specs.StatementParts.{items_of, conds_of, group_of, asked_items}
use Rattle.cube_language.specs.declared.decl.Decl.{Decl}
use Rattle.cube_language.specs.declared.decl.DimDecl.{DimDecl}
use Rattle.cube_language.specs.declared.statement.Cond.{Cond}
use Rattle.cube_language.specs.declared.statement.Cond.TheVariants.{Equal, In, Between}
use Rattle.cube_language.specs.declared.statement.Item.{Item}
use Rattle.cube_language.specs.declared.statement.Item.TheVariants.{Plain, Sum, Min, Max, Avg, CountAll}
use Rattle.cube_language.specs.declared.statement.Statement.{Statement}

-- What a column is used for: to group rows by its values, to compute a number of them, to compare them with
-- these values, or to ask whether they lie between two.
pub data Purpose : Type 0 where
  Grouping : Purpose
  Measuring : Purpose
  Comparing : List Value → Purpose
  Ranging : Value → Value → Purpose

-- A column by its name, and what a statement uses it for.
pub record ColumnUse : Type 0 where
  pub name : List ℕ
  pub purpose : Purpose

abbrev pub item_uses : Item → List ColumnUse
item_uses (Plain name) = record { name = name; purpose = Grouping } ∷ []
item_uses (Sum metric) = record { name = metric; purpose = Measuring } ∷ []
item_uses (Min metric) = record { name = metric; purpose = Measuring } ∷ []
item_uses (Max metric) = record { name = metric; purpose = Measuring } ∷ []
item_uses (Avg metric) = record { name = metric; purpose = Measuring } ∷ []
item_uses CountAll = []

abbrev pub cond_use : Cond → ColumnUse
cond_use (Equal name wanted) = record { name = name; purpose = Comparing (wanted ∷ []) }
cond_use (In name wanted) = record { name = name; purpose = Comparing wanted }
cond_use (Between name first last) = record { name = name; purpose = Ranging first last }

abbrev pub group_use : List ℕ → ColumnUse
group_use name = record { name = name; purpose = Grouping }

-- The columns of a statement, as they come in its text. A condition has the place of its column.
abbrev pub column_uses : Statement → List ColumnUse
column_uses s = flat_map item_uses (items_of s)
    ++ (map cond_use (conds_of s) ++ (map group_use (group_of s) ++ flat_map item_uses (asked_items s)))

-- The dimension of a name, if the cube has one.
abbrev pub dim_named : Decl → List ℕ → Option DimDecl
dim_named d name = find (λ dim. bytes_eq dim.name name) d.dims

abbrev pub is_text : Value → Bool
is_text (value.Text text) = true
is_text (value.Int n) = false

-- A value is of the other kind than the dimension.
abbrev pub is_of_other_kind : DimDecl → Value → Bool
is_of_other_kind dim v = if dim.text then not (is_text v) else is_text v

-- A dimension is not measured, is compared with values of its kind, and has an order where it is one of numbers.
abbrev pub is_against_dim : Purpose → DimDecl → Bool
is_against_dim Grouping dim = false
is_against_dim Measuring dim = true
is_against_dim (Comparing values) dim = list_any (is_of_other_kind dim) values
is_against_dim (Ranging first last) dim = dim.text || (is_text first || is_text last)

-- A metric is measured and nothing else.
abbrev pub is_against_metric : Purpose → Bool
is_against_metric Measuring = false
is_against_metric purpose = true

-- The column is used against its kind.
abbrev pub is_wrong_use : Decl → ColumnUse → Bool
is_wrong_use d u = option_map_or (is_against_dim u.purpose) (dim_named d u.name) (is_against_metric u.purpose)

-- The cube lacks the column.
abbrev pub is_unknown : Decl → ColumnUse → Bool
is_unknown d u = not (list_any (bytes_eq u.name) (column_names d))

-- The leftmost column that the cube lacks.
abbrev pub unknown_column : Decl → Statement → Option (List ℕ)
unknown_column d s = option_map (λ u. u.name) (find (is_unknown d) (column_uses s))

-- The leftmost column that is used against its kind.
abbrev pub wrong_kind : Decl → Statement → Option (List ℕ)
wrong_kind d s = option_map (λ u. u.name) (find (is_wrong_use d) (column_uses s))
