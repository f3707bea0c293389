-- The two tests on the columns that a statement uses.
use Rattle.std.specs.Prelude.{ℕ, Bool, List, Option, find}
use Rattle.std.specs.Option.{option_map}
use Rattle.cube_language.specs.ColumnUses.{ColumnUse, Measuring, is_unknown, is_wrong_use}
use Rattle.cube_language.specs.declared.decl.Decl.{Decl}
use Rattle.statement_check.specs.declared.columns.ColumnTest.{ColumnTest}
use Rattle.statement_check.specs.declared.columns.ColumnTest.TheVariants.{Unknown, WrongUse}

-- A metric of which a number is computed.
abbrev pub measure_use : List ℕ → ColumnUse
measure_use metric = record { name = metric; purpose = Measuring }

-- The use of a column fails the test.
abbrev pub use_fails : ColumnTest → Decl → ColumnUse → Bool
use_fails Unknown d u = is_unknown d u
use_fails WrongUse d u = is_wrong_use d u

-- The name of the first column whose use fails the test.
abbrev pub first_failing : ColumnTest → Decl → List ColumnUse → Option (List ℕ)
first_failing test d uses = option_map (λ u. u.name) (find (use_fails test d) uses)
