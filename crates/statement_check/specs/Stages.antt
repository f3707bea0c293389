-- How far a statement has passed the tests on its cube.
use Rattle.std.specs.Prelude.{ℕ, ◌<◌}
use Rattle.cube_language.specs.Misfits.{FailsTest, order_of}
use Rattle.cube_language.specs.declared.decl.Decl.{Decl}
use Rattle.cube_language.specs.declared.misfit.Misfit.{Misfit}
use Rattle.cube_language.specs.declared.statement.Statement.{Statement}

-- The statement passes the first tests, so many of them.
abbrev pub PassesFirst : ℕ → Decl → Statement → Type 0
PassesFirst tests d s = (misfit : Misfit) → order_of misfit < tests → FailsTest d s misfit → ⊥
