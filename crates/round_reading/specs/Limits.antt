-- Limits of coordinates that lie within a cube.
use Rattle.std.specs.Prelude.{ℕ, ◌+◌, ◌≤◌, List, length, MatchBool}
use Rattle.std.specs.List.{AllZip}
use Rattle.cube_values.specs.declared.shape.Size.{Size}
use Rattle.cube_language.specs.declared.decl.DimDecl.{DimDecl}

-- A limit for each dimension, within its cardinality.
abbrev pub AreLimits : List ℕ → List Size → Type 0
AreLimits limits sizes = AllZip (λ limit size. limit ≤ size.cardinality) limits sizes

-- The names of a dimension of texts are no more than its cardinality with the new ones.
abbrev pub HasNameRoom : DimDecl × List (List ℕ) → List (List ℕ) → Type 0
HasNameRoom d names = MatchBool d.0.text (length d.1 + length names ≤ d.0.cardinality) (Unit {0})
