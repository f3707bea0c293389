-- Rounds behind the same cubes and names, by their bytes.
use Rattle.std.specs.Prelude.{◌≡◌, ℕ, ◌^◌, ◌<◌, List, [], ◌++◌, length, All}
use Rattle.cube_language.specs.declared.decl.Decl.{Decl}
use Rattle.cube_language.specs.Cubes.{IsStorable}
use Rattle.cube_rounds.specs.declared.round.Round.{Round}
use Rattle.cube_rounds.specs.Bytes.{round_bytes}
use Rattle.cube_rounds.specs.Demands.{DimNames, FitsRound}

-- Where a round's bytes begin with those of another, the two are one, and nothing more stands there. The bytes
-- are fewer than a number of eight bytes counts.
abbrev pub RoundsAreApart : (List ℕ → List ℕ) → Type 0
RoundsAreApart digest =
    (before : List Decl) (names : List DimNames) (long short : Round) (more : List ℕ)
    → All IsStorable before → FitsRound before names long → FitsRound before names short
    → length (round_bytes digest before long) < 2 ^ 63
    → round_bytes digest before long ≡ round_bytes digest before short ++ more
    → (long ≡ short) × (more ≡ [])
