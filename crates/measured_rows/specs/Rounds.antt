-- The checksum of a round that is read.
use Rattle.std.specs.Prelude.{◌≡◌, ◌⊎◌, ℕ, ◌+◌, List, Option, Some, None, length}
use Rattle.cube_language.specs.declared.decl.Decl.{Decl}
use Rattle.cube_rounds.specs.declared.round.Round.{Round}
use Rattle.cube_rounds.specs.Bytes.{round_bytes}
use Rattle.cube_rounds.specs.Demands.{BeginsWithRound, DimNames}
use Rattle.sha2.specs.Sha256.{sha256}

-- Of bytes behind cubes and names: how many bytes the round at their front has with its gate, 0 where none is there.
abbrev pub IsRoundSize : List Decl → List DimNames → List ℕ → ℕ → Type 0
IsRoundSize cubes names bytes size =
    ((round : Round) × BeginsWithRound sha256 cubes names round bytes × (size ≡ length (round_bytes sha256 cubes round) + 1))
    ⊎ (((round : Round) → BeginsWithRound sha256 cubes names round bytes → ⊥) × (size ≡ 0))

-- How many bytes a round has that was found, 0 where none was.
abbrev pub round_size_found : Option (Round × ℕ) → ℕ
round_size_found None = 0
round_size_found (Some found) = found.1
