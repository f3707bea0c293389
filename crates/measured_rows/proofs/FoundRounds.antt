-- Rounds that were found at the front of bytes.
use Rattle.std.proofs.Common.{◌≡◌, ℕ, ◌+◌, List, length, Option, Some, None, refl, inl, inr}
use Rattle.std.specs.Prelude.{IfSome, IfNone}
use Rattle.cube_language.specs.declared.decl.Decl.{Decl}
use Rattle.cube_rounds.specs.declared.round.Round.{Round}
use Rattle.cube_rounds.specs.Bytes.{round_bytes}
use Rattle.cube_rounds.specs.Demands.{BeginsWithRound, DimNames}
use Rattle.measured_rows.specs.Rounds.{IsRoundSize, round_size_found}
use Rattle.sha2.specs.Sha256.{sha256}

pub found_size : (cubes : List Decl) (names : List DimNames) (bytes : List ℕ) (found : Option (Round × ℕ))
    → IfSome found (λ x. BeginsWithRound sha256 cubes names x.0 bytes × (x.1 ≡ length (round_bytes sha256 cubes x.0) + 1))
    → IfNone found ((round : Round) → BeginsWithRound sha256 cubes names round bytes → ⊥)
    → IsRoundSize cubes names bytes (round_size_found found)
found_size cubes names bytes None some none = inr (none, refl)
found_size cubes names bytes (Some (round, size)) some none = inl (round, some.0, some.1)
