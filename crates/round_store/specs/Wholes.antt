-- Whole files, and files that are replaced.
-- Source: this project's own.
use Rattle.std.specs.Prelude.{◌≡◌, ℕ, List, [], ◌∷◌, ◌++◌}
use Rattle.cube_language.specs.declared.decl.Decl.{Decl}
use Rattle.cube_language.specs.Cubes.{cubes_text}
use Rattle.cube_rounds.specs.declared.round.Round.{Round}
use Rattle.cube_rounds.specs.Bytes.{round_bytes}
use Rattle.cube_rounds.specs.Headers.{open_gate, shut_gate, header_bytes}
use Rattle.sha2.specs.Sha256.{sha256}

-- What a whole file has behind its first gate: a header, an open gate, a round and a gate that is shut.
pub record IsWholeFile (generation : ℕ) (cubes : List Decl) (round : Round) (bytes : List ℕ) : Type 0 where
  pub are : open_gate ∷ bytes
      ≡ header_bytes sha256 generation (cubes_text cubes)
      ++ open_gate ∷ (round_bytes sha256 cubes round ++ shut_gate ∷ [])

-- What a new file has behind its first gate: a header and a gate that is shut.
pub record IsBegun (generation : ℕ) (text bytes : List ℕ) : Type 0 where
  pub are : open_gate ∷ bytes ≡ header_bytes sha256 generation text ++ shut_gate ∷ []
