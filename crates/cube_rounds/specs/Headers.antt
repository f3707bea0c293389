-- The header of a file of a store.
-- Source: this project's own.
use Rattle.std.specs.Prelude.{◌≡◌, ℕ, zero, suc, ◌<◌, ◌≤◌, ◌^◌, List, ◌∷◌, ◌++◌, length, codes}
use Rattle.cube_language.specs.declared.decl.Decl.{Decl}
use Rattle.cube_language.specs.Cubes.{cubes_text}
use Rattle.cube_language.specs.CubesText.{Declares}
use Rattle.cube_rounds.specs.Bytes.{four_bytes, eight_bytes, with_digest}

-- A gate is open where it has this byte, and shut where it has another.
abbrev pub open_gate : ℕ
open_gate = 0xa5

-- A gate that is written shut.
abbrev pub shut_gate : ℕ
shut_gate = 0

-- What a store's file begins with, behind its gate.
abbrev pub magic : List ℕ
magic = codes "CUBRICK"

-- A text of cubes with its length and generation. Version 1 has no generation, and stands for generation 0.
abbrev pub head_bytes : ℕ → List ℕ → List ℕ
head_bytes zero text = magic ++ (four_bytes 1 ++ (four_bytes (length text) ++ text))
head_bytes (suc n) text = magic ++ (four_bytes 2 ++ (four_bytes (length text) ++ (eight_bytes (suc n) ++ text)))

-- A header behind an open gate. The digest does not count the gate.
unfoldable pub header_bytes : (List ℕ → List ℕ) → ℕ → List ℕ → List ℕ
header_bytes digest generation text = open_gate ∷ with_digest digest (head_bytes generation text)

-- A text is the canonical text of the cubes that it declares.
pub record IsCanonical (text : List ℕ) (cubes : List Decl) : Type 0 where
  pub declares : Declares text cubes
  pub canonical : text ≡ cubes_text cubes

-- What a header has: a generation up to 2^62 and a canonical text of cubes.
pub record FitsHeader (generation : ℕ) (text : List ℕ) : Type 0 where
  pub small : generation ≤ 2 ^ 62
  pub cubes : List Decl
  pub canonical : IsCanonical text cubes
  pub long : length text < 2 ^ 32

-- Bytes begin with a header that is right, and a gate of any value.
pub record BeginsWithHeader (digest : List ℕ → List ℕ) (generation : ℕ) (text bytes : List ℕ) : Type 0 where
  pub fits : FitsHeader generation text
  pub gate : ℕ
  pub rest : List ℕ
  pub whole : bytes ≡ header_bytes digest generation text ++ gate ∷ rest
