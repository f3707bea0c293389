-- How long the canonical text of cubes is.
-- Source: the limits of names, columns and cubes, which are this project's own.
use Rattle.std.specs.Prelude.{ℕ, ◌<◌, ◌^◌, List, length}
use Rattle.cube_language.specs.declared.decl.Decl.{Decl}
use Rattle.cube_rounds.specs.Headers.{IsCanonical}

-- Four bytes count the bytes of each canonical text.
abbrev pub CanonicalTextsAreShort : Type 0
CanonicalTextsAreShort = (text : List ℕ) (cubes : List Decl) → IsCanonical text cubes → length text < 2 ^ 32
