-- Which cubes a canonical text declares.
use Rattle.std.specs.Prelude.{ℕ, List, MatchOption, Option}
use Rattle.cube_language.specs.declared.decl.Decl.{Decl}
use Rattle.cube_rounds.specs.Headers.{IsCanonical}

-- A function tells of each text the cubes of which it is the canonical text, or that there are none.
abbrev pub TellsCubes : (List ℕ → Option (List Decl)) → Type 0
TellsCubes told =
    (text : List ℕ) → MatchOption (told text) ((cubes : List Decl) → IsCanonical text cubes → ⊥) (IsCanonical text)
