-- Canonical texts, by a function that tells their cubes.
use Rattle.std.proofs.Common.{◌≡◌, ℕ, List, Option, Some, None, subst}
use Rattle.std.specs.Prelude.{MatchOption}
use Rattle.cube_language.specs.declared.decl.Decl.{Decl}
use Rattle.cube_rounds.specs.Headers.{IsCanonical}
use Rattle.round_fields.specs.Canonical.{TellsCubes}

abbrev is_told : List ℕ → Option (List Decl) → Type 0
is_told text o = MatchOption o ((cubes : List Decl) → IsCanonical text cubes → ⊥) (IsCanonical text)

pub told_canonical : (told : List ℕ → Option (List Decl)) → TellsCubes told → (text : List ℕ) (cubes : List Decl) → told text ≡ Some cubes → IsCanonical text cubes
told_canonical told tells text cubes e = subst (is_told text) e (tells text)

pub never_none : (told : List ℕ → Option (List Decl)) → TellsCubes told → (text : List ℕ) (cubes : List Decl) → told text ≡ None → IsCanonical text cubes → ⊥
never_none told tells text cubes e canonical = (subst (is_told text) e (tells text)) cubes canonical
