-- Names by their numbers: each list of names has as many as are counted, and is one of a cube.
use Rattle.std.proofs.Common.{◌≡◌, ℕ, zero, suc, List, [], ◌∷◌, length, map, get_or, slice_get, Some, refl}
use Rattle.std.proofs.lemmas.Option.{none-some}
use Rattle.cube_language.specs.declared.decl.Decl.{Decl}
use Rattle.cube_rounds.specs.Demands.{DimNames, HaveDims}
use Rattle.round_copies.specs.RoundCopies.{count_at}
use Rattle.round_store.specs.Counts.{counts_of}

counted-in : (lists : DimNames) (dim : ℕ) → get_or (map length lists) dim 0 ≡ length (get_or lists dim [])
counted-in [] dim = refl
counted-in (list ∷ lists) zero = refl
counted-in (list ∷ lists) (suc dim) = counted-in lists dim

pub counted : (names : List DimNames) (cube dim : ℕ)
    → count_at (counts_of names) cube dim ≡ length (get_or (get_or names cube []) dim [])
counted [] cube dim = refl
counted (lists ∷ names) zero dim = counted-in lists dim
counted (lists ∷ names) (suc cube) dim = counted names cube dim

pub cube-there : (cubes : List Decl) (names : List DimNames) (place : ℕ) (lists : DimNames) → HaveDims cubes names
    → slice_get names place ≡ Some lists → (d : Decl) × (slice_get cubes place ≡ Some d)
cube-there [] [] place lists all is = absurd (none-some lists is)
cube-there (c ∷ cubes) [] place lists all is = absurd (none-some lists is)
cube-there [] (n ∷ names) place lists all is = absurd all
cube-there (c ∷ cubes) (n ∷ names) zero lists all is = (c, refl)
cube-there (c ∷ cubes) (n ∷ names) (suc place) lists all is = cube-there cubes names place lists all.1 is
