-- Rows whose coordinates are below their limits.
use Rattle.std.proofs.Common.{◌≡◌, ℤ, ℕ, zero, suc, ◌<◌, ◌^◌, Bool, true, false, List, [], ◌∷◌, ◌++◌, length, map, slice_get, Some, FitsSigned, if◌then◌else◌, refl, arith}
use Rattle.std.specs.Int.{w64}
use Rattle.std.specs.List.{zip, AllZip, AllByRecursion}
use Rattle.brick_address.specs.Addresses.{AreCoords}
use Rattle.cube_language.specs.Cubes.{sizes_of}
use Rattle.cube_language.specs.declared.decl.DimDecl.{DimDecl}
use Rattle.cube_rounds.specs.Demands.{DimNames, IsCoordBelow, coord_limit, names_with}

-- A coordinate of a text dimension is the number of one of these names.
abbrev pub HasNames : List DimDecl → DimNames → DimNames → List ℕ → Type 0
HasNames dims earlier names coords =
    (dim coord : ℕ) (d : DimDecl) (first more : List (List ℕ)) → slice_get dims dim ≡ Some d → d.text ≡ true
    → slice_get earlier dim ≡ Some first → slice_get names dim ≡ Some more → slice_get coords dim ≡ Some coord
    → coord < length (first ++ more)

below : (text : Bool) (count cardinality coord : ℕ) → (text ≡ true → coord < count) → coord < cardinality
    → coord < (if text then count else cardinality)
below true count cardinality coord named low = named refl
below false count cardinality coord named low = low

pub coords-below : (dims : List DimDecl) (earlier names : DimNames) (coords : List ℕ) → AreCoords (sizes_of dims) coords
    → length earlier ≡ length dims → length names ≡ length dims → AllByRecursion (λ coord. coord < 2 ^ 32) coords
    → HasNames dims earlier names coords
    → AllZip IsCoordBelow (map coord_limit (zip dims (names_with earlier names))) coords
coords-below [] earlier names [] are long_earlier long_names small named = tt
coords-below [] earlier names (c ∷ coords) are long_earlier long_names small named = absurd are
coords-below (d ∷ dims) earlier names [] are long_earlier long_names small named = absurd are
coords-below (d ∷ dims) [] names (c ∷ coords) are long_earlier long_names small named =
    absurd (omega (arith, long_earlier))
coords-below (d ∷ dims) (e ∷ earlier) [] (c ∷ coords) are long_earlier long_names small named =
    absurd (omega (arith, long_names))
coords-below (d ∷ dims) (e ∷ earlier) (m ∷ names) (c ∷ coords) are long_earlier long_names small named = (
  record {
    below =
        below d.text (length (e ++ m)) d.cardinality c (λ text. named zero c d e m refl text refl refl refl) are.0;
    small = small.0;
  },
  coords-below dims earlier names coords are.1 (omega (arith, long_earlier)) (omega (arith, long_names)) small.1
      (λ dim. named (suc dim)),
)

pub metrics-fit : (names : List (List ℕ)) (numbers : List ℤ) → length numbers ≡ length names
    → AllByRecursion (FitsSigned w64) numbers → AllZip (λ name number. FitsSigned w64 number) names numbers
metrics-fit [] [] long fit = tt
metrics-fit [] (n ∷ numbers) long fit = absurd (omega (arith, long))
metrics-fit (name ∷ names) [] long fit = absurd (omega (arith, long))
metrics-fit (name ∷ names) (n ∷ numbers) long fit = (fit.0, metrics-fit names numbers (omega (arith, long)) fit.1)
