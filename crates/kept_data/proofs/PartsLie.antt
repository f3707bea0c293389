-- What a round has of a cube lies in it, and still does with more names.
use Rattle.std.proofs.Common.{◌≡◌, ℕ, zero, suc, ◌<◌, ◌≤◌, Bool, true, false, cond, List, [], ◌∷◌, ◌++◌, length, map, get_or, Some, subst, arith}
use Rattle.std.specs.Prelude.{FitsSigned, MatchBool, slice_get}
use Rattle.std.specs.List.{zip, AllZip, AllByRecursion}
use Rattle.std.proofs.lemmas.List.{length-append}
use Rattle.std.proofs.lemmas.List.Elements.{All-weaker, All-from_recursion}
use Rattle.std.proofs.lemmas.Option.{none-some, same_Some}
use Rattle.std.proofs.lemmas.Slice.Zip.{AllZip-long}
use Rattle.std.specs.Int.{w64}
use Rattle.cube_values.specs.declared.row.CodedRow.{CodedRow}
use Rattle.cube_language.specs.declared.decl.DimDecl.{DimDecl}
use Rattle.cube_language.specs.declared.decl.Decl.{Decl}
use Rattle.cube_language.specs.Cubes.{sizes_of}
use Rattle.brick_address.specs.Addresses.{AreCoords}
use Rattle.cube_rounds.specs.declared.round.RoundCube.{RoundCube}
use Rattle.cube_rounds.specs.declared.round.Round.{Round}
use Rattle.cube_rounds.specs.Bricks.{BrickPart}
use Rattle.cube_rounds.specs.Demands.{DimNames, names_with, coord_limit, coord_limits, IsCoordBelow, IsOfEpochs, FitsRow, FitsBrick, FitsRoundCube}
use Rattle.kept_data.specs.KeptNames.{AreKeptNames, FitKeptNames, HasKeptNames}
use Rattle.kept_data.specs.KeptRounds.{IsKeptRow, IsKeptPart, LiesInCube}

-- ---- rows

below_cardinality : (text : Bool) (cardinality : ℕ) (names : List (List ℕ)) → MatchBool text (AreKeptNames cardinality names) (names ≡ [])
    → cond text (length names) cardinality ≤ cardinality
below_cardinality true cardinality names kept = kept.few
below_cardinality false cardinality names none = omega arith

are_coords : (dims : List DimDecl) (lists : DimNames) (coords : List ℕ) → AllZip FitKeptNames dims lists → AllZip IsCoordBelow (map coord_limit (zip dims lists)) coords
    → AreCoords (sizes_of dims) coords
are_coords [] [] [] fit below = tt
are_coords [] [] (coord ∷ coords) fit below = absurd below
are_coords [] (names ∷ lists) coords fit below = absurd fit
are_coords (dim ∷ dims) [] coords fit below = absurd fit
are_coords (dim ∷ dims) (names ∷ lists) [] fit below = absurd below
are_coords (dim ∷ dims) (names ∷ lists) (coord ∷ coords) fit below =
    (omega (arith, below.0.below, below_cardinality dim.text dim.cardinality names fit.0), are_coords dims lists coords fit.1 below.1)

below_names : (text : Bool) (cardinality coord : ℕ) (names : List (List ℕ)) → text ≡ true → coord < cond text (length names) cardinality → coord < length names
below_names true cardinality coord names is below = below
below_names false cardinality coord names is below = absurd cc

are_named : (dims : List DimDecl) (lists : DimNames) (coords : List ℕ) → AllZip IsCoordBelow (map coord_limit (zip dims lists)) coords
    → (dim coord : ℕ) → slice_get (map (λ d. d.text) dims) dim ≡ Some true → slice_get coords dim ≡ Some coord → coord < length (get_or lists dim [])
are_named [] lists coords below dim coord text is = absurd (none-some true text)
are_named (d ∷ dims) [] [] below dim coord text is = absurd (none-some coord is)
are_named (d ∷ dims) [] (first ∷ coords) below dim coord text is = absurd below
are_named (d ∷ dims) (names ∷ lists) [] below dim coord text is = absurd (none-some coord is)
are_named (d ∷ dims) (names ∷ lists) (first ∷ coords) below zero coord text is =
    subst (λ n. n < length names) (same_Some first coord is) (below_names d.text d.cardinality first names (same_Some d.text true text) below.0.below)
are_named (d ∷ dims) (names ∷ lists) (first ∷ coords) below (suc dim) coord text is = are_named dims lists coords below.1 dim coord text is

row_kept : (cube : Decl) (lists : DimNames) (brick : ℕ) (row : CodedRow) → HasKeptNames cube lists → FitsRow cube (coord_limits cube lists) brick row → IsKeptRow cube lists brick row
row_kept cube lists brick row fit fits = record {
  coords = record { of_cube = are_coords cube.dims lists row.coords fit fits.coords; of_brick = fits.place };
  metrics = AllZip-long (λ name number. FitsSigned w64 number) cube.metrics row.metrics fits.metrics;
  names = λ dim coord text is. are_named cube.dims lists row.coords fits.coords dim coord text is;
}

-- ---- parts

all_weaker : {X : Type 0} (P Q : X → Type 0) → ((x : X) → P x → Q x) → (xs : List X) → AllByRecursion P xs → AllByRecursion Q xs
all_weaker P Q to [] all = tt
all_weaker P Q to (x ∷ xs) all = (to x all.0, all_weaker P Q to xs all.1)

part_kept : (cube : Decl) (lists : DimNames) (round : Round) (b : BrickPart) → HasKeptNames cube lists → FitsBrick cube (coord_limits cube lists) round.from round.epoch b
    → IsKeptPart cube lists round b
part_kept cube lists round b fit fits = record {
  number = fits.number;
  some = fits.some;
  vector = fits.vector;
  epochs = All-from_recursion (IsOfEpochs round.from round.epoch) b.entries fits.epochs;
  rows = All-from_recursion (IsKeptRow cube lists b.brick) b.rows
      (all_weaker (FitsRow cube (coord_limits cube lists) b.brick) (IsKeptRow cube lists b.brick) (λ row fits. row_kept cube lists b.brick row fit fits) b.rows fits.rows);
}

-- What a round has of a cube, with the names behind it.
pub cube_lies : (cube : Decl) (old : DimNames) (round : Round) (part : RoundCube) → HasKeptNames cube (names_with old part.names)
    → FitsRoundCube round.from round.epoch cube old part → LiesInCube cube (names_with old part.names) round part
cube_lies cube old round part fit fits =
    let lists = names_with old part.names in
    record {
      rising = fits.rising;
      bricks = All-from_recursion (IsKeptPart cube lists round) part.bricks
          (all_weaker (FitsBrick cube (coord_limits cube lists) round.from round.epoch) (IsKeptPart cube lists round) (λ b fits. part_kept cube lists round b fit fits) part.bricks fits.bricks);
    }

-- ---- more names

longer : (lists news : DimNames) (dim : ℕ) → length lists ≡ length news → length (get_or lists dim []) ≤ length (get_or (map (λ d. d.0 ++ d.1) (zip lists news)) dim [])
longer [] news dim same = omega arith
longer (names ∷ lists) [] dim same = absurd (omega arith)
longer (names ∷ lists) (more ∷ news) zero same = omega (arith, length-append names more)
longer (names ∷ lists) (more ∷ news) (suc dim) same = longer lists news dim (omega arith)

row_still : (cube : Decl) (lists news : DimNames) (brick : ℕ) (row : CodedRow) → length lists ≡ length news → IsKeptRow cube lists brick row → IsKeptRow cube (names_with lists news) brick row
row_still cube lists news brick row same kept = record {
  coords = kept.coords;
  metrics = kept.metrics;
  names = λ dim coord text is. omega (arith, kept.names dim coord text is, longer lists news dim same);
}

part_still : (cube : Decl) (lists news : DimNames) (round : Round) (b : BrickPart) → length lists ≡ length news → IsKeptPart cube lists round b → IsKeptPart cube (names_with lists news) round b
part_still cube lists news round b same kept = record {
  number = kept.number;
  some = kept.some;
  vector = kept.vector;
  epochs = kept.epochs;
  rows = All-weaker (IsKeptRow cube lists b.brick) (IsKeptRow cube (names_with lists news) b.brick) (λ row kept. row_still cube lists news b.brick row same kept) b.rows kept.rows;
}

pub still_lies : (cube : Decl) (lists news : DimNames) (round : Round) (part : RoundCube) → length lists ≡ length news → LiesInCube cube lists round part
    → LiesInCube cube (names_with lists news) round part
still_lies cube lists news round part same lies = record {
  rising = lies.rising;
  bricks = All-weaker (IsKeptPart cube lists round) (IsKeptPart cube (names_with lists news) round) (λ b kept. part_still cube lists news round b same kept) part.bricks lies.bricks;
}
