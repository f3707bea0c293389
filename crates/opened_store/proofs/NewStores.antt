-- A new store for cubes that some text declares.
use Rattle.std.proofs.Common.{◌≡◌, ℕ, List, Result, Ok, Err, sym, subst, arith}
use Rattle.std.specs.Prelude.{IfOk}
use Rattle.cube_language.specs.declared.decl.Decl.{Decl}
use Rattle.cube_language.specs.Cubes.{cubes_text}
use Rattle.cube_language.specs.CubesText.{Declares}
use Rattle.cube_rounds.specs.Headers.{IsCanonical, FitsHeader}
use Rattle.cube_rounds.specs.Stands.{Kept, kept_of_cubes}
use Rattle.cube_schema.specs.Texts.{AreDeclared, CanonicalTextsDeclare}
use Rattle.kept_data.specs.KeptFiles.{IsKeptByFile}
use Rattle.round_text.specs.TextLengths.{CanonicalTextsAreShort}

pub is_canonical : CanonicalTextsDeclare → (cubes : List Decl) (text : List ℕ) → AreDeclared cubes → text ≡ cubes_text cubes → IsCanonical text cubes
is_canonical law cubes text declared is = record { declares = subst (λ (t : List ℕ). Declares t cubes) (sym is) (law declared.0 cubes declared.1); canonical = is }

pub header_fits : CanonicalTextsDeclare → CanonicalTextsAreShort → (cubes : List Decl) (text : List ℕ) → AreDeclared cubes → text ≡ cubes_text cubes → FitsHeader 1 text
header_fits law short cubes text declared is =
    let canonical = is_canonical law cubes text declared is in
    record { small = omega arith; cubes = cubes; canonical = canonical; long = short text cubes canonical }

-- Cubes that some text declares are kept by a file.
pub kept_from_cubes : {E : Type 0} → ((text : List ℕ) (cubes : List Decl) → Declares text cubes → IsKeptByFile (kept_of_cubes cubes)) → (cubes copied : List Decl) → AreDeclared cubes → copied ≡ cubes
    → (r : Result Kept E) → IfOk r (λ kept. kept ≡ kept_of_cubes copied) → IfOk r (λ kept. IsKeptByFile kept)
kept_from_cubes law cubes copied declared same (Ok kept) is =
    subst IsKeptByFile (sym is) (subst (λ (list : List Decl). IsKeptByFile (kept_of_cubes list)) (sym same) (law declared.0 cubes declared.1))
kept_from_cubes law cubes copied declared same (Err e) is = tt
