-- The cube that a statement needs, by its place.
use Rattle.std.proofs.Common.{◌≡◌, ℕ, ◌+◌, ◌-◌, ◌<◌, Bool, List, length, get_or, Some, None, sym, ap, subst, ◌∙◌, arith}
use Rattle.std.specs.Prelude.{slice_get}
use Rattle.std.specs.Option.{option_and_then}
use Rattle.std.specs.Str.{bytes_eq}
use Rattle.std.proofs.lemmas.Option.{slice_get-get_or, slice_get_within, get_or_from_slice_get}
use Rattle.cube_language.specs.Misfits.{FitsCube}
use Rattle.cube_language.specs.declared.decl.Decl.{Decl}
use Rattle.cube_language.specs.declared.statement.Statement.{Statement}
use Rattle.cube_run.specs.RunRecords.{cube_called, cube_needed}
use Rattle.query_plan.specs.Bindings.{cube_place, IsBoundTo, IsBoundAt, IsUnfitFault, IsBindFault}
use Rattle.query_plan.specs.declared.fault.BindFault.{BindFault}
use Rattle.query_plan.specs.declared.fault.BindFault.TheVariants.{UnknownCube, Unfit}
use Rattle.query_plan.proofs.FirstPlaces.{found, finds_nothing, finds_there}

abbrev is_called : List ℕ → Decl → Bool
is_called name d = bytes_eq d.name name

pub no_cube : (cubes : List Decl) (name : List ℕ) → cube_place cubes name ≡ None → cube_called cubes name ≡ None
no_cube cubes name none = finds_nothing (is_called name) 0 cubes none

pub lacks_cube : (cubes : List Decl) (s : Statement) (name lacked : List ℕ) → cube_needed s ≡ Some name → lacked ≡ name
    → cube_place cubes name ≡ None → IsBindFault cubes s (UnknownCube lacked)
lacks_cube cubes s name lacked needed same none = record {
  needed = needed ∙ ap Some (sym same);
  lacks = ap (cube_called cubes) same ∙ no_cube cubes name none;
}

pub place_below : (cubes : List Decl) (name : List ℕ) (place : ℕ) → cube_place cubes name ≡ Some place
    → place < length cubes
place_below cubes name place is =
    let lt : place < 0 + length cubes = (found (is_called name) 0 cubes place is).below in
    omega arith

cube_there : (cubes : List Decl) (name : List ℕ) (place : ℕ) (d : Decl) → cube_place cubes name ≡ Some place
    → d ≡ get_or cubes place d → slice_get cubes place ≡ Some d
cube_there cubes name place d is there =
    slice_get-get_or cubes place d (place_below cubes name place is) ∙ ap Some (sym there)

pub bound_at : (cubes : List Decl) (s : Statement) (name : List ℕ) (place : ℕ) (d : Decl) → cube_needed s ≡ Some name
    → cube_place cubes name ≡ Some place → d ≡ get_or cubes place d → FitsCube d s → IsBoundAt cubes s place
bound_at cubes s name place d needed is there fits = (
  d,
  record {
    place_is = ap (option_and_then (cube_place cubes)) needed ∙ is;
    cube_is = cube_there cubes name place d is there;
    fits = fits;
  },
)

pub unfit_at : (cubes : List Decl) (s : Statement) (name : List ℕ) (place : ℕ) (d : Decl) (fault : BindFault)
    → cube_needed s ≡ Some name → cube_place cubes name ≡ Some place → d ≡ get_or cubes place d
    → IsUnfitFault d s fault → IsBindFault cubes s fault
unfit_at cubes s name place d (UnknownCube lacked) needed is there fails = absurd fails
unfit_at cubes s name place d (Unfit misfit) needed is there fails =
    let none : place - 0 ≡ place = omega arith in
    record {
      decl = d;
      cube_is = ap (option_and_then (cube_called cubes)) needed
          ∙ finds_there (is_called name) 0 cubes place is ∙ ap (slice_get cubes) none
          ∙ cube_there cubes name place d is there;
      fails = fails;
    }

pub bound_within : (cubes : List Decl) (s : Statement) (place : ℕ) → IsBoundAt cubes s place → place < length cubes
bound_within cubes s place bound = slice_get_within cubes place bound.0 bound.1.cube_is

pub bound_cube : (cubes : List Decl) (s : Statement) (place : ℕ) (cube : Decl) → IsBoundAt cubes s place
    → cube ≡ get_or cubes place cube → IsBoundTo cubes s place cube
bound_cube cubes s place cube bound there =
    let same : cube ≡ bound.0 = there ∙ get_or_from_slice_get cubes place bound.0 cube bound.1.cube_is in
    subst (λ (c : Decl). IsBoundTo cubes s place c) (sym same) bound.1
