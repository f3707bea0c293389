-- The first cube of a name that a cube before it has.
use Rattle.std.proofs.Common.{◌≡◌, ℕ, suc, ◌<◌, true, ◌||◌, List, [], ◌∷◌, ◌++◌, length, take, drop, get_or, Some, None, refl, ap, ◌∙◌, inl, inr}
use Rattle.std.specs.List.{list_any}
use Rattle.std.specs.Str.{bytes_eq}
use Rattle.std.proofs.Math.Seq.{split_at}
use Rattle.std.proofs.lemmas.Bool.{cases_Bool}
use Rattle.std.proofs.lemmas.List.{get_or-map, take-map, length-map}
use Rattle.cube_language.specs.declared.cubes_fault.CubesFault.TheVariants.{DuplicateCube}
use Rattle.cube_language.specs.Cubes.{repeated_after, first_repeated}
use Rattle.cube_schema.specs.declared.gather.Begun.{Begun}
use Rattle.cube_schema.specs.Outcomes.{begun_names, repeated_in}
use Rattle.cube_schema.specs.Repeats.{RepeatsAt}
use Rattle.cube_schema.proofs.Repeated.{or_moved, or_false}

none-after : (before : List (List ℕ)) (cubes : List Begun) → repeated_after before (begun_names cubes) ≡ None → repeated_in before cubes ≡ None
none-after before [] apart = refl
none-after before (cube ∷ cubes) apart = elim (cases_Bool (list_any (bytes_eq cube.decl.name) before)) [
  | inl there ↦ let no = rw there at apart in absurd cc
  | inr new ↦ rw new (none-after (cube.decl.name ∷ before) cubes (rw new at apart))
]

pub none-repeated : (cubes : List Begun) → first_repeated (begun_names cubes) ≡ None → repeated_in [] cubes ≡ None
none-repeated cubes apart = none-after [] cubes apart

at-seam : (before : List (List ℕ)) (front : List Begun) (cube : Begun) (rest : List Begun) → repeated_after before (begun_names front) ≡ None
    → (list_any (bytes_eq cube.decl.name) (begun_names front) || list_any (bytes_eq cube.decl.name) before) ≡ true → repeated_in before (front ++ cube ∷ rest) ≡ Some (DuplicateCube cube.line)
at-seam before [] cube rest apart again = rw again refl
at-seam before (first ∷ front) cube rest apart again = elim (cases_Bool (list_any (bytes_eq first.decl.name) before)) [
  | inl there ↦ let no = rw there at apart in absurd cc
  | inr new ↦
      let name = cube.decl.name in
      rw new (at-seam (first.decl.name ∷ before) front cube rest (rw new at apart) (or_moved (list_any (bytes_eq name) (begun_names front)) (bytes_eq name first.decl.name) (list_any (bytes_eq name) before) ∙ again))
]

-- Behind cubes that each have a name of their own, a cube that has one of these names is the first to do so.
pub repeated-seam : (front : List Begun) (cube : Begun) (rest : List Begun) → first_repeated (begun_names front) ≡ None → list_any (bytes_eq cube.decl.name) (begun_names front) ≡ true → repeated_in [] (front ++ cube ∷ rest) ≡ Some (DuplicateCube cube.line)
repeated-seam front cube rest apart again = at-seam [] front cube rest apart (or_false (list_any (bytes_eq cube.decl.name) (begun_names front)) ∙ again)

pub repeated-at : (cubes : List Begun) (place : ℕ) (d : Begun) → RepeatsAt (begun_names cubes) place → repeated_in [] cubes ≡ Some (DuplicateCube (get_or cubes place d).line)
repeated-at cubes place d repeats =
    let name : Begun → List ℕ = λ cube. cube.decl.name in
    let lt : place < length cubes = rw (length-map cubes name) at repeats.within in
    let again = rw (get_or-map name cubes place d [] lt, take-map name place cubes) at repeats.again in
    let apart = rw (take-map name place cubes) at repeats.apart in
    ap (repeated_in []) (split_at cubes place d lt) ∙ repeated-seam (take place cubes) (get_or cubes place d) (drop (suc place) cubes) apart again
