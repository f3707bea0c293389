-- Where a store keeps cubes of a run, it keeps those of its header without names.
use Rattle.std.proofs.Common.{◌≡◌, ◌∙◌, ℕ, Bool, true, false, List, [], ◌∷◌, ◌++◌, map, take, drop, slice_get, Some, if◌then◌else◌, append_assoc, refl, sym, ap}
use mathlib.Core.List.{IsPrefix}
use Rattle.std.proofs.lemmas.List.{length-map, take-append-drop}
use Rattle.core_events.specs.Cells.{desk_of, dictionary_of}
use Rattle.core_events.specs.Events.{Opening, CoreEvent}
use Rattle.cube_language.specs.declared.decl.Decl.{Decl}
use Rattle.cube_language.specs.declared.decl.DimDecl.{DimDecl}
use Rattle.cube_rounds.specs.Demands.{DimNames, HaveDims, no_names}
use Rattle.cube_rounds.specs.Stands.{Kept, kept_of_cubes}
use Rattle.following_rounds.proofs.ByPlaces.{mapped}
use Rattle.following_rounds.specs.FollowingRounds.{IsKeptAfter}
use Rattle.round_store.specs.States.{header_cubes}

header-dims : (cubes : List Decl) → HaveDims cubes (map no_names cubes)
header-dims [] = tt
header-dims (d ∷ cubes) = (length-map d.dims (λ (dim : DimDecl). []), header-dims cubes)

no-list : (cubes : List Decl) (cube dim : ℕ) (lists : DimNames) (list : List (List ℕ))
    → slice_get (map no_names cubes) cube ≡ Some lists → slice_get lists dim ≡ Some list → [] ≡ list
no-list cubes cube dim lists list is is_list =
    let from = mapped no_names cubes cube lists is in
    (mapped (λ (x : DimDecl). []) from.item.dims dim list (ap (λ (all : DimNames). slice_get all dim) from.gives ∙ is_list)).gives

first-prefix : (n : ℕ) (cubes all : List Decl) → IsPrefix cubes all → IsPrefix (take n cubes) all
first-prefix n cubes all prefix = (
  drop n cubes ++ prefix.0,
  sym (append_assoc (take n cubes) (drop n cubes) prefix.0)
      ∙ ap (λ (front : List Decl). front ++ prefix.0) (take-append-drop n cubes) ∙ prefix.1,
)

pub kept-behind : (o : Opening) (run : List CoreEvent) (whole : Bool) (kept : Kept) → IsKeptAfter o run kept.cubes kept.names
    → IsKeptAfter o run (if whole then kept_of_cubes (header_cubes kept) else kept).cubes
    (if whole then kept_of_cubes (header_cubes kept) else kept).names
kept-behind o run true kept is = record {
  first_cubes = first-prefix kept.declared kept.cubes (desk_of o run).cubes is.first_cubes;
  dims = header-dims (header_cubes kept);
  first_names = λ cube dim lists list at at_list.
      let none = no-list (header_cubes kept) cube dim lists list at at_list in
      let all = (dictionary_of o cube dim run).names in
      coe 0 1 (i. IsPrefix (none i) all) (all, refl);
}
kept-behind o run false kept is = is
