-- The cubes and the names of a round of a run, behind what a store keeps of the run.
use Rattle.std.proofs.Common.{◌≡◌, ◌∙◌, ℕ, Bool, true, false, List, [], ◌∷◌, ◌++◌, length, map, drop, slice_get, Some, MatchBool, refl, sym, ap, inl, inr, arith, append_assoc, append-nil}
use mathlib.Core.List.{IsPrefix}
use Rattle.std.specs.List.{zip}
use Rattle.std.proofs.lemmas.List.{length-map}
use Rattle.std.proofs.lemmas.Option.{slice_get_within}
use Rattle.std.proofs.lemmas.Slice.Zip.{AllZip-long}
use Rattle.cube_language.specs.declared.decl.Decl.{Decl}
use Rattle.cube_language.specs.declared.decl.DimDecl.{DimDecl}
use Rattle.cube_rounds.specs.Demands.{DimNames, HaveDims, names_with, no_names}
use Rattle.cube_rounds.specs.Stands.{names_behind}
use Rattle.cube_rounds.specs.declared.round.Round.{Round}
use Rattle.cube_rounds.specs.declared.round.RoundCube.{RoundCube}
use Rattle.core_events.specs.Cells.{desk_of, dictionary_of}
use Rattle.core_events.specs.Clients.{client_state}
use Rattle.core_events.specs.Events.{Opening, CoreEvent}
use Rattle.core_events.specs.ShardView.{ShardView}
use Rattle.core_events.proofs.Names.{names-grow}
use Rattle.core_serial.specs.Copies.{copies_by}
use Rattle.following_rounds.specs.FollowingRounds.{HoldsSince, IsCopiedCube, IsKeptAfter, IsRoundOfRun}
use Rattle.following_rounds.proofs.ByPlaces.{at-places, in-either, mapped, side-by-side, some-at, zip-append, zip-by-places, zip-long, zipped}
use Rattle.following_rounds.proofs.MadeCubes.{cubes-behind, cubes-grow}
use Rattle.following_rounds.proofs.NamesSince.{stand-behind}

-- A cube that is made has no names.
made-dims : (made : List Decl) → HaveDims made (map no_names made)
made-dims [] = tt
made-dims (d ∷ made) = (length-map d.dims (λ (dim : DimDecl). []), made-dims made)

no-list : (d : Decl) (lists : DimNames) (dim : ℕ) (list : List (List ℕ)) → no_names d ≡ lists
    → slice_get lists dim ≡ Some list → [] ≡ list
no-list d lists dim list none is =
    (mapped (λ (x : DimDecl). []) d.dims dim list (ap (λ (all : DimNames). slice_get all dim) none ∙ is)).gives

-- ---- what is kept stays

prefix-then : {X : Type 0} (xs ys zs : List X) → IsPrefix xs ys → IsPrefix ys zs → IsPrefix xs zs
prefix-then {X} xs ys zs first second = (
  first.0 ++ second.0,
  sym (append_assoc xs first.0 second.0) ∙ ap (λ (front : List X). front ++ second.0) first.1 ∙ second.1,
)

names-later : (o : Opening) (later es : List CoreEvent) (cube dim : ℕ)
    → IsPrefix (dictionary_of o cube dim es).names (dictionary_of o cube dim (later ++ es)).names
names-later o later es cube dim = let grows = names-grow o cube dim later es in (grows.0, sym grows.1)

cubes-later : (o : Opening) (later es : List CoreEvent) → IsPrefix (desk_of o es).cubes (desk_of o (later ++ es)).cubes
cubes-later o later es = let grows = cubes-grow o later es in (grows.0, sym grows.1)

pub kept-later : (o : Opening) (later es : List CoreEvent) (cubes : List Decl) (names : List DimNames)
    → IsKeptAfter o es cubes names → IsKeptAfter o (later ++ es) cubes names
kept-later o later es cubes names kept = record {
  first_cubes =
      prefix-then cubes (desk_of o es).cubes (desk_of o (later ++ es)).cubes kept.first_cubes (cubes-later o later es);
  dims = kept.dims;
  first_names = λ cube dim lists list is is_list.
      prefix-then list (dictionary_of o cube dim es).names (dictionary_of o cube dim (later ++ es)).names
      (kept.first_names cube dim lists list is is_list) (names-later o later es cube dim);
}

module _ (o : Opening) (copied run : List CoreEvent) (client : ℕ) (cubes : List Decl) (names : List DimNames)
    (round : Round) (kept : IsKeptAfter o copied cubes names)
    (taken : IsRoundOfRun o copied run client cubes names round) where
  abbrev copies : ShardView
  copies = copies_by o (client_state o client copied).group.answers

  abbrev listed : List CoreEvent
  listed = taken.made.since ++ copied

  pub cubes-listed : (desk_of o listed).cubes ≡ cubes ++ round.made
  cubes-listed = cubes-behind o copied taken.made.since cubes round.made kept.first_cubes taken.made.holds

  pub all-dims : HaveDims (cubes ++ round.made) (names ++ map no_names round.made)
  all-dims =
      zip-append (λ (cube : Decl) (lists : DimNames). length lists ≡ length cube.dims) cubes round.made names
      (map no_names round.made) kept.dims (made-dims round.made)

  pub earlier-names : (k dim : ℕ) (lists : DimNames) (list : List (List ℕ))
      → slice_get (names ++ map no_names round.made) k ≡ Some lists → slice_get lists dim ≡ Some list
      → IsPrefix list (dictionary_of o k dim copied).names
  earlier-names k dim lists list is is_list = elim (in-either names (map no_names round.made) k lists is) [
    | inl there ↦ kept.first_names k dim lists list there is_list
    | inr behind ↦
        let from = mapped no_names round.made behind.0 lists behind.1 in
        let none = no-list from.item lists dim list from.gives is_list in
        let all = (dictionary_of o k dim copied).names in
        coe 0 1 (i. IsPrefix (none i) all) (all, refl)
  ]

  -- ---- what is kept with the round

  cube-names-long : length round.cubes ≡ length (names ++ map no_names round.made)
  cube-names-long =
      taken.parts
      ∙ sym (AllZip-long (λ (cube : Decl) (lists : DimNames). length lists ≡ length cube.dims) (cubes ++ round.made)
      (names ++ map no_names round.made) all-dims)

  kept-long : length (names_behind names round) ≡ length (cubes ++ round.made)
  kept-long =
      length-map (zip (names ++ map no_names round.made) round.cubes)
      (λ (c : DimNames × RoundCube). names_with c.0 c.1.names)
      ∙ zip-long (names ++ map no_names round.made) round.cubes cube-names-long ∙ sym cube-names-long ∙ taken.parts

  -- What a cube has, and what the round has of it.
  record HasCubeAt (k : ℕ) (decl : Decl) (lists : DimNames) : Type 0 where
    pub earlier : DimNames
    pub part : RoundCube
    pub kept_lists : slice_get (names ++ map no_names round.made) k ≡ Some earlier
    pub dims : length earlier ≡ length decl.dims
    pub cube : IsCopiedCube o copied run copies k decl earlier part
    pub same : names_with earlier part.names ≡ lists

  cube-at : (k : ℕ) (decl : Decl) (lists : DimNames) → slice_get (cubes ++ round.made) k ≡ Some decl
      → slice_get (names_behind names round) k ≡ Some lists → HasCubeAt k decl lists
  cube-at k decl lists is_decl is_lists =
      let from =
      mapped (λ (c : DimNames × RoundCube). names_with c.0 c.1.names)
      (zip (names ++ map no_names round.made) round.cubes) k lists is_lists
      in
      let both = zipped (names ++ map no_names round.made) round.cubes k from.item from.there in
      record {
        earlier = from.item.0;
        part = from.item.1;
        kept_lists = both.0;
        dims =
            at-places (λ (cube : Decl) (lists : DimNames). length lists ≡ length cube.dims) (cubes ++ round.made)
            (names ++ map no_names round.made) k decl from.item.0 all-dims is_decl both.0;
        cube =
            taken.each k (decl, from.item.0) from.item.1
            (side-by-side (cubes ++ round.made) (names ++ map no_names round.made) k decl from.item.0 is_decl both.0)
            both.1;
        same = from.gives;
      }

  dims-kept : HaveDims (cubes ++ round.made) (names_behind names round)
  dims-kept =
      zip-by-places (λ (cube : Decl) (lists : DimNames). length lists ≡ length cube.dims) (cubes ++ round.made)
      (names_behind names round) kept-long (λ k decl lists is_decl is_lists.
      let at = cube-at k decl lists is_decl is_lists in
      ap length (sym at.same)
      ∙ length-map (zip at.earlier at.part.names) (λ (d : List (List ℕ) × List (List ℕ)). d.0 ++ d.1)
      ∙ zip-long at.earlier at.part.names (at.cube.dims ∙ sym at.dims) ∙ at.dims)

  names-then : (k dim : ℕ) (first more : List (List ℕ)) → IsPrefix first (dictionary_of o k dim copied).names
      → (t : Bool)
      → MatchBool t (HoldsSince copied run (λ es. more ≡ drop (length first) (dictionary_of o k dim es).names))
      (more ≡ []) → IsPrefix (first ++ more) (dictionary_of o k dim run).names
  names-then k dim first more is true told =
      let behind = stand-behind o copied told.since k dim first more is told.holds in
      coe 1 0 (i. IsPrefix (first ++ more) (dictionary_of o k dim (told.of_run i)).names)
      (coe 0 1 (i. IsPrefix (behind.whole i) (dictionary_of o k dim (told.later ++ (told.since ++ copied))).names)
      (names-later o told.later (told.since ++ copied) k dim))
  names-then k dim first more is false none =
      let whole = sym (append-nil first) ∙ ap (λ (list : List (List ℕ)). first ++ list) (sym none) in
      let made = taken.made in
      let later =
      prefix-then (dictionary_of o k dim copied).names (dictionary_of o k dim (made.since ++ copied)).names
      (dictionary_of o k dim (made.later ++ (made.since ++ copied))).names (names-later o made.since copied k dim)
      (names-later o made.later (made.since ++ copied) k dim)
      in
      coe 0 1 (i. IsPrefix (whole i) (dictionary_of o k dim run).names)
      (coe 1 0 (i. IsPrefix first (dictionary_of o k dim (made.of_run i)).names)
      (prefix-then first (dictionary_of o k dim copied).names
      (dictionary_of o k dim (made.later ++ (made.since ++ copied))).names is later))

  names-kept : (k dim : ℕ) (lists : DimNames) (list : List (List ℕ))
      → slice_get (names_behind names round) k ≡ Some lists → slice_get lists dim ≡ Some list
      → IsPrefix list (dictionary_of o k dim run).names
  names-kept k dim lists list is_lists is_list =
      let within = slice_get_within (names_behind names round) k lists is_lists in
      let long = kept-long in
      let decl = some-at (cubes ++ round.made) k (omega (arith, within, long)) in
      let at = cube-at k decl.0 lists decl.1 is_lists in
      let from =
      mapped (λ (d : List (List ℕ) × List (List ℕ)). d.0 ++ d.1) (zip at.earlier at.part.names) dim list
      (ap (λ (all : DimNames). slice_get all dim) at.same ∙ is_list)
      in
      let both = zipped at.earlier at.part.names dim from.item from.there in
      let below = slice_get_within at.earlier dim from.item.0 both.0 in
      let same = at.dims in
      let d = some-at decl.0.dims dim (omega (arith, below, same)) in
      coe 0 1 (i. IsPrefix (from.gives i) (dictionary_of o k dim run).names)
      (names-then k dim from.item.0 from.item.1 (earlier-names k dim at.earlier from.item.0 at.kept_lists both.0)
      d.0.text (at.cube.each dim d.0 from.item.0 from.item.1 d.1 both.0 both.1))

  pub kept-with-round : IsKeptAfter o run (cubes ++ round.made) (names_behind names round)
  kept-with-round =
      let made = taken.made in
      record {
        first_cubes =
            coe 1 0 (i. IsPrefix (cubes ++ round.made) (desk_of o (made.of_run i)).cubes)
            (coe 0 1 (i. IsPrefix (cubes-listed i) (desk_of o (made.later ++ listed)).cubes)
            (cubes-later o made.later listed));
        dims = dims-kept;
        first_names = names-kept;
      }
