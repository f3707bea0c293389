-- A round of what was copied in a run fits behind what a store keeps of the run.
use Rattle.std.proofs.Common.{◌≡◌, ◌∙◌, ◌<◌, ◌⊎◌, ℕ, Bool, true, false, List, [], ◌++◌, length, map, drop, slice_get, Some, IsUtf8, MatchBool, refl, sym, ap, inl, inr, arith}
use mathlib.Core.List.{IsPrefix}
use Rattle.std.specs.List.{zip, AllByRecursion}
use Rattle.std.proofs.lemmas.Slice.Zip.{AllZip-long}
use Rattle.cube_language.specs.declared.decl.Decl.{Decl}
use Rattle.cube_language.specs.declared.decl.DimDecl.{DimDecl}
use Rattle.cube_rounds.specs.Bricks.{BrickPart}
use Rattle.cube_rounds.specs.Demands.{AreNewNames, DimNames, FitNames, FitsBrick, FitsRound, FitsRoundCube, HaveDims, coord_limits, names_with, no_names}
use Rattle.cube_rounds.specs.declared.round.Round.{Round}
use Rattle.cube_rounds.specs.declared.round.RoundCube.{RoundCube}
use Rattle.core_events.specs.Cells.{counters_of_run, desk_of, dictionary_of}
use Rattle.core_events.specs.Clients.{client_state}
use Rattle.core_events.specs.Events.{Opening, CoreEvent}
use Rattle.core_events.specs.Runs.{IsCoreRun}
use Rattle.core_events.specs.ShardView.{ShardView}
use Rattle.core_serial.specs.Copies.{copies_by}
use Rattle.core_serial.proofs.StoreRows.{round-of}
use Rattle.core_records.proofs.CubesOnRecord.{cube-stays, run-before}
use Rattle.following_rounds.specs.FollowingRounds.{HasNamesFor, HasStorableValues, HoldsSince, IsCopiedCube, IsCopiedPart, IsKeptAfter, IsRoundOfRun, IsStorableRound, OpensForRounds}
use Rattle.following_rounds.proofs.ByPlaces.{all-by-places, at-place, at-places, zip-by-places, zip-long, zipped}
use Rattle.following_rounds.proofs.FittingBricks.{brick-of-copies}
use Rattle.following_rounds.proofs.KeptLists.{all-dims, cubes-listed, earlier-names}
use Rattle.following_rounds.proofs.MadeCubes.{may-be-made}
use Rattle.following_rounds.proofs.NamesSince.{new-names, stand-behind}

moment-run : (o : Opening) (later es run : List CoreEvent) → run ≡ later ++ es → IsCoreRun o run → IsCoreRun o es
moment-run o later es run are is_run = run-before o later es (coe 0 1 (i. IsCoreRun o (are i)) is_run)

rises : (from to lse : ℕ) → (from ≡ lse) ⊎ (from ≡ 0) → lse < to → from < to
rises from to lse (inl is) above = omega (arith, is, above)
rises from to lse (inr is) above = omega (arith, is, above)

module _ (o : Opening) (copied run : List CoreEvent) (client : ℕ) (cubes : List Decl) (names : List DimNames)
    (round : Round) (is_run : IsCoreRun o run) (opens : OpensForRounds o (desk_of o run).cubes)
    (kept : IsKeptAfter o copied cubes names) (taken : IsRoundOfRun o copied run client cubes names round)
    (storable : IsStorableRound round) where
  abbrev copies : ShardView
  copies = copies_by o (client_state o client copied).group.answers

  abbrev listed : List CoreEvent
  listed = taken.made.since ++ copied

  run-since : (since later : List CoreEvent) → run ≡ later ++ (since ++ copied) → IsCoreRun o (since ++ copied)
  run-since since later are = moment-run o later (since ++ copied) run are is_run

  run-copied : IsCoreRun o copied
  run-copied =
      run-before o taken.made.since copied (run-since taken.made.since taken.made.later taken.made.of_run)

  cubes-here : (desk_of o listed).cubes ≡ cubes ++ round.made
  cubes-here = cubes-listed o copied run client cubes names round kept taken

  dims-here : HaveDims (cubes ++ round.made) (names ++ map no_names round.made)
  dims-here = all-dims o copied run client cubes names round kept taken

  names-here : (k dim : ℕ) (lists : DimNames) (list : List (List ℕ))
      → slice_get (names ++ map no_names round.made) k ≡ Some lists → slice_get lists dim ≡ Some list
      → IsPrefix list (dictionary_of o k dim copied).names
  names-here = earlier-names o copied run client cubes names round kept taken

  cube-in-run : (k : ℕ) (d : Decl) → slice_get (cubes ++ round.made) k ≡ Some d
      → slice_get (desk_of o run).cubes k ≡ Some d
  cube-in-run k d is =
      coe 1 0 (i. slice_get (desk_of o (taken.made.of_run i)).cubes k ≡ Some d)
      (cube-stays o taken.made.later listed k d (ap (λ (all : List Decl). slice_get all k) cubes-here ∙ is))

  -- A cube of the round, with the names that were kept of it.
  record IsCubeAt (k : ℕ) (decl : Decl) (earlier : DimNames) : Type 0 where
    pub of_run : slice_get (desk_of o run).cubes k ≡ Some decl
    pub kept_lists : slice_get (names ++ map no_names round.made) k ≡ Some earlier
    pub dims : length earlier ≡ length decl.dims

  names-fit : (k : ℕ) (decl : Decl) (earlier : DimNames) → IsCubeAt k decl earlier → (dim : ℕ)
      (p : DimDecl × List (List ℕ)) (list : List (List ℕ)) → slice_get decl.dims dim ≡ Some p.0
      → slice_get earlier dim ≡ Some p.1 → AllByRecursion IsUtf8 list → (t : Bool) → p.0.text ≡ t
      → MatchBool t (HoldsSince copied run (λ es. list ≡ drop (length p.1) (dictionary_of o k dim es).names))
      (list ≡ [])
      → MatchBool t (AreNewNames p.0.cardinality p.1 list) (list ≡ [])
  names-fit k decl earlier at dim p list is_dim is_first utf8 true text told =
      let first = names-here k dim earlier p.1 at.kept_lists is_first in
      new-names o (told.since ++ copied) k dim p.0 p.1 list (run-since told.since told.later told.of_run)
      (opens.names.suit k dim decl p.0 at.of_run is_dim) text
      (stand-behind o copied told.since k dim p.1 list first told.holds).whole utf8
  names-fit k decl earlier at dim p list is_dim is_first utf8 false text none = none

  lists-of : (k : ℕ) (decl : Decl) (earlier : DimNames) (part : RoundCube) → IsCubeAt k decl earlier
      → IsCopiedCube o copied run copies k decl earlier part → HasNamesFor o copied k decl earlier part.names
  lists-of k decl earlier part at is = record {
    shape = opens.shapes k decl at.of_run;
    before = at.dims;
    behind = is.dims;
    have = λ dim d first more is_dim text is_first is_more.
        let told =
        coe 0 1 (i. MatchBool (text i)
        (HoldsSince copied run (λ es. more ≡ drop (length first) (dictionary_of o k dim es).names)) (more ≡ []))
        (is.each dim d first more is_dim is_first is_more)
        in
        (stand-behind o copied told.since k dim first more
        (names-here k dim earlier first at.kept_lists is_first) told.holds).grown;
  }

  cube-fits : (k : ℕ) (c : Decl × DimNames) (part : RoundCube)
      → slice_get (zip (cubes ++ round.made) (names ++ map no_names round.made)) k ≡ Some c
      → slice_get round.cubes k ≡ Some part → FitsRoundCube round.from round.epoch c.0 c.1 part
  cube-fits k c part is is_part =
      let places = zipped (cubes ++ round.made) (names ++ map no_names round.made) k c is in
      let cube = taken.each k c part is is_part in
      let at : IsCubeAt k c.0 c.1 =
      record {
        of_run = cube-in-run k c.0 places.0;
        kept_lists = places.1;
        dims =
            at-places (λ (cube : Decl) (lists : DimNames). length lists ≡ length cube.dims) (cubes ++ round.made)
            (names ++ map no_names round.made) k c.0 c.1 dims-here places.0 places.1;
      }
      in
      let lists = lists-of k c.0 c.1 part at cube in
      let texts =
      at-place (λ (part : RoundCube). AllByRecursion (AllByRecursion IsUtf8) part.names) round.cubes k part
      storable.names is_part
      in
      let rows =
      at-place
      (λ (part : RoundCube). AllByRecursion (λ (b : BrickPart). AllByRecursion HasStorableValues b.rows) part.bricks)
      round.cubes k part storable.rows is_part
      in
      record {
        names =
            zip-by-places FitNames (zip c.0.dims c.1) part.names (cube.dims ∙ sym (zip-long c.0.dims c.1 at.dims))
            (λ dim p list is_p is_list.
            let dims = zipped c.0.dims c.1 dim p is_p in
            names-fit k c.0 c.1 at dim p list dims.0 dims.1
            (at-place (AllByRecursion IsUtf8) part.names dim list texts is_list) p.0.text refl
            (cube.each dim p.0 p.1 list dims.0 dims.1 is_list));
        rising = cube.rising;
        bricks =
            all-by-places (FitsBrick c.0 (coord_limits c.0 (names_with c.1 part.names)) round.from round.epoch)
            part.bricks
            (λ j b is_b.
            brick-of-copies o copied client round.from round.epoch k c.0 c.1 part.names b run-copied opens.rows
            taken.rows lists
            (at-place (IsCopiedPart copies k) part.bricks j b cube.bricks is_b)
            (at-place (λ (b : BrickPart). AllByRecursion HasStorableValues b.rows) part.bricks j b rows is_b));
      }

  pub round-fits : FitsRound cubes names round
  round-fits =
      let open_round = round-of o copied client round.from round.epoch run-copied taken.rows in
      let long =
      AllZip-long (λ (cube : Decl) (lists : DimNames). length lists ≡ length cube.dims) (cubes ++ round.made)
      (names ++ map no_names round.made) dims-here
      in
      record {
        epochs = rises round.from round.epoch (counters_of_run o copied).lse open_round.begins open_round.rises;
        small = storable.small;
        dims = kept.dims;
        made =
            may-be-made o listed cubes round.made
            (run-since taken.made.since taken.made.later taken.made.of_run) opens.made opens.apart cubes-here;
        cubes =
            zip-by-places (λ c part. FitsRoundCube round.from round.epoch c.0 c.1 part)
            (zip (cubes ++ round.made) (names ++ map no_names round.made)) round.cubes
            (taken.parts ∙ sym (zip-long (cubes ++ round.made) (names ++ map no_names round.made) long)) cube-fits;
      }
