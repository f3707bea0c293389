use Rattle.std.proofs.Common.{List, length, ap, sym, subst, ◌∙◌, ℕ}
use Rattle.std.specs.List.{zip, AllZip}
use Rattle.cube_language.specs.declared.decl.DimDecl.{DimDecl}
use Rattle.cube_language.specs.declared.decl.Decl.{Decl}
use Rattle.cube_language.specs.Cubes.{sizes_of}
use Rattle.round_reading.specs.Limits.{AreLimits, HasNameRoom}
use Rattle.round_reading.proofs.NameReads.{dims_room, limits_within}
use Rattle.round_reading.proofs.cubes.take_cube.Goals as goal

pub limits_of-requires-clause-room : goal.limits_of-requires-clause-room
limits_of-requires-clause-room c =
    rw c.as_slice-2.ensures.value
    (subst (λ (ds : List DimDecl). AllZip HasNameRoom (zip ds c.args.earlier.now) c.in_ok-names.names.items) c.as_slice.ensures
    (dims_room (zip c.as_slice.result.now c.args.earlier.now) _ c.in_ok-names.names.items _ c.in_ok-names.ensures))

pub bricks_from-requires : goal.bricks_from-requires
bricks_from-requires c =
    let decl = c.decl-decl.result.now in
    let names = c.as_slice-2.result.now in
    let room : AllZip HasNameRoom (zip decl.dims c.args.earlier.now) names =
    subst (λ (ns : List (List (List ℕ))). AllZip HasNameRoom (zip decl.dims c.args.earlier.now) ns) (sym c.as_slice-2.ensures.value)
    (subst (λ (ds : List DimDecl). AllZip HasNameRoom (zip ds c.args.earlier.now) c.in_ok-names.names.items) c.as_slice.ensures
    (dims_room (zip c.as_slice.result.now c.args.earlier.now) _ c.in_ok-names.names.items _ c.in_ok-names.ensures)) in
    let same = c.requires ∙ ap (λ (d : Decl). length d.dims) (sym c.decl-decl.ensures.decl) in
    subst (λ (d : Decl). AreLimits c.as_slice-3.result.now (sizes_of d.dims)) c.decl-decl.ensures.decl
    (subst (λ (ls : List ℕ). AreLimits ls (sizes_of decl.dims)) (sym (c.as_slice-3.ensures.value ∙ c.in_ok-limits.ensures))
    (limits_within decl.dims c.args.earlier.now names same room))
