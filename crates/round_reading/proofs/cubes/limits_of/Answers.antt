use Rattle.std.proofs.Common.{ℕ, List, [], ◌∷◌, ◌++◌, length, get_or, ap, ◌∙◌, arith}
use Rattle.cube_language.specs.declared.decl.DimDecl.{DimDecl}
use Rattle.round_reading.proofs.NameReads.{room_length, room_here, limits_more, limits_all}
use Rattle.round_reading.proofs.cubes.limits_of.Goals as goal

pub bounds-names-i : goal.bounds-names-i
bounds-names-i c =
    omega (arith, room_length c.args.cube.now.dims c.args.earlier.now c.args.names.now c.requires.earlier c.requires.room, c.dims-test.true, ap length c.as_slice-dim-items.ensures)

pub coord_limit-requires : goal.coord_limit-requires
coord_limit-requires c =
    let d = c.dim-item.result in
    room_here c.args.cube.now.dims c.args.earlier.now c.args.names.now c.dims.i d c.index-earlier-i.result c.index-names-i.result c.requires.earlier c.requires.room
    (omega (arith, c.dims-test.true, ap length c.as_slice-dim-items.ensures))
    (c.dim-item.is ∙ ap (λ (ds : List DimDecl). get_or ds c.dims.i d) c.as_slice-dim-items.ensures) c.index-earlier-i.is c.index-names-i.is

pub dims-preserved : goal.dims-preserved
dims-preserved c =
    let d = c.dim-item.result in
    c.in_ok-push.ensures.items ∙ ap (λ (k : ℕ). c.dims.limits.items ++ k ∷ []) c.coord_limit.ensures
    ∙ limits_more c.args.cube.now.dims c.args.earlier.now c.args.names.now c.dims.i d c.index-earlier-i.result c.index-names-i.result c.dims.limits.items c.requires.earlier c.requires.room
    (omega (arith, c.dims-test.true, ap length c.as_slice-dim-items.ensures))
    (c.dim-item.is ∙ ap (λ (ds : List DimDecl). get_or ds c.dims.i d) c.as_slice-dim-items.ensures) c.index-earlier-i.is c.index-names-i.is c.dims.invariant

pub returns : goal.returns
returns c =
    limits_all c.args.cube.now.dims c.args.earlier.now c.args.names.now c.dims.i c.dims.limits.items c.requires.earlier c.requires.room
    (omega (arith, c.dims-test.false, ap length c.as_slice-dim-items.ensures)) c.dims.invariant
