use Rattle.std.proofs.Common.{◌≡◌, List, [], ◌∷◌, ◌++◌, get_or, sym, ap, subst, ◌∙◌, arith}
use Rattle.std.proofs.lemmas.List.{get_or_read}
use Rattle.cube_values.specs.declared.shape.CubeShape.{CubeShape}
use Rattle.names_dict.specs.Dictionaries.{Dictionary, IsTextDimension}
use Rattle.kept_data.proofs.NamedCubes.{may_be_named, one_dim_more, all_named, few_lists}
use Rattle.kept_data.proofs.dicts.add_cube.Goals as goal

pub overflow_cast-dim : goal.overflow_cast-dim
overflow_cast-dim c =
    let few = few_lists c.args.schema.now c.args.lists.now c.cube_shape-shape.result.now c.requires.names c.cube_shape-shape.ensures.value c.cube_shape-shape.ensures.sound in
    omega arith

pub add_names-requires : goal.add_names-requires
add_names-requires c =
    let names-are : c.as_slice.result.now ≡ get_or c.args.lists.now c.dims.dim [] =
    c.as_slice.ensures ∙ get_or_read c.args.lists.now c.dims.dim c.index-lists-dim.result c.dims-test.true c.index-lists-dim.is [] in
    let may = may_be_named c.args.schema.now c.args.lists.now c.args.dicts.now c.dims.dicts c.args.cube c.dims.dim c.as_slice.result.now c.requires.names c.dims-test.true
    (sym c.requires.place) c.dims.invariant names-are in
    record {
      sound = c.cube_shape-shape.ensures.sound;
      text = λ some. subst (λ (s : CubeShape). IsTextDimension s c.dims.dim) (sym c.cube_shape-shape.ensures.value) (may.text some);
      made = may.made;
      empty = may.empty;
      fits = may.sound;
    }

pub dims-preserved : goal.dims-preserved
dims-preserved c =
    let names-are : c.as_slice.result.now ≡ get_or c.args.lists.now c.dims.dim [] =
    c.as_slice.ensures ∙ get_or_read c.args.lists.now c.dims.dim c.index-lists-dim.result c.dims-test.true c.index-lists-dim.is [] in
    one_dim_more c.args.schema.now c.args.lists.now c.args.dicts.now c.dims.dicts c.add_names.new.dicts c.args.cube c.dims.dim c.as_slice.result.now c.requires.names c.dims-test.true
    (sym c.requires.place) c.dims.invariant names-are c.in_ok-add_names.ensures

pub returns : goal.returns
returns c =
    c.dims.invariant
    ∙ ap (λ (dims : List Dictionary). c.args.dicts.now ++ dims ∷ []) (all_named c.args.schema.now c.args.lists.now c.dims.dim c.requires.names (omega (arith, c.dims-test.false)))
