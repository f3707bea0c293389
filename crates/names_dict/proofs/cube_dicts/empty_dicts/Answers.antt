use Rattle.std.proofs.Common.{arith, false}
use Rattle.std.proofs.lemmas.List.{drop_all}
use Rattle.names_dict.specs.Dictionaries.{empty_dictionaries}
use Rattle.names_dict.proofs.NewCubes.{one_more, all_made}
use Rattle.names_dict.proofs.cube_dicts.empty_dicts.Goals as goal

pub loop-dim-preserved : goal.loop-dim-preserved
loop-dim-preserved c =
    rw (c.in_ok-push.ensures.items, c.new.ensures) (one_more c.loop-dim.dims.items c.args.sizes.now c.args.texts.now
    (empty_dictionaries c.args.sizes.now c.args.texts.now) c.loop-dim.dim c.most_names.result (record { cardinality = 0; range = 0 }) false
    c.loop-dim.invariant (omega arith) (omega arith) c.most_names.ensures)

pub returns : goal.returns
returns c =
    all_made c.loop-dim.dims.items c.args.sizes.now c.args.texts.now (empty_dictionaries c.args.sizes.now c.args.texts.now) c.loop-dim.dim
    c.loop-dim.invariant (drop_all c.loop-dim.dim c.args.sizes.now c.loop-dim-test.false)
