use Rattle.std.proofs.Common.{◌++◌, ap, ◌∙◌}
use Rattle.cube_rounds.specs.Bytes.{names_bytes}
use Rattle.round_text.proofs.Zips.{pair_put, pairs_put}
use Rattle.round_text.proofs.round_writing.put_dims.Goals as goal

pub dims-preserved : goal.dims-preserved
dims-preserved c =
    let dim = c.index-dims-i.result in
    pair_put (λ d. names_bytes d.0 d.1) c.args.dims.now c.args.lists.now c.dims.i dim c.index-lists-i.result c.args.out.now.items c.dims.out.items c.put_dim.new.out.items
    c.dims-test.true c.requires.dims c.index-dims-i.is c.index-lists-i.is c.dims.invariant
    (c.in_ok-put_dim.ensures ∙ ap (λ names. c.dims.out.items ++ names_bytes dim names) c.as_slice.ensures)

pub returns : goal.returns
returns c =
    pairs_put (λ d. names_bytes d.0 d.1) c.args.dims.now c.args.lists.now c.dims.i c.args.out.now.items c.dims.out.items c.dims-test.false c.requires.dims c.dims.invariant
