use Rattle.std.proofs.Common.{◌++◌, sym, ◌∙◌, ap, arith}
use Rattle.store_reading.proofs.EachItem.{changed_more, half-done}
use Rattle.store_reading.proofs.names.add_lists.Goals as goal

pub dims-preserved : goal.dims-preserved
dims-preserved c =
    changed_more (λ list more. list ++ more) c.args.lists.now c.dims.all.items c.args.more.now c.dims.i c.index_mut.result.now c.add_names.new.list c.index-more-i.result
    c.dims.invariant c.index_mut.ensures.value c.index-more-i.is (c.in_ok-add_names.ensures ∙ ap (λ more. c.index_mut.result.now ++ more) c.as_slice.ensures) c.requires c.dims-test.true

pub returns : goal.returns
returns c = c.from_vec.ensures ∙ c.dims.invariant ∙ half-done (λ list more. list ++ more) c.args.lists.now c.args.more.now c.dims.i c.requires (omega (arith, c.requires, c.dims-test.false))
