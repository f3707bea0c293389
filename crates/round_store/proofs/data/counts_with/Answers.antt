use Rattle.std.proofs.Common.{◌∙◌, ap}
use Rattle.round_store.specs.Counts.{row_with}
use Rattle.round_store.proofs.CountLaws.{counts_further, counts_whole}
use Rattle.round_store.proofs.data.counts_with.Goals as goal

pub parts-preserved : goal.parts-preserved
parts-preserved c =
    counts_further c.args.counts.now c.parts.all c.push.new.self c.args.parts.now c.parts.i c.row_at.result.now c.in_ok-row_with.field-0 c.index-parts-i.result
    c.parts.invariant c.row_at.ensures c.index-parts-i.is (c.in_ok-row_with.ensures ∙ ap (row_with c.row_at.result.now) c.as_slice.ensures) c.in_ok-push.ensures.ok c.parts-test.true

pub returns : goal.returns
returns c = counts_whole c.args.counts.now c.parts.all c.args.parts.now c.parts.i c.parts.invariant c.parts-test.false
