use Rattle.round_store.proofs.CountLaws.{row_more, row_whole}
use Rattle.round_store.proofs.data.row_with.Goals as goal

pub lists-preserved : goal.lists-preserved
lists-preserved c =
    row_more c.args.counts.now c.lists.row c.push.new.self c.args.lists.now c.lists.i c.count_at.result c.in_ok-count_with.field-0 c.index-lists-i.result
    c.lists.invariant c.count_at.ensures c.index-lists-i.is c.in_ok-count_with.ensures c.in_ok-push.ensures.ok c.lists-test.true

pub returns : goal.returns
returns c = row_whole c.args.counts.now c.lists.row c.args.lists.now c.lists.i c.lists.invariant c.lists-test.false
