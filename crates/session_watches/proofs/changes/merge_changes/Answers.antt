use Rattle.session_watches.proofs.MergedChanges.{merged-all, merged-next, none-merged, room-for}
use Rattle.session_watches.proofs.changes.merge_changes.Goals as goal

pub answers-init : goal.answers-init
answers-init c =
    none-merged c.args.query.now c.args.answers.now (record { came = c.new.result; went = c.new-2.result }) c.new.ensures c.new-2.ensures

pub merge_answer-requires : goal.merge_answer-requires
merge_answer-requires c =
    room-for c.args.query.now c.args.answers.now c.answers.left.now c.answer-item.result c.answers.whole c.answers.invariant
    c.in-len1-up.len_at_least c.answer-item.is c.requires.compared c.requires.few

pub answers-preserved : goal.answers-preserved
answers-preserved c =
    merged-next c.args.query.now c.args.answers.now c.answers.left.now c.answer-item.result c.answers.whole c.merge_answer.new.whole
    c.answers.invariant c.in-len1-up.len_at_least c.answer-item.is c.in_ok-merge_answer.ensures

pub returns : goal.returns
returns c =
    merged-all c.args.query.now c.args.answers.now c.answers.left.now c.answers.whole c.answers.invariant c.in_default.len_below
