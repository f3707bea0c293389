use Rattle.session_groups.proofs.MergedPartials.{merged-all, merged-next, none-merged, room-for}
use Rattle.session_watches.proofs.merging.merge_answers.Goals as goal

pub answers-init : goal.answers-init
answers-init c = none-merged c.args.query.now c.args.answers.now c.new-whole.result.groups c.new-whole.ensures

pub merge_answer-requires : goal.merge_answer-requires
merge_answer-requires c =
    room-for c.args.query.now c.args.answers.now c.answers.left.now c.answer-item.result c.answers.whole.groups c.answers.invariant
    c.in-len1-up.len_at_least c.answer-item.is c.requires.found c.requires.few

pub answers-preserved : goal.answers-preserved
answers-preserved c =
    merged-next c.args.query.now c.args.answers.now c.answers.left.now c.answer-item.result c.answers.whole.groups c.merge_answer.new.whole.groups
    c.answers.invariant c.in-len1-up.len_at_least c.answer-item.is c.in_ok-merge_answer.ensures

pub returns : goal.returns
returns c =
    merged-all c.args.query.now c.args.answers.now c.answers.left.now c.answers.whole.groups c.answers.invariant c.in_default.len_below
