use Rattle.std.proofs.Common.{◌≡◌, ◌<◌, length, take, drop, sym, ap, ◌∙◌, arith}
use Rattle.turn_board.specs.Passes.{hands_of}
use Rattle.threaded_callers.specs.Tasks.{HasHands}
use Rattle.threaded_callers.proofs.Elements.{change_next}
use Rattle.threaded_callers.proofs.Hands.{drop_one_more}
use Rattle.threaded_callers.proofs.Tasks.{view_is}
use Rattle.threaded_callers.proofs.sharing.share_out.Goals as goal

pub loop-k-preserved : goal.loop-k-preserved
loop-k-preserved g c =
    let k = c.loop-k.k in let i = c.loop-k.invariant in let e = c.split_first-first.ensures in
    let all = hands_of c.args.pass in let first = c.split_first-first.result.0 in
    let lt : k < length c.loop-k.tasks = omega arith in (
      e.passes.1,
      e.others ∙ ap (drop 1) i.1 ∙ drop_one_more k all,
      change_next (λ j before after. (after.work ≡ before.work) × HasHands c.args.board.now (take 1 (drop j all)) after) k
          c.args.tasks.now c.loop-k.tasks c.index-tasks-k.result c.give.new.self i.2 lt c.index-tasks-k.is (
            c.give.ensures.work ∙ ap (λ t. t.work) (sym c.index-tasks-k.is),
            record {
              of = record { pass = first; is = c.give.ensures.pass; of = e.passes.0 };
              hands_are = ap (λ v. v.hands) (view_is c.give.new.self first c.give.ensures.pass) ∙ e.first ∙ ap (take 1) i.1;
            },
          ),
    )

pub returns-clause-given : goal.returns-clause-given
returns-clause-given g c k d lt = (c.loop-k.invariant.2.changed k d (omega arith)).1
