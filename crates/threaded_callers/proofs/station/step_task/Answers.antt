use Rattle.std.proofs.Common.{refl, ap, ◌∙◌}
use Rattle.board_callers.specs.Callers.{first_calls, other_hands}
use Rattle.turn_board.specs.Hands.{first_number}
use Rattle.turn_board.specs.Passes.{hands_of}
use Rattle.threaded_callers.specs.Stations.{done_so}
use Rattle.threaded_callers.proofs.DoneSoFar.{its-hands, pass-done, pass-may, still-so}
use Rattle.threaded_callers.proofs.Hands.{alone}
use Rattle.threaded_callers.proofs.station.step_task.Goals as goal

pub step-requires-clause-begun : goal.step-requires-clause-begun
step-requires-clause-begun g c =
    let begun = c.requires.begun in
    let first = begun.1 in
    let may = g.K.CallerWork.may_begin in
    let so_far = g.K.StepWork.so_far in
    let task = c.args.task.now in
    let p = c.in-Some.pass in (
      first,
      pass-may may so_far c.args.board.now task p c.in-Some.is begun.0 first begun.2,
      pass-done may so_far c.args.board.now task p c.in-Some.is begun.0 first begun.2,
    )

pub returns : goal.returns
returns g c number first d =
    let may = g.K.CallerWork.may_begin in
    let so_far = g.K.StepWork.so_far in
    let b = c.args.board.now in
    let task = c.args.task.now in
    let p = c.in-Some.pass in
    let hands = its-hands may so_far b task p c.in-Some.is number first d in
    let e = c.step.ensures in
    let own = first_calls (hands_of c.step.new.caller) in
    record {
      own = own;
      held = record {
        of = record { pass = c.step.new.caller; is = refl; of = e.board };
        hands_are = alone (hands_of c.step.new.caller) number own e.board.some
            (e.number ∙ ap (λ hs. first_number hs) hands) refl (e.others ∙ ap (λ hs. other_hands hs) hands);
      };
      may_begin = d.may_begin;
      work = still-so may so_far b task p c.in-Some.is number first d (done_so so_far g.K.CallerWork.has_done c.step.result)
          c.step.new.self own
          (e.goes_on first (pass-may may so_far b task p c.in-Some.is number first d)
          (pass-done may so_far b task p c.in-Some.is number first d));
    }
