use Rattle.std.proofs.Common.{refl, ap, ◌∙◌}
use Rattle.board_callers.specs.Callers.{first_calls, other_hands}
use Rattle.turn_board.specs.Hands.{first_number}
use Rattle.turn_board.specs.Passes.{hands_of}
use Rattle.threaded_callers.proofs.DoneSoFar.{its-hands, pass-done, pass-may, still-done}
use Rattle.threaded_callers.proofs.Hands.{alone}
use Rattle.threaded_callers.proofs.working.finish_task.Goals as goal

pub finish-requires-clause-done : goal.finish-requires-clause-done
finish-requires-clause-done g c =
    let so_far = c.requires.done in
    let first = so_far.1 in
    let may = g.W.CallerWork.may_begin in
    let done = g.W.CallerWork.has_done in
    let task = c.args.task.now in
    let p = c.in-Some.pass in (
      first,
      pass-may may done c.args.board.now task p c.in-Some.is so_far.0 first so_far.2,
      pass-done may done c.args.board.now task p c.in-Some.is so_far.0 first so_far.2,
    )

pub returns : goal.returns
returns g c number first d =
    let may = g.W.CallerWork.may_begin in
    let done = g.W.CallerWork.has_done in
    let b = c.args.board.now in
    let task = c.args.task.now in
    let p = c.in-Some.pass in
    let hands = its-hands may done b task p c.in-Some.is number first d in
    let e = c.finish.ensures in
    let own = first_calls (hands_of c.finish.new._caller) in
    record {
      own = own;
      held = record {
        of = record { pass = c.finish.new._caller; is = refl; of = e.board };
        hands_are = alone (hands_of c.finish.new._caller) number own e.board.some
            (e.number ∙ ap (λ hs. first_number hs) hands) refl (e.others ∙ ap (λ hs. other_hands hs) hands);
      };
      may_begin = d.may_begin;
      work = still-done may done b task p c.in-Some.is number first d c.finish.new.self own
          (e.done first (pass-may may done b task p c.in-Some.is number first d)
          (pass-done may done b task p c.in-Some.is number first d));
    }
