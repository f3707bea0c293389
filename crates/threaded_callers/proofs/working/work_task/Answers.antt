use Rattle.std.proofs.Common.{sym, refl, ap, ◌∙◌, subst}
use Rattle.board_callers.specs.Callers.{first_calls, other_hands}
use Rattle.turn_board.specs.Hands.{first_number}
use Rattle.turn_board.specs.Passes.{hands_of, opening_of}
use Rattle.threaded_callers.proofs.Hands.{alone}
use Rattle.threaded_callers.proofs.Tasks.{pass_of, view_is}
use Rattle.threaded_callers.proofs.working.work_task.Goals as goal

pub returns : goal.returns
returns g c number held =
    let p = c.in-Some.pass in
    let before = ap (λ v. v.hands) (sym (view_is c.args.task.now p c.in-Some.is)) ∙ held.hands_are in
    let of = pass_of c.args.board.now c.args.task.now p c.in-Some.is held.of in
    let e = c.work.ensures in
    record {
      own = first_calls (hands_of c.work.new.caller);
      held = record {
        of = record { pass = c.work.new.caller; is = refl; of = e.board };
        hands_are = alone (hands_of c.work.new.caller) number (first_calls (hands_of c.work.new.caller)) e.board.some
            (e.number ∙ ap (λ hs. first_number hs) before) refl (e.others ∙ ap (λ hs. other_hands hs) before);
      };
      work = subst (λ n. g.W.CallerWork.has_done c.args.task.now.work c.work.new.self (opening_of c.args.board.now) n
          (first_calls (hands_of c.work.new.caller))) (ap (λ hs. first_number hs) before)
          (subst (λ o. g.W.CallerWork.has_done c.args.task.now.work c.work.new.self o (first_number (hands_of p))
          (first_calls (hands_of c.work.new.caller))) of.opening e.done);
    }
