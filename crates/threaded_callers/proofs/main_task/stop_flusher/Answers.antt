use Rattle.std.proofs.Common.{sym, ap, ◌∙◌, subst}
use Rattle.board_callers.specs.Callers.{first_calls}
use Rattle.turn_board.specs.Hands.{first_number}
use Rattle.turn_board.specs.Passes.{callers_of, hands_of, opening_of}
use Rattle.threaded_callers.proofs.Tasks.{view_is}
use Rattle.threaded_callers.proofs.main_task.stop_flusher.Goals as goal

pub returns-clause-stopped : goal.returns-clause-stopped
returns-clause-stopped g c =
    let p = c.stop_flusher_from-pass.result in let e = c.stop_flusher_from-pass.ensures in
    let view = view_is c.give.new.self p c.give.ensures.pass in
    let own = first_calls (hands_of p) in
    record {
      own = own;
      main = record {
        of = record { pass = p; is = c.give.ensures.pass; of = e.pass };
        number = ap (λ v. first_number v.hands) view ∙ e.number;
        calls = ap (λ v. first_calls v.hands) view;
      };
      work = subst (λ w. g.M.MainWork.has_stopped c.args.main.now.work w (callers_of c.args.board.now)
          (opening_of c.args.board.now) own) (sym c.give.ensures.work)
          (subst (λ w. g.M.MainWork.has_stopped w c.stop_flusher_from-pass.new.work (callers_of c.args.board.now)
          (opening_of c.args.board.now) own) c.take_pass-pass.ensures.work e.stopped);
    }
