use Rattle.std.proofs.Common.{◌<◌, length, sym, subst, arith}
use Rattle.board_callers.specs.Callers.{first_calls}
use Rattle.turn_board.specs.Passes.{callers_of, opening_of}
use Rattle.threaded_callers.specs.Tasks.{hands_in}
use Rattle.threaded_callers.proofs.SideEnds.{sessions_end}
use Rattle.threaded_callers.proofs.playing.play_sessions.Goals as goal

pub gather_into-requires-clause-tasks : goal.gather_into-requires-clause-tasks
gather_into-requires-clause-tasks g c k d lt =
    let lt0 : k < length c.args.sessions.now = omega arith in
    (c.work_where.ensures 1 k d c.requires.may.ready lt0).held.of

pub returns : goal.returns
returns g c =
    let m1 = c.gather_into.new.main in let m2 = c.stop_flusher.new.main in let e = c.gather_into.ensures in
    let s = c.stop_flusher.ensures.stopped in let b = c.args.board.now in
    record {
      of = s.main.of;
      number = s.main.number;
      work = subst (λ w. g.M.MainWork.has_stopped w m2.work (callers_of b) (opening_of b) (first_calls (hands_in m2)))
          e.work (subst (λ es. g.M.MainWork.has_stopped m1.work m2.work (callers_of b) (opening_of b) es)
          (sym s.main.calls) s.work);
      played = sessions_end b g.W.CallerWork.has_done c.args.begins c.args.main.now m1 m2 c.args.sessions.now
          c.work_where.new.tasks c.gather_into.new.tasks c.requires.may.first.number c.requires.may.first.calls
          c.requires.may.fresh e.keeps e.main (omega arith)
          (λ k d lt. c.work_where.ensures 1 k d c.requires.may.ready lt) e.gathered e.works c.stop_flusher.ensures.others
          c.stop_flusher.ensures.past;
    }
