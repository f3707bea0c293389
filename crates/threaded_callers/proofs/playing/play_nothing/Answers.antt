use Rattle.std.proofs.Common.{false, [], refl}
use Rattle.threaded_callers.proofs.SideEnds.{flusher_ends}
use Rattle.threaded_callers.proofs.playing.play_nothing.Goals as goal

pub returns-clause-ended : goal.returns-clause-ended
returns-clause-ended g c number held =
    let p = c.play_side-main in let e = c.gather_one_into.ensures in
    flusher_ends c.args.board.now g.M.MainWork.has_stopped g.W.CallerWork.has_done g.F.CallerWork.has_done
    false false number c.args.main p.result.main c.gather_one_into.new.main c.args.sessions.items
    p.result.sessions.items c.args.flusher c.args.flusher c.gather_one_into.new.task p.ensures
    (record { own = []; held = held; ends = (refl, refl) }) e.main e.keeps e.own e.gathered e.work e.task
