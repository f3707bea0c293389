use Rattle.std.proofs.Common.{true}
use Rattle.threaded_callers.proofs.SideEnds.{flusher_ends}
use Rattle.threaded_callers.proofs.playing.play_beside_flusher.Goals as goal

pub gather_one_into-requires-clause-task : goal.gather_one_into-requires-clause-task
gather_one_into-requires-clause-task g c =
    (c.flush_beside-side.ensures.flusher c.requires.flusher.0 c.requires.flusher.1.held).held.of

pub returns-clause-ended : goal.returns-clause-ended
returns-clause-ended g c number held =
    let p = c.flush_beside-side in let r = p.ensures.flusher number held in let e = c.gather_one_into.ensures in
    flusher_ends c.args.board.now g.M.MainWork.has_stopped g.W.CallerWork.has_done g.F.CallerWork.has_done
    p.result.began true number c.args.main p.result.side.main c.gather_one_into.new.main c.args.sessions.items
    p.result.side.sessions.items c.args.flusher p.result.flusher c.gather_one_into.new.task p.ensures.ended
    (record { own = r.own; held = r.held; ends = r.work }) e.main e.keeps e.own e.gathered e.work e.task
