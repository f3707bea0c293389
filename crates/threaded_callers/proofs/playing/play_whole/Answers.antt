use Rattle.threaded_callers.proofs.SideEnds.{main_ends}
use Rattle.threaded_callers.proofs.playing.play_whole.Goals as goal

pub returns-clause-ended : goal.returns-clause-ended
returns-clause-ended g c number held =
    let p = c.play-played in let e = c.stop_workers.ensures in
    main_ends c.args.board.now g.M.MainWork.has_stopped g.M.MainWork.has_ended g.W.CallerWork.has_done
    g.F.CallerWork.has_done p.result.began p.result.flushed number c.args.main p.result.main c.stop_workers.new.main
    c.args.sessions.items p.result.sessions.items c.args.flusher p.result.flusher (p.ensures.ended number held) e.main
    e.number e.ended e.others e.past

pub stop_workers-requires-clause-main : goal.stop_workers-requires-clause-main
stop_workers-requires-clause-main g c = (c.play-played.ensures.ended c.requires.flusher.0 c.requires.flusher.1.held).of

pub stop_workers-requires-clause-number : goal.stop_workers-requires-clause-number
stop_workers-requires-clause-number g c =
    (c.play-played.ensures.ended c.requires.flusher.0 c.requires.flusher.1.held).number_is

pub stop_workers-requires-clause-stopped : goal.stop_workers-requires-clause-stopped
stop_workers-requires-clause-stopped g c =
    (c.args.main.work, (c.play-played.ensures.ended c.requires.flusher.0 c.requires.flusher.1.held).ended.stops)
