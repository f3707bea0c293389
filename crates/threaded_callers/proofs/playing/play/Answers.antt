use Rattle.std.proofs.Common.{Bool, false, sym, subst}
use Rattle.threaded_callers.specs.Sides.{HasEnded}
use Rattle.threaded_callers.proofs.playing.play.Goals as goal

pub returns-then-refused-clause-ended : goal.returns-then-refused-clause-ended
returns-then-refused-clause-ended g c number held = let p = c.play_nothing in
    subst (λ (b : Bool). HasEnded g.M.MainWork.has_stopped g.W.CallerWork.has_done g.F.CallerWork.has_done
    c.args.board.now p.result.began b number c.args.main p.result.main c.args.sessions.items p.result.sessions.items
    c.args.flusher p.result.flusher) (sym p.ensures.flushed)
    (subst (λ (b : Bool). HasEnded g.M.MainWork.has_stopped g.W.CallerWork.has_done g.F.CallerWork.has_done
    c.args.board.now b false number c.args.main p.result.main c.args.sessions.items p.result.sessions.items
    c.args.flusher p.result.flusher) (sym p.ensures.began) (p.ensures.ended number held))

pub returns-else-refused-clause-ended : goal.returns-else-refused-clause-ended
returns-else-refused-clause-ended g c number held = let p = c.play_beside_flusher in
    subst (λ (b : Bool). HasEnded g.M.MainWork.has_stopped g.W.CallerWork.has_done g.F.CallerWork.has_done
    c.args.board.now p.result.began b number c.args.main p.result.main c.args.sessions.items p.result.sessions.items
    c.args.flusher p.result.flusher) (sym p.ensures.flushed) (p.ensures.ended number held)
