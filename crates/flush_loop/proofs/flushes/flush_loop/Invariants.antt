use Rattle.std.proofs.Common.{◌≡◌, ◌+◌}
use Rattle.core_program.specs.Flushing.{KnowsPart}
use Rattle.flush_loop.proofs.FlushTurning.{HasTurned}
use Rattle.flush_loop.specs.MadeRounds.{GoesOnKeeping}
use Rattle.flusher_mail.specs.FlusherMail.{HasNoFlush}
use Rattle.flush_loop.proofs.flushes.flush_loop.Given as goal

abbrev pub invariant-flushes : goal.invariant-flushes
invariant-flushes g l =
    g.P.CellCaller.calls_on l.board l.caller
    × (g.P.CellCaller.opening l.caller ≡ g.P.CellCaller.opening l.fn.caller)
    × (g.P.CellCaller.number l.caller ≡ g.P.CellCaller.number l.fn.caller)
    × (g.P.CellCaller.others l.caller ≡ g.P.CellCaller.others l.fn.caller)
    × HasTurned g.S.LinkedShard.fits g.S.LinkedShard.stands g.S.LinkedShard.says (g.P.CellCaller.opening l.fn.caller) (g.P.CellCaller.number l.fn.caller)
    (l.size.sessions + 1) l.size.shards l.lost (g.P.CellCaller.own l.fn.caller) (g.P.CellCaller.own l.caller)
    × KnowsPart g.S.LinkedShard.fits g.S.LinkedShard.stands g.S.LinkedShard.says (g.P.CellCaller.opening l.caller) (g.P.CellCaller.number l.caller)
    (g.P.CellCaller.own l.caller) (HasNoFlush l.lost)
    × g.M.MakesRounds.serves l.maker (g.P.CellCaller.opening l.caller)
    × GoesOnKeeping g.S.LinkedShard.fits g.S.LinkedShard.stands g.S.LinkedShard.says (g.P.CellCaller.opening l.fn.caller)
    (g.P.CellCaller.number l.fn.caller) (l.size.sessions + 1) g.M.MakesRounds.has_kept l.fn.maker l.maker (g.P.CellCaller.own l.fn.caller)
    (g.P.CellCaller.own l.caller)
    × g.M.MakesRounds.becomes l.fn.maker l.maker
