use Rattle.std.proofs.Common.{◌≡◌, ◌+◌}
use Rattle.core_program.proofs.Waiting.{HasWaited}
use Rattle.core_program.proofs.mails.fetch_answer.Given as goal

abbrev pub invariant-asks : goal.invariant-asks
invariant-asks g l =
    g.P.CellCaller.calls_on l.board l.caller
    × (g.P.CellCaller.opening l.caller ≡ g.P.CellCaller.opening l.fn.caller)
    × (g.P.CellCaller.number l.caller ≡ g.P.CellCaller.number l.fn.caller)
    × (g.P.CellCaller.others l.caller ≡ g.P.CellCaller.others l.fn.caller)
    × HasWaited g.S.LinkedShard.fits g.S.LinkedShard.stands g.S.LinkedShard.says (g.P.CellCaller.opening l.fn.caller) (g.P.CellCaller.number l.fn.caller) l.client l.number
    (2 + l.size.shards + l.number) (g.P.CellCaller.own l.fn.caller) (g.P.CellCaller.own l.caller)
