use Rattle.std.proofs.Common.{arith}
use Rattle.small_core.proofs.serving.close_one.Goals as goal

pub close_mail-requires-clause-client : goal.close_mail-requires-clause-client
close_mail-requires-clause-client g c =
    let of = c.requires.core in
    c.an_opened_core_knows_its_callers.ensures.client of.kept 2 3 0 (g.P.CellCaller.opening c.args.main.now) of.over
    of.opens (omega arith)
