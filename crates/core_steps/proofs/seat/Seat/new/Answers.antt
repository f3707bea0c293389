use Rattle.core_steps.specs.Holding.{Sits}
use Rattle.core_steps.specs.declared.plays.HeldSnapshot.TheVariants.{Nothing}
use Rattle.core_steps.proofs.seat.Seat.new.Goals as goal

pub returns-clause-sits : goal.returns-clause-sits
returns-clause-sits g c =
    let begins = c.requires.begins in
    let cells = g.P.CellCaller.opening c.args.caller in
    let of = c.sessions_begin_on_a_core.ensures cells c.args.number begins.core c.requires.some c.requires.below in
    coe 1 0 (i. Sits (c.new-size.ensures.shards i) c.args.number cells (begins.by_number i) (begins.new i) Nothing)
    (record { on_core = of.on_core; holds = of.holds; history = of.history })
