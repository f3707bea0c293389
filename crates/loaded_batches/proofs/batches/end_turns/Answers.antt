use Rattle.session_batches.specs.PutRows.{HoldsAfterPut}
use Rattle.loaded_batches.proofs.HeldWriters.{open-after-put}
use Rattle.loaded_batches.proofs.batches.end_turns.Goals as goal

pub fetch_told-requires-clause-waits : goal.fetch_told-requires-clause-waits
fetch_told-requires-clause-waits g c = record { writer = c.args.writer.now; holds = c.requires.holds }

pub returns-in-Done-clause-holds : goal.returns-in-Done-clause-holds
returns-in-Done-clause-holds g c =
    open-after-put (g.P.CellCaller.opening c.fetch_told.new.caller) (g.P.CellCaller.number c.fetch_told.new.caller)
    c.args.session (g.P.CellCaller.own c.fetch_told.new.caller) c.args.writer.now c.fetch_told.result
    (c.fetch_told.ensures.holds c.args.writer.now c.requires.holds)

pub returns-in-Done-clause-stop : goal.returns-in-Done-clause-stop
returns-in-Done-clause-stop g c =
    coe 0 1 (i. HoldsAfterPut (g.P.CellCaller.opening c.fetch_told.new.caller)
    (g.P.CellCaller.number c.fetch_told.new.caller) c.args.session (g.P.CellCaller.own c.fetch_told.new.caller)
    c.args.writer.now (c.in-Done.is i)) (c.fetch_told.ensures.holds c.args.writer.now c.requires.holds)

pub returns-in-ShardFull-clause-holds : goal.returns-in-ShardFull-clause-holds
returns-in-ShardFull-clause-holds g c =
    open-after-put (g.P.CellCaller.opening c.fetch_told.new.caller) (g.P.CellCaller.number c.fetch_told.new.caller)
    c.args.session (g.P.CellCaller.own c.fetch_told.new.caller) c.args.writer.now c.fetch_told.result
    (c.fetch_told.ensures.holds c.args.writer.now c.requires.holds)

pub returns-in-OutOfMemory-clause-holds : goal.returns-in-OutOfMemory-clause-holds
returns-in-OutOfMemory-clause-holds g c =
    open-after-put (g.P.CellCaller.opening c.fetch_told.new.caller) (g.P.CellCaller.number c.fetch_told.new.caller)
    c.args.session (g.P.CellCaller.own c.fetch_told.new.caller) c.args.writer.now c.fetch_told.result
    (c.fetch_told.ensures.holds c.args.writer.now c.requires.holds)
