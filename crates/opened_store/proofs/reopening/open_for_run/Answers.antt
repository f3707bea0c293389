use Rattle.opened_store.proofs.CauseLaws.{given, refused, without_memory}
use Rattle.opened_store.proofs.reopening.open_for_run.Goals as goal

pub returns-in-Ok-clause-opens : goal.returns-in-Ok-clause-opens
returns-in-Ok-clause-opens g c =
    given c.args.cubes.now (g.D.Disk.view c.args.disk.now) (g.D.Disk.view c.args.other.now) c.in-Ok.store c.in-Ok.kept c.store_for.result c.store_for.ensures c.in-Ok.ensures.opens

pub returns-in-Err-Fault-clause-opens : goal.returns-in-Err-Fault-clause-opens
returns-in-Err-Fault-clause-opens g c =
    rw c.fault_of_open.ensures
    (refused c.args.cubes.now (g.D.Disk.view c.args.disk.now) (g.D.Disk.view c.args.other.now) c.in-Err-Fault.fault
    (rw c.in-Err-Fault.field-0-is at c.in-Err-Fault.ensures.opens))

pub returns-in-Err-NoMemory-clause-opens : goal.returns-in-Err-NoMemory-clause-opens
returns-in-Err-NoMemory-clause-opens g c =
    without_memory c.args.cubes.now (g.D.Disk.view c.args.disk.now) (g.D.Disk.view c.args.other.now) (rw c.in-Err-NoMemory.field-0-is at c.in-Err-NoMemory.ensures.opens)
