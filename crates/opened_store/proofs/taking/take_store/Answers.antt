use Rattle.opened_store.proofs.CauseLaws.{failed_takes, memory_takes}
use Rattle.opened_store.proofs.taking.take_store.Goals as goal

pub returns-in-Err-Fault-clause-takes : goal.returns-in-Err-Fault-clause-takes
returns-in-Err-Fault-clause-takes g c = failed_takes c.args.is_new c.args.cubes.now (g.D.Disk.view c.args.disk.now) (g.D.Disk.view c.args.other.now)

pub returns-in-Err-NoMemory-clause-takes : goal.returns-in-Err-NoMemory-clause-takes
returns-in-Err-NoMemory-clause-takes g c = memory_takes c.args.is_new c.args.cubes.now (g.D.Disk.view c.args.disk.now) (g.D.Disk.view c.args.other.now)
