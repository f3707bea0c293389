use Rattle.outside_disk.proofs.Courses.{goes_sync, told_sync, IsSynced-after}
use Rattle.outside_disk.proofs.disk_memory.DiskMemoryDisk.sync.Goals as goal

pub returns-clause-goes : goal.returns-clause-goes
returns-clause-goes c = goes_sync c.settle.result c.args.self.now c.settle.new.self c.settle.ensures.after c.settle.ensures.later

pub returns-clause-told : goal.returns-clause-told
returns-clause-told c = told_sync c.settle.result c.args.self.now c.settle.new.self c.settle.ensures.after c.settle.ensures.exact

pub returns-clause-synced : goal.returns-clause-synced
returns-clause-synced c = IsSynced-after c.settle.result c.args.self.now c.settle.new.self c.settle.ensures.after c.settle.ensures.exact
