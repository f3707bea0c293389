use Rattle.std.proofs.lemmas.List.{length-map}
use Rattle.outside_disk.proofs.Courses.{goes_write, told_write}
use Rattle.outside_disk.proofs.disk_memory.DiskMemoryDisk.write_at.Goals as goal

pub returns-clause-goes : goal.returns-clause-goes
returns-clause-goes c =
    goes_write c.write.result c.args.at c.args.bytes.now c.args.self.now c.write.new.self c.write.ensures.after c.write.ensures.later
    (rw length-map at c.requires)

pub returns-clause-told : goal.returns-clause-told
returns-clause-told c =
    told_write c.write.result c.args.at c.args.bytes.now c.args.self.now c.write.new.self c.write.ensures.after c.write.ensures.exact
    (rw length-map at c.requires)
