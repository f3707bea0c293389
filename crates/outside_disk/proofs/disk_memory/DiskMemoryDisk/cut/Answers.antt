use Rattle.std.proofs.lemmas.List.{length-map}
use Rattle.outside_disk.proofs.Courses.{goes_cut, told_cut}
use Rattle.outside_disk.proofs.disk_memory.DiskMemoryDisk.cut.Goals as goal

pub returns-clause-goes : goal.returns-clause-goes
returns-clause-goes c = goes_cut c.cut_to.result c.args.len c.args.self.now c.cut_to.new.self c.cut_to.ensures.after c.cut_to.ensures.later (rw length-map at c.requires)

pub returns-clause-told : goal.returns-clause-told
returns-clause-told c = told_cut c.cut_to.result c.args.len c.args.self.now c.cut_to.new.self c.cut_to.ensures.after c.cut_to.ensures.exact
