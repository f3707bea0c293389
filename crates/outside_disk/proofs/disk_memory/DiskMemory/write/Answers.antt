use Rattle.std.proofs.Common.{◌∙◌, sym, arith}
use Rattle.outside_disk.specs.Course.{write_events}
use Rattle.outside_disk.proofs.Courses.{write_fits, after_answer}
use Rattle.outside_disk.proofs.disk_memory.DiskMemory.write.Goals as goal

pub returns-clause-after : goal.returns-clause-after
returns-clause-after c =
    let room = c.self.inside.tape.room in
    let fits = write_fits room c.args.at c.args.bytes.now (omega (arith, c.if-room-bytes.false, c.room.ensures)) in
    c.answer.ensures.after
    ∙ rw (sym c.self.view_is)
    (after_answer c.answer.result (write_events c.args.at c.args.bytes.now) _ _ c.write.new.self c.write.ensures fits)
