use Rattle.std.proofs.Common.{sym, subst}
use Rattle.std.specs.Prelude.{IfOk}
use Rattle.outside_disk.specs.DiskBytes.{IsImage}
use Rattle.outside_disk.specs.Memory.{tape_course}
use Rattle.outside_disk.proofs.Images.{IfOk-turn, crash_is_image}
use Rattle.outside_disk.proofs.disk_memory.DiskMemory.crash.Goals as goal

pub returns-clause-image : goal.returns-clause-image
returns-clause-image c =
    let now = (tape_course c.self.inside.tape).now in
    subst (λ disk. IfOk c.crash.result (λ image. IsImage (tape_course disk.tape).now image.items)) c.self.view_is
    (IfOk-turn _ _ c.crash.result (λ image e. subst (IsImage now) (sym e) (crash_is_image c.args.fill.now now)) c.crash.ensures)
