use Rattle.outside_disk.proofs.Fresh.{new_told, new_synced}
use Rattle.outside_disk.proofs.Images.{IfOk-turn}
use Rattle.outside_disk.proofs.disk_memory.DiskMemory.new.Goals as goal

pub returns-clause-told : goal.returns-clause-told
returns-clause-told c =
    IfOk-turn _ _ c.with_tape.result (λ disk e. new_told c.args.bytes.items c.args.room c.args.failing.items c.args.stop disk e) c.with_tape.ensures

pub returns-clause-synced : goal.returns-clause-synced
returns-clause-synced c =
    IfOk-turn _ _ c.with_tape.result (λ disk e. new_synced c.args.bytes.items c.args.room c.args.failing.items c.args.stop disk e) c.with_tape.ensures
