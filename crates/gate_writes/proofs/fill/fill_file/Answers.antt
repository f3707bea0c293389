use Rattle.gate_writes.proofs.Fills.{filling_moves}
use Rattle.gate_writes.proofs.fill.fill_file.Goals as goal

pub returns-clause-any_moment : goal.returns-clause-any_moment
returns-clause-any_moment g c =
    let old = g.D.Disk.view c.args.disk.now in
    filling_moves old.told c.args.bytes.now old (g.D.Disk.view c.replace_from.new.disk) (g.D.Disk.view c.write_through.new.disk) c.requires.shut
    c.replace_from.ensures.any_moment c.in_ok-replace_from.ensures.written c.write_through.ensures.any_moment
