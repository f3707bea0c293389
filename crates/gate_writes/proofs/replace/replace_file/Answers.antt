use Rattle.gate_writes.proofs.Fills.{replacing_at_once, replacing_moves}
use Rattle.gate_writes.proofs.replace.replace_file.Goals as goal

pub returns-then-shut-clause-any_moment : goal.returns-then-shut-clause-any_moment
returns-then-shut-clause-any_moment g c =
    let old = g.D.Disk.view c.args.disk.now in
    replacing_at_once old.told c.args.bytes.now old (g.D.Disk.view c.fill_file.new.disk) c.fill_file.ensures.any_moment

pub returns-clause-any_moment : goal.returns-clause-any_moment
returns-clause-any_moment g c =
    let old = g.D.Disk.view c.args.disk.now in
    replacing_moves old.told c.args.bytes.now old (g.D.Disk.view c.shut_front.new.disk) (g.D.Disk.view c.fill_file-2.new.disk) (rw c.if-shut.false at c.requires.gate)
    c.shut_front.ensures.any_moment c.in_ok-shut_front.ensures.written c.fill_file-2.ensures.any_moment
