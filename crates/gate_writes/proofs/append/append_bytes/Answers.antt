use Rattle.gate_writes.proofs.Writes.{begun_moves, appended_moves}
use Rattle.gate_writes.proofs.append.append_bytes.Goals as goal

pub returns-in_err-write_through-clause-any_moment : goal.returns-in_err-write_through-clause-any_moment
returns-in_err-write_through-clause-any_moment g c = λ front is.
    let old = g.D.Disk.view c.args.disk.now in
    begun_moves old.told front c.args.bytes.now c.args.end is old (g.D.Disk.view c.write_through.new.disk) c.write_through.ensures.any_moment

pub returns-clause-any_moment : goal.returns-clause-any_moment
returns-clause-any_moment g c = λ front is.
    let old = g.D.Disk.view c.args.disk.now in
    appended_moves old.told front c.args.bytes.now c.args.end is old (g.D.Disk.view c.write_through.new.disk) (g.D.Disk.view c.write_through-2.new.disk)
    c.write_through.ensures.any_moment c.in_ok-write_through.ensures.written c.write_through-2.ensures.any_moment
