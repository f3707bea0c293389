use Rattle.round_store.specs.Creation.{IsShutNow}
use Rattle.round_store.proofs.NewLaws.{first_moves_then}
use Rattle.round_store.proofs.new_store.begin_files.Goals as goal

pub returns-in_err-begin_first-clause-first_moves : goal.returns-in_err-begin_first-clause-first_moves
returns-in_err-begin_first-clause-first_moves g c =
    let old = g.D.Disk.view c.args.disk.now in
    first_moves_then old.told c.args.bytes.now old (g.D.Disk.view c.begin_first.new.disk) (IsShutNow (g.D.Disk.view c.args.other.now) (g.D.Disk.view c.shut_any_front.new.disk))
    c.in_ok-some.ensures.shut c.begin_first.ensures.any_moment

pub returns-clause-first_moves : goal.returns-clause-first_moves
returns-clause-first_moves g c =
    let old = g.D.Disk.view c.args.disk.now in
    first_moves_then old.told c.args.bytes.now old (g.D.Disk.view c.begin_first.new.disk) (IsShutNow (g.D.Disk.view c.args.other.now) (g.D.Disk.view c.shut_any_front.new.disk))
    c.in_ok-some.ensures.shut c.begin_first.ensures.any_moment
