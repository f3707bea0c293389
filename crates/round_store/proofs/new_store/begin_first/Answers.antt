use Rattle.round_store.proofs.NewLaws.{begin_moves}
use Rattle.round_store.proofs.new_store.begin_first.Goals as goal

pub returns-clause-any_moment : goal.returns-clause-any_moment
returns-clause-any_moment g c =
    begin_moves (g.D.Disk.view c.args.disk.now).told c.args.bytes.now (g.D.Disk.view c.args.disk.now) (g.D.Disk.view c.shut_front.new.disk) (g.D.Disk.view c.fill_file.new.disk)
    c.in_ok-shut_front.ensures.any_moment c.in_ok-shut_front.ensures.written c.fill_file.ensures.any_moment
