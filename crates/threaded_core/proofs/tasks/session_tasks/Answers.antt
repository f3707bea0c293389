use Rattle.std.proofs.Common.{◌+◌, arith}
use Rattle.threaded_core.proofs.WorkLists.{all_numbered}
use Rattle.threaded_core.proofs.tasks.session_tasks.Goals as goal

pub returns : goal.returns
returns g c =
    let i = c.works.invariant.left in
    all_numbered (c.works.number + 1) c.works.tasks.items c.works.left.items c.args.works.items (omega (arith, i))
    c.works.invariant.works
