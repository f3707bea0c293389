use Rattle.std.proofs.Common.{◌≡◌, ◌++◌, length, take, drop, arith}
use Rattle.threaded_core.proofs.WorkLists.{ready_again, same_works, taken}
use Rattle.threaded_core.proofs.giving.with_callers.Goals as goal

pub returns-clause-serve : goal.returns-clause-serve
returns-clause-serve g c =
    let ss = c.args.tasks.sessions in let sn = c.give_callers.new.sessions in
    let ws = c.args.tasks.workers in let wn = c.give_callers.new.workers in
    let long-s : length sn ≡ ss.len = omega (arith, c.as_mut_slice.ensures.len) in
    let long-w : length wn ≡ ws.len = omega (arith, c.as_mut_slice-2.ensures.len) in
    ready_again g.K.CallerWork.may_begin c.args.board.now (take ss.len (sn ++ drop (length sn) ss.items)) sn
    (take ws.len (wn ++ drop (length wn) ws.items)) wn
    (taken ss.len sn (drop (length sn) ss.items) long-s) (taken ws.len wn (drop (length wn) ws.items) long-w)
    c.give_callers.ensures.serve

pub returns-clause-sessions_work : goal.returns-clause-sessions_work
returns-clause-sessions_work g c =
    let ss = c.args.tasks.sessions in let sn = c.give_callers.new.sessions in
    let long : length sn ≡ ss.len = omega (arith, c.as_mut_slice.ensures.len) in
    same_works ss.items c.as_mut_slice.result.now sn (take ss.len (sn ++ drop (length sn) ss.items))
    c.as_mut_slice.ensures.value (taken ss.len sn (drop (length sn) ss.items) long)
    c.give_callers.ensures.sessions_work

pub returns-clause-workers_work : goal.returns-clause-workers_work
returns-clause-workers_work g c =
    let ws = c.args.tasks.workers in let wn = c.give_callers.new.workers in
    let long : length wn ≡ ws.len = omega (arith, c.as_mut_slice-2.ensures.len) in
    same_works ws.items c.as_mut_slice-2.result.now wn (take ws.len (wn ++ drop (length wn) ws.items))
    c.as_mut_slice-2.ensures.value (taken ws.len wn (drop (length wn) ws.items) long)
    c.give_callers.ensures.workers_work
