use Rattle.std.proofs.Common.{◌≡◌, ◌++◌, length, drop, take, arith}
use Rattle.thread_cases.proofs.Taken.{ready_again, taken}
use Rattle.thread_cases.proofs.counts.ends_as_it_may.Goals as goal

pub run_on_threads-cells-requires-clause-serve : goal.run_on_threads-cells-requires-clause-serve
run_on_threads-cells-requires-clause-serve g c κs within =
    let ss = c.in-Ok.sessions in let sn = c.give_callers.new.sessions in
    let ws = c.in-Ok-vec.workers in let wn = c.give_callers.new.workers in
    let long-s : length sn ≡ ss.len = omega (arith, c.as_mut_slice.ensures.len) in
    let long-w : length wn ≡ ws.len = omega (arith, c.as_mut_slice-2.ensures.len) in
    ready_again _ c.in-Ok-counting.board (take ss.len (sn ++ drop (length sn) ss.items)) sn
    (take ws.len (wn ++ drop (length wn) ws.items)) wn
    (taken ss.len sn (drop (length sn) ss.items) long-s) (taken ws.len wn (drop (length wn) ws.items) long-w)
    c.give_callers.ensures.serve
