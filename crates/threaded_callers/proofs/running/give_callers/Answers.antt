use Rattle.std.proofs.Common.{◌≡◌, ◌+◌, ◌-◌, ◌<◌, ◌≤◌, length, take, ap, subst, ◌∙◌, arith}
use Rattle.turn_board.specs.Hands.{new_hands}
use Rattle.turn_board.specs.Passes.{callers_of, hands_of}
use Rattle.threaded_callers.specs.Tasks.{AreReady, IsReady}
use Rattle.threaded_callers.proofs.Hands.{new_first}
use Rattle.threaded_callers.proofs.WholeRuns.{left_new, long_new, may_play, ready_all, ready_one}
use Rattle.threaded_callers.proofs.running.give_callers.Goals as goal

pub split_first-first-requires-clause-more : goal.split_first-first-requires-clause-more
split_first-first-requires-clause-more g c =
    let n = callers_of c.args.board.now in let l = long_new 0 n (hands_of c.args.pass) c.requires.first.hands in
    let e = c.requires.callers in omega (arith, l, e)

pub share_out-rest-requires-clause-more : goal.share_out-rest-requires-clause-more
share_out-rest-requires-clause-more g c =
    let n = callers_of c.args.board.now in let e = c.requires.callers in let le : 1 ≤ n = omega (arith, e) in
    let rest = left_new 0 n 1 (hands_of c.args.pass) (hands_of c.split_first-first.result.1) c.requires.first.hands
    c.split_first-first.ensures.others le in
    let l = long_new 1 (n - 1) (hands_of c.split_first-first.result.1) rest in omega (arith, l, e)

pub share_out-last-requires-clause-more : goal.share_out-last-requires-clause-more
share_out-last-requires-clause-more g c =
    let n = callers_of c.args.board.now in let e = c.requires.callers in let le : 1 ≤ n = omega (arith, e) in
    let s = length c.args.sessions.now in let les : s ≤ n - 1 = omega (arith, e) in
    let rest = left_new 0 n 1 (hands_of c.args.pass) (hands_of c.split_first-first.result.1) c.requires.first.hands
    c.split_first-first.ensures.others le in
    let then = left_new 1 (n - 1) s (hands_of c.split_first-first.result.1) (hands_of c.share_out-rest.result) rest
    c.share_out-rest.ensures.others les in
    let l = long_new (1 + s) (n - 1 - s) (hands_of c.share_out-rest.result) then in omega (arith, l, e)

pub returns-clause-play : goal.returns-clause-play
returns-clause-play g c =
    let b = c.args.board.now in let n = callers_of b in let e = c.requires.callers in let p = c.split_first-first in
    let le : 1 ≤ n = omega (arith, e) in let some : 0 < n = omega (arith, e) in
    let s0 = c.args.sessions.now in let s1 = c.share_out-rest.new.tasks in
    let few : length s0 ≤ n - 1 = omega (arith, e) in let long : length s1 ≡ length s0 = omega arith in
    may_play b g.M.MainWork.may_begin g.W.CallerWork.may_begin c.args.main.now c.give.new.self p.result.0 s1
    c.give.ensures.pass p.ensures.passes.0
    (p.ensures.first ∙ ap (take 1) c.requires.first.hands ∙ new_first 0 n some)
    (p.ensures.past ∙ c.requires.first.past) c.give.ensures.work c.requires.main
    (ready_all b g.W.CallerWork.may_begin 1 (n - 1) (hands_of p.result.1) s0 s1
    (left_new 0 n 1 (hands_of c.args.pass) (hands_of p.result.1) c.requires.first.hands p.ensures.others le) few long
    c.share_out-rest.ensures.given c.share_out-rest.ensures.works c.requires.sessions)

pub returns-clause-serve : goal.returns-clause-serve
returns-clause-serve g c =
    let b = c.args.board.now in let n = callers_of b in let e = c.requires.callers in let p = c.split_first-first in
    let le : 1 ≤ n = omega (arith, e) in
    let s0 = c.args.sessions.now in let s1 = c.share_out-rest.new.tasks in let s = length s0 in
    let w0 = c.args.workers.now in let w1 = c.share_out-last.new.tasks in
    let les : s ≤ n - 1 = omega (arith, e) in let few : length w0 ≤ n - 1 - s = omega (arith, e) in
    let long : length w1 ≡ length w0 = omega arith in let same : s ≡ length s1 = omega arith in
    let rest = left_new 0 n 1 (hands_of c.args.pass) (hands_of p.result.1) c.requires.first.hands p.ensures.others le in
    let then = left_new 1 (n - 1) s (hands_of p.result.1) (hands_of c.share_out-rest.result) rest
    c.share_out-rest.ensures.others les in
    subst (λ k. AreReady g.K.CallerWork.may_begin b (1 + k) w1) same
    (ready_all b g.K.CallerWork.may_begin (1 + s) (n - 1 - s) (hands_of c.share_out-rest.result) w0 w1 then few long
    c.share_out-last.ensures.given c.share_out-last.ensures.works c.requires.workers)

pub returns-clause-flush : goal.returns-clause-flush
returns-clause-flush g c =
    let b = c.args.board.now in let n = callers_of b in let e = c.requires.callers in let p = c.split_first-first in
    let le : 1 ≤ n = omega (arith, e) in
    let s = length c.args.sessions.now in let w = length c.args.workers.now in
    let les : s ≤ n - 1 = omega (arith, e) in let lew : w ≤ n - 1 - s = omega (arith, e) in
    let one : n - 1 - s - w ≡ 1 = omega (arith, e) in
    let same : 1 + s + w ≡ 1 + length c.share_out-rest.new.tasks + length c.share_out-last.new.tasks = omega arith in
    let rest = left_new 0 n 1 (hands_of c.args.pass) (hands_of p.result.1) c.requires.first.hands p.ensures.others le in
    let then = left_new 1 (n - 1) s (hands_of p.result.1) (hands_of c.share_out-rest.result) rest
    c.share_out-rest.ensures.others les in
    let last = left_new (1 + s) (n - 1 - s) w (hands_of c.share_out-rest.result) (hands_of c.share_out-last.result) then
    c.share_out-last.ensures.others lew in
    subst (λ k. IsReady g.F.CallerWork.may_begin b k c.give-2.new.self) same
    (ready_one b g.F.CallerWork.may_begin (1 + s + w) c.args.flusher.now c.give-2.new.self c.share_out-last.result
    c.give-2.ensures.pass c.share_out-last.ensures.pass (last ∙ ap (new_hands (1 + s + w)) one) c.give-2.ensures.work
    c.requires.flusher)
