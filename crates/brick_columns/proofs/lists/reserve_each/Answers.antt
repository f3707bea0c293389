use Rattle.std.proofs.Common.{◌+◌, ◌≤◌, take, vec_len, vec_capacity, get_or, refl, arith}
use Rattle.std.proofs.lemmas.List.{take_more_set}
use Rattle.std.proofs.lemmas.List.Elements.{All-push}
use Rattle.brick_columns.specs.Lists.{IsGrown}
use Rattle.brick_columns.proofs.EachColumn.{grown}
use Rattle.brick_columns.proofs.InPlace.{each_here, each_more, each_left}
use Rattle.brick_columns.proofs.lists.reserve_each.Goals as goal

pub returns-in_err-reserve_exact-clause-grown : goal.returns-in_err-reserve_exact-clause-grown
returns-in_err-reserve_exact-clause-grown g c =
    let l = c.loop-list in
    let old = c.args.lists.now in
    let list = c.list-item.result in
    let here = each_here IsGrown old old l.lists l.list-index list l.invariant.grown in
    let step = grown (get_or old l.list-index list) (get_or l.lists l.list-index list) c.reserve_exact.new.self here c.reserve_exact.ensures.items c.reserve_exact.ensures.capacity in
    let front = each_more IsGrown old old l.lists l.list-index list c.reserve_exact.new.self (omega arith) (omega arith) step l.invariant.grown in
    each_left IsGrown (λ v. record { items = refl; memory = omega arith }) old _ (l.list-index + 1) front

pub loop-list-preserved : goal.loop-list-preserved
loop-list-preserved g c =
    let l = c.loop-list in
    let old = c.args.lists.now in
    let list = c.list-item.result in
    let new = c.reserve_exact.new.self in
    let here = each_here IsGrown old old l.lists l.list-index list l.invariant.grown in
    let step = grown (get_or old l.list-index list) (get_or l.lists l.list-index list) new here c.reserve_exact.ensures.items c.reserve_exact.ensures.capacity in
    let room : vec_len new + c.args.more ≤ vec_capacity new = omega (arith, c.in_ok-reserve_exact.ensures.ok) in
    record {
      grown = each_more IsGrown old old l.lists l.list-index list new (omega arith) (omega arith) step l.invariant.grown;
      room = rw (take_more_set l.lists l.list-index new (omega arith)) (All-push (λ v. vec_len v + c.args.more ≤ vec_capacity v) (take l.list-index l.lists) new l.invariant.room room);
    }
