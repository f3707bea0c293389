use Rattle.std.proofs.Common.{◌+◌, ◌<◌, ◌≤◌, length, vec_len, vec_capacity, get_or, arith}
use Rattle.std.specs.List.{zip}
use Rattle.std.proofs.lemmas.List.Elements.{All-get_or}
use Rattle.std.proofs.lemmas.Slice.Zip.{length-zip, get_or-zip}
use Rattle.brick_columns.proofs.EachColumn.{pushed}
use Rattle.brick_columns.proofs.InPlace.{each_here, each_more, each_all}
use Rattle.brick_columns.proofs.lists.push_each.Goals as goal

pub push_reserved-requires : goal.push_reserved-requires
push_reserved-requires g c =
    let l = c.loop-i in
    let old = c.args.lists.now in
    let list = c.index-lists-i.result in
    let here = each_here _ _ old l.lists l.i list l.invariant in
    let room = All-get_or (λ v. vec_len v + 1 ≤ vec_capacity v) old l.i list (omega arith) c.requires.room in
    rw here (omega arith)

pub loop-i-preserved : goal.loop-i-preserved
loop-i-preserved g c =
    let l = c.loop-i in
    let old = c.args.lists.now in
    let row = c.args.row.now in
    let list = c.index-lists-i.result in
    let item = c.index-row-i in
    let there : l.i < length row = omega (arith, c.requires.width) in
    let here = each_here _ _ old l.lists l.i list l.invariant in
    let pair = get_or-zip old row l.i (list, item.result) (omega arith) there in
    let step = pushed (get_or old l.i list) (get_or l.lists l.i list) c.push_reserved.new.self here (get_or row l.i item.result) (rw item.is at c.push_reserved.ensures.items) c.push_reserved.ensures.capacity in
    each_more _ (zip old row) old l.lists l.i (list, item.result) c.push_reserved.new.self (omega (arith, length-zip old row)) (omega arith) (rw pair step) l.invariant

pub returns : goal.returns
returns g c =
    let l = c.loop-i in
    let old = c.args.lists.now in
    each_all _ (zip old c.args.row.now) old l.lists l.i (omega (arith, length-zip old c.args.row.now)) (omega arith) l.invariant
