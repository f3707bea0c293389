use Rattle.std.proofs.Common.{◌≡◌, length, vec_len, get_or, ap, ◌∙◌, arith}
use Rattle.std.proofs.lemmas.List.Elements.{All-get_or}
use Rattle.brick_columns.specs.Lists.{IsSelection}
use Rattle.brick_columns.proofs.EachColumn.{kept}
use Rattle.brick_columns.proofs.InPlace.{each_here, each_more}
use Rattle.brick_columns.proofs.lists.keep_each.Goals as goal

pub keep_items-left-requires : goal.keep_items-left-requires
keep_items-left-requires g c =
    let l = c.loop-list in
    let old = c.args.lists.now in
    let bits = c.args.bits.now.bits in
    let list = c.list-item.result in
    let here = each_here (IsSelection bits) old old l.lists l.list-index list l.invariant in
    c.as_mut_slice.ensures.len ∙ ap (λ v. vec_len v) here ∙ All-get_or (λ v. vec_len v ≡ length bits) old l.list-index list (omega arith) c.requires

pub loop-list-preserved : goal.loop-list-preserved
loop-list-preserved g c =
    let l = c.loop-list in
    let old = c.args.lists.now in
    let bits = c.args.bits.now.bits in
    let list = c.list-item.result in
    let moved = c.keep_items-left in
    let here = each_here (IsSelection bits) old old l.lists l.list-index list l.invariant in
    let step = kept (get_or old l.list-index list) (get_or l.lists l.list-index list) c.truncate.new.self here bits c.as_mut_slice.result.now moved.new.items moved.result c.as_mut_slice.ensures.value (omega arith) moved.ensures.front c.truncate.ensures.items c.truncate.ensures.capacity in
    each_more (IsSelection bits) old old l.lists l.list-index list c.truncate.new.self (omega arith) (omega arith) step l.invariant
