use Rattle.std.proofs.Common.{arith}
use Rattle.brick_address.proofs.RisingLists.{held_is, none_held, held_none, held_most, all_held, held_all}
use Rattle.brick_address.proofs.share.share_listed.Goals as goal

pub returns-then-count-eq0 : goal.returns-then-count-eq0
returns-then-count-eq0 c =
    let h = held_is c.args.start c.args.end c.args.coords.now in
    none_held c.args.start c.args.end c.args.coords.now (omega arith)

pub returns-then-count-end : goal.returns-then-count-end
returns-then-count-end c =
    let h = held_is c.args.start c.args.end c.args.coords.now in
    all_held c.args.start c.args.end c.args.coords.now c.requires.rises (omega arith)

pub returns-else-count-end : goal.returns-else-count-end
returns-else-count-end c =
    let h = held_is c.args.start c.args.end c.args.coords.now in
    let most = held_most c.args.start c.args.end c.args.coords.now c.requires.rises (omega arith) in (
      λ all. let m = held_all c.args.start c.args.end c.args.coords.now c.requires.rises (omega arith) all in omega arith,
      λ none. let m = held_none c.args.start c.args.end c.args.coords.now none in omega arith,
    )
