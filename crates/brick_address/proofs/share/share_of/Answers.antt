use Rattle.std.proofs.Common.{◌==◌}
use Rattle.std.specs.List.{list_any}
use Rattle.cube_values.specs.Spans.{part_has}
use Rattle.brick_address.specs.Shares.{IsShare}
use Rattle.brick_address.proofs.share.share_of.Goals as goal

pub returns-in-Between : goal.returns-in-Between
returns-in-Between c =
    coe 1 0 (i. IsShare (λ x. part_has (c.in-Between.is i) x) c.args.start c.args.end c.share_between.result) c.share_between.ensures

pub returns-in-Listed : goal.returns-in-Listed
returns-in-Listed c =
    coe 1 0 (i. IsShare (λ x. part_has (c.in-Listed.is i) x) c.args.start c.args.end c.share_listed.result)
    (coe 0 1 (i. IsShare (λ x. list_any (λ d. d == x) (c.as_slice.ensures i)) c.args.start c.args.end c.share_listed.result) c.share_listed.ensures)
