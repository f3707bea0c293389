use Rattle.std.proofs.Common.{◌≡◌, ◌+◌, ◌-◌, ◌*◌, All, length, take, drop, subst, sym, ap, ◌∙◌, arith}
use Rattle.agg_fold.specs.Tallies.{IsSmall, with_chunk, tally_differences}
use Rattle.agg_fold.proofs.Lists.{put_chunk}
use Rattle.agg_fold.proofs.tallies.take_all_at.Goals as goal

pub take_all-requires-clause-small : goal.take_all-requires-clause-small
take_all-requires-clause-small c =
    let n = length c.args.less.now in
    let first = c.args.place * n in
    let k : first + n - first ≡ n = omega arith in
    subst (λ (m : _). All IsSmall (take m (drop first c.args.tallies.now))) (sym k) c.requires.small

pub returns : goal.returns
returns c =
    let n = length c.args.less.now in
    let first = c.args.place * n in
    let k : first + n - first ≡ n = omega arith in
    put_chunk c.args.place n c.args.tallies.now c.take_all.new.tallies
    ∙ ap (with_chunk c.args.place n c.args.tallies.now) (c.take_all.ensures ∙ (λ i. tally_differences (take (k i) (drop first c.args.tallies.now)) c.args.less.now))
