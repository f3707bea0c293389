use Rattle.std.proofs.Common.{arith, sum_by, count_ones, take, ap, ◌∙◌}
use Rattle.cube_values.proofs.BitCounts.{bits_within}
use Rattle.cube_values.proofs.BitLists.{ones_used}
use Rattle.cube_values.proofs.bits.ones_before.Goals as goal

pub count_set-requires : goal.count_set-requires
count_set-requires c =
    let words = c.args.words.now in
    let e = ones_used words c.args.len (λ i. omega (arith, c.type_inv.words i)) c.requires.held c.requires.unused in
    rw c.words_for.ensures (omega (arith, bits_within words c.args.len))

pub returns : goal.returns
returns c =
    let words = c.args.words.now in
    c.count_set.ensures ∙ ap (λ n. sum_by count_ones (take n words)) c.words_for.ensures ∙ ones_used words c.args.len (λ i. omega (arith, c.type_inv.words i)) c.requires.held c.requires.unused
