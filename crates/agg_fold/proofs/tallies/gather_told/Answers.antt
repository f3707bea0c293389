use Rattle.std.proofs.Common.{◌≡◌, ◌++◌, ◌∷◌, [], pos, get_or, ap, ◌∙◌, arith, rules, FitsSigned}
use Rattle.std.specs.Int.{w64, w128}
use Rattle.std.proofs.lemmas.Int.{to_z-of_z}
use Rattle.cube_values.specs.declared.query.BoundItem.TheVariants.{Group}
use Rattle.agg_fold.specs.Tallies.{told_tally}
use Rattle.agg_fold.proofs.Told.{AreLong, told_more, told_all}
use Rattle.agg_fold.proofs.tallies.gather_told.Goals as goal

pub items-preserved : goal.items-preserved
items-preserved c =
    let items = c.args.items.now in
    let i = c.items.i in
    let long : AreLong items c.args.sums.now c.args.least.now c.args.greatest.now = record { enough_sums = c.requires.sums; enough_least = c.requires.least; enough_greatest = c.requires.greatest } in
    let sum = get_or c.args.sums.now i (pos 0) in
    let low = get_or c.args.least.now i (pos 0) in
    let high = get_or c.args.greatest.now i (pos 0) in
    let sum_fits : FitsSigned w128 sum = search rules in
    let low_fits : FitsSigned w64 low = search rules in
    let high_fits : FitsSigned w64 high = search rules in
    let told : c.told.result ≡ told_tally (get_or items i (Group 0)) sum low high =
    c.told.ensures ∙ (λ k. told_tally (get_or items i (Group 0)) (to_z-of_z w128 sum sum_fits k) (to_z-of_z w64 low low_fits k) (to_z-of_z w64 high high_fits k)) in
    told_more items c.args.sums.now c.args.least.now c.args.greatest.now c.items.tallies.items i c.push.new.self.items c.told.result (Group 0) (pos 0) (pos 0) (pos 0) long (omega arith) (search rules) told
    ∙ c.items.invariant

pub returns : goal.returns
returns c = told_all c.args.items.now c.args.sums.now c.args.least.now c.args.greatest.now c.items.tallies.items c.items.i (omega arith) ∙ c.items.invariant
