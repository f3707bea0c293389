use Rattle.std.proofs.Common.{◌≡◌, ◌<◌, true, false, length, get_or, refl, ap, sym, arith, ◌∙◌}
use Rattle.std.proofs.lemmas.Bool.Decides.{nat_tests}
use Rattle.cube_values.specs.declared.entry.Entry.TheVariants.{Run}
use Rattle.epochs_vector.specs.Limits.{is_below}
use Rattle.purge_plan.specs.Purged.{is_old_mark, spared_bits}
use Rattle.purge_plan.proofs.Passing.{IsStep, purged_none, purged_next, purged_old, purged_new, purged_all}
use Rattle.purge_plan.proofs.purge.leave.Goals as goal
use Rattle.purge_plan.proofs.purge.leave.Goals.{then-not-is_old, else-not-is_old}

pub loop-at-init : goal.loop-at-init
loop-at-init c = (purged_none c.args.epoch c.args.limit.now c.args.entries.now c.args.keep.now.bits c.requires.vector c.requires.all c.requires.limit, refl)

pub fill-requires-clause-within : goal.fill-requires-clause-within
fill-requires-clause-within c =
    let l = c.loop-at in
    let old = c.args.entries.now in
    let entry = get_or l.entries l.at (Run 0 0) in
    let n = purged_next c.args.epoch c.args.limit.now (spared_bits c.args.epoch old) old l.entries l.keep.bits l.at l.len l.from l.rows (Run 0 0) entry (omega arith) refl l.invariant.0 in
    omega (arith, n.within, l.invariant.0.cleared.long, c.rows_after-to.ensures, c.first_shown-first.ensures.high)

pub loop-at-preserved : goal.loop-at-preserved
loop-at-preserved c =
    let l = c.loop-at in
    let p = c.args.epoch in
    let limit = c.args.limit.now in
    let old = c.args.entries.now in
    let bits = spared_bits p old in
    let first = c.first_shown-first.result in
    let entry = get_or l.entries l.at (Run 0 0) in
    let there : l.at < length old = omega arith in
    let step : IsStep limit entry l.from first l.keep.bits c.fill.new.self.bits = record {
      low = c.first_shown-first.ensures.low;
      high = omega (arith, c.rows_after-to.ensures, c.first_shown-first.ensures.high);
      below = λ i a b. ap (λ j. is_below limit j i) (sym c.maker.ensures) ∙ c.first_shown-first.ensures.first i a (omega (arith, c.rows_after-to.ensures));
      fill = c.fill.ensures.bits;
    } in
    elim c.if-not-is_old.branch [
      | then-not-is_old w ↦ let b : is_old_mark p entry ≡ false = grind (arith, nat_tests, c.is_old.ensures, w.if-not-is_old.true) in
          let f = rw (w.with_rows_after.ensures, c.rows_after-to.ensures) at w.put-len.ensures.front in
          rw (w.entries-is, w.len-is, c.rows_after-to.ensures) (purged_new p limit bits old l.entries w.put-len.new.entries l.keep.bits c.fill.new.self.bits l.at l.len w.put-len.result l.from l.rows first (Run 0 0) entry there refl b l.invariant.0 step f w.put-len.ensures.rest w.put-len.ensures.within, c.fill.ensures.room ∙ l.invariant.1)
      | else-not-is_old w ↦ let b : is_old_mark p entry ≡ true = grind (arith, nat_tests, c.is_old.ensures, w.if-not-is_old.false) in
          rw (w.entries-is, w.len-is, c.rows_after-to.ensures) (purged_old p limit bits old l.entries l.keep.bits c.fill.new.self.bits l.at l.len l.from l.rows first (Run 0 0) entry there refl b l.invariant.0 step, c.fill.ensures.room ∙ l.invariant.1)
    ]

pub returns-clause-keep : goal.returns-clause-keep
returns-clause-keep c =
    let l = c.loop-at in
    (purged_all c.args.epoch c.args.limit.now c.args.entries.now l.entries l.keep.bits l.at l.len l.from l.rows (omega arith) l.invariant.0).1
