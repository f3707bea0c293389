use Rattle.std.proofs.Common.{◌≡◌, ◌<◌, ◌==◌, true, false, length, get_or, refl, arith, ◌∙◌}
use Rattle.std.proofs.lemmas.Bool.Decides.{nat_tests}
use Rattle.cube_values.specs.declared.entry.Entry.TheVariants.{Run}
use Rattle.cube_values.specs.EpochsVector.{maker}
use Rattle.epochs_vector.specs.Without.{staying_bits}
use Rattle.epochs_vector.proofs.WhatStays.{out_none, out_next, out_same, out_other, out_all}
use Rattle.epochs_vector.proofs.without.take_out.Goals as goal
use Rattle.epochs_vector.proofs.without.take_out.Goals.{then-maker-epoch, else-maker-epoch}

pub loop-at-init : goal.loop-at-init
loop-at-init c = (out_none c.args.epoch c.args.entries.now c.args.keep.now.bits c.requires.vector c.requires.all, refl)

pub fill-requires-clause-within : goal.fill-requires-clause-within
fill-requires-clause-within c =
    let l = c.loop-at in
    let old = c.args.entries.now in
    let kept = staying_bits c.args.epoch old in
    let entry = get_or l.entries l.at (Run 0 0) in
    let n = out_next c.args.epoch kept old l.entries l.keep.bits l.at l.len l.from l.rows (Run 0 0) entry (omega arith) refl l.invariant.0 in
    omega (arith, n.within, l.invariant.0.long, c.rows_after-to.ensures)

pub loop-at-preserved : goal.loop-at-preserved
loop-at-preserved c =
    let l = c.loop-at in
    let old = c.args.entries.now in
    let kept = staying_bits c.args.epoch old in
    let entry = get_or l.entries l.at (Run 0 0) in
    let there : l.at < length old = omega arith in
    elim c.if-maker-epoch.branch [
      | then-maker-epoch w ↦ let b : (maker entry == c.args.epoch) ≡ true = grind (arith, nat_tests, c.maker.ensures, w.if-maker-epoch.true) in
          let f = rw c.rows_after-to.ensures at w.fill.ensures.bits in
          rw (w.entries-is, w.keep-is, w.len-is, w.rows-is, c.rows_after-to.ensures) (out_same c.args.epoch kept old l.entries l.keep.bits w.fill.new.self.bits l.at l.len l.from l.rows (Run 0 0) entry there refl b l.invariant.0 f, w.fill.ensures.room ∙ l.invariant.1)
      | else-maker-epoch w ↦ let b : (maker entry == c.args.epoch) ≡ false = grind (arith, nat_tests, c.maker.ensures, w.if-maker-epoch.false) in
          let f = rw (w.with_rows_after.ensures, c.rows_after-to.ensures) at w.put_at-len.ensures.front in
          rw (w.entries-is, w.keep-is, w.len-is, w.rows-is, c.rows_after-to.ensures) (out_other c.args.epoch kept old l.entries w.put_at-len.new.entries l.keep.bits l.at l.len w.put_at-len.result l.from l.rows (Run 0 0) entry there refl b l.invariant.0 f w.put_at-len.ensures.rest w.put_at-len.ensures.within, l.invariant.1)
    ]

pub returns-clause-keep : goal.returns-clause-keep
returns-clause-keep c =
    let l = c.loop-at in
    (out_all c.args.epoch c.args.entries.now l.entries l.keep.bits l.at l.len l.from l.rows (omega arith) l.invariant.0).1.1
