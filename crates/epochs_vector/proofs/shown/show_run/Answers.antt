use Rattle.std.proofs.Common.{sym, ◌∙◌}
use Rattle.epochs_vector.proofs.VisibleRows.{run_shown}
use Rattle.epochs_vector.proofs.shown.show_run.Goals as goal

pub returns-then-sees-clause-shown : goal.returns-then-sees-clause-shown
returns-then-sees-clause-shown c =
    let f = c.first_shown.ensures in
    run_shown c.args.snapshot.now c.args.limit.now c.args.epoch c.args.from c.first_shown.result c.args.end c.args.bits.now.bits c.fill.new.self.bits c.fill.ensures.bits f.low f.high c.requires.within (sym c.sees.ensures.value ∙ c.if-sees.true) f.first c.requires.clear
