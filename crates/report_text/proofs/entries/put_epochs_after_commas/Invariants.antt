use Rattle.std.proofs.Common.{◌≡◌, ◌++◌, take}
use Rattle.report_text.specs.Lines.{epochs_after_commas}
use Rattle.report_text.proofs.entries.put_epochs_after_commas.Given as goal

abbrev pub invariant-epochs : goal.invariant-epochs
invariant-epochs l = l.out.items ≡ l.fn.out.items ++ epochs_after_commas (take l.epoch-index l.epochs)
