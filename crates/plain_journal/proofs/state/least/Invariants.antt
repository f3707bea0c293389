use Rattle.std.proofs.Common.{◌≡◌, take, fold, min}
use Rattle.plain_journal.proofs.state.least.Given as goal

abbrev pub invariant-loop-epoch : goal.invariant-loop-epoch
invariant-loop-epoch l = l.least ≡ fold min l.first (take l.epoch-index l.epochs)
