use Rattle.std.proofs.Common.{◌≡◌, not, ◌==◌, take, filter}
use Rattle.plain_journal.proofs.state.epochs_without.Given as goal

abbrev pub invariant-loop-e : goal.invariant-loop-e
invariant-loop-e l = l.left.items ≡ filter (λ e. not (e == l.epoch)) (take l.e-index l.pending)
