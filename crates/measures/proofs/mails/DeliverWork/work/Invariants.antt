use Rattle.std.proofs.Common.{◌≡◌}
use Rattle.mail_cell.specs.State.{new_mail}
use Rattle.measures.specs.Checksums.{answers_sum}
use Rattle.measures.proofs.mails.DeliverWork.work.Given as goal

abbrev pub invariant-jobs : goal.invariant-jobs
invariant-jobs l = (l.mail ≡ new_mail 16) × (l.sum ≡ answers_sum l.job l.self.more)
