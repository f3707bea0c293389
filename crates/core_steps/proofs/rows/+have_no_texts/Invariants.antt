use Rattle.std.proofs.Common.{length}
use Rattle.core_steps.proofs.rows.+have_no_texts.Given as goal

abbrev pub decreases-have_no_texts : goal.decreases-have_no_texts
decreases-have_no_texts l = length l.texts.now
