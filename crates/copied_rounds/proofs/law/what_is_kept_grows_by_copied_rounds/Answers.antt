use Rattle.copied_rounds.proofs.RoundsOfRuns.{kept-with-copies}
use Rattle.copied_rounds.proofs.law.what_is_kept_grows_by_copied_rounds.Goals as goal

pub returns : goal.returns
returns c = kept-with-copies
