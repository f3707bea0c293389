use Rattle.scripted_pasts.proofs.NamesFit.{final-names-fit}
use Rattle.scripted_pasts.proofs.named_runs.runs_end_with_fitting_names.Goals as goal

pub returns : goal.returns
returns c = final-names-fit
