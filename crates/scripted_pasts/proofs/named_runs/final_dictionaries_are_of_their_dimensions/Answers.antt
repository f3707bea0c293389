use Rattle.scripted_pasts.proofs.NamesFit.{is-dictionary}
use Rattle.scripted_pasts.proofs.named_runs.final_dictionaries_are_of_their_dimensions.Goals as goal

pub returns : goal.returns
returns c = is-dictionary
