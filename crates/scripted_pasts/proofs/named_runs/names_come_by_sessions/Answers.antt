use Rattle.scripted_pasts.proofs.NamesCome.{names-come}
use Rattle.scripted_pasts.proofs.named_runs.names_come_by_sessions.Goals as goal

pub returns : goal.returns
returns c = names-come
