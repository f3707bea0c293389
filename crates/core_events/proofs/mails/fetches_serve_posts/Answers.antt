use Rattle.core_events.proofs.Posted.{fetched-is-done, served-is-last}
use Rattle.core_events.proofs.mails.fetches_serve_posts.Goals as goal

pub returns-clause-answered : goal.returns-clause-answered
returns-clause-answered c = fetched-is-done

pub returns-clause-served : goal.returns-clause-served
returns-clause-served c = served-is-last
