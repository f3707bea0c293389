use Rattle.session_replies.proofs.Answers.{flushed, purged, shown}
use Rattle.session_replies.proofs.law.requests_are_answered.Goals as goal

pub returns-clause-flushed : goal.returns-clause-flushed
returns-clause-flushed c = flushed

pub returns-clause-purged : goal.returns-clause-purged
returns-clause-purged c = purged

pub returns-clause-shown : goal.returns-clause-shown
returns-clause-shown c = shown
