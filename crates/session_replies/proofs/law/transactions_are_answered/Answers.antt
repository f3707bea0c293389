use Rattle.session_replies.proofs.Answers.{begun, cleared, committed, rolled_back}
use Rattle.session_replies.proofs.law.transactions_are_answered.Goals as goal

pub returns-clause-begun : goal.returns-clause-begun
returns-clause-begun c = begun

pub returns-clause-committed : goal.returns-clause-committed
returns-clause-committed c = committed

pub returns-clause-rolled_back : goal.returns-clause-rolled_back
returns-clause-rolled_back c = rolled_back

pub returns-clause-cleared : goal.returns-clause-cleared
returns-clause-cleared c = cleared
