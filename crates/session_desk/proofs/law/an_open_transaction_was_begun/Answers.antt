use Rattle.session_desk.proofs.OpenBegun.{open_was_begun}
use Rattle.session_desk.proofs.law.an_open_transaction_was_begun.Goals as goal

pub returns : goal.returns
returns c = open_was_begun
