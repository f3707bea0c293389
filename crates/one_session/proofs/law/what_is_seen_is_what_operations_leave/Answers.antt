use Rattle.one_session.proofs.Order.{reader_run, writer_run}
use Rattle.one_session.proofs.law.what_is_seen_is_what_operations_leave.Goals as goal

pub returns-clause-reader : goal.returns-clause-reader
returns-clause-reader c = reader_run

pub returns-clause-writer : goal.returns-clause-writer
returns-clause-writer c = writer_run
