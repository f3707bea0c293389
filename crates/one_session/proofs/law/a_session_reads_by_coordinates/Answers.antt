use Rattle.one_session.proofs.Answering.{reader_answers, writer_answers}
use Rattle.one_session.proofs.law.a_session_reads_by_coordinates.Goals as goal

pub returns-clause-reader : goal.returns-clause-reader
returns-clause-reader c = reader_answers

pub returns-clause-writer : goal.returns-clause-writer
returns-clause-writer c = writer_answers
