use Rattle.core_agreements.proofs.TablesAnswer.{found, reader-tables, writer-tables}
use Rattle.core_agreements.proofs.law.queries_answer_by_the_record.Goals as goal

pub returns-clause-reader : goal.returns-clause-reader
returns-clause-reader c =
    λ o given later mid es client number names d asked query s groups table r held reads b answered stand makes.
    reader-tables o given later mid es names d asked query r b number s groups table held reads
    (found o given later mid es names d asked query r b client s groups answered stand) makes

pub returns-clause-writer : goal.returns-clause-writer
returns-clause-writer c =
    λ o given later mid es session statement names d asked query s groups table r w same b answered stand makes.
    writer-tables o given later mid es names d asked query r b session statement s groups table w.is_session w.held
    w.writes same w.posts (found o given later mid es names d asked query r b session s groups answered stand) makes
