use Rattle.core_agreements.proofs.TablesAnswer.{reader-tables, writer-tables}
use Rattle.core_agreements.proofs.law.tables_answer_by_the_record.Goals as goal

pub returns-clause-reader : goal.returns-clause-reader
returns-clause-reader c =
    λ o given later mid es number names d asked query s groups table r held reads b stand makes.
    reader-tables o given later mid es names d asked query r b number s groups table held reads stand makes

pub returns-clause-writer : goal.returns-clause-writer
returns-clause-writer c =
    λ o given later mid es session statement names d asked query s groups table r w same b stand makes.
    writer-tables o given later mid es names d asked query r b session statement s groups table w.is_session w.held
    w.writes same w.posts stand makes
