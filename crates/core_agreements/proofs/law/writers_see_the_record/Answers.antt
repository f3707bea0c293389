use Rattle.core_agreements.proofs.SeenRecords.{writer-sees}
use Rattle.core_agreements.proofs.law.writers_see_the_record.Goals as goal

pub returns : goal.returns
returns c =
    λ o given later es session statement cube d s r w is.
    writer-sees o given later es r session statement cube d s w.is_session w.held w.writes is w.posts
