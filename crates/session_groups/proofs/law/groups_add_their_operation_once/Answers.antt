use Rattle.session_groups.proofs.AddedOperations.{drop-operations, rollback-operations, scan-operations}
use Rattle.session_groups.proofs.law.groups_add_their_operation_once.Goals as goal

pub returns-clause-scan : goal.returns-clause-scan
returns-clause-scan c = scan-operations

pub returns-clause-rollback : goal.returns-clause-rollback
returns-clause-rollback c = rollback-operations

pub returns-clause-deletion : goal.returns-clause-deletion
returns-clause-deletion c = λ cells caller session shards own now cube shape box s.
    drop-operations cells caller session shards own now cube shape box s
