use Rattle.flusher_rounds.proofs.Rounds.{may-copy, copied, refused}
use Rattle.flusher_rounds.proofs.law.rounds_copy_rows.Goals as goal

pub returns-clause-may_copy : goal.returns-clause-may_copy
returns-clause-may_copy c = may-copy

pub returns-clause-copied : goal.returns-clause-copied
returns-clause-copied c = copied

pub returns-clause-refused : goal.returns-clause-refused
returns-clause-refused c = refused
