use Rattle.core_serial.proofs.NoteCalls.{note-allowed, note-silent, commit-held, abort-held}
use Rattle.core_serial.proofs.journal.notes_and_ends_meet_their_conditions.Goals as goal

pub returns-clause-notes : goal.returns-clause-notes
returns-clause-notes c = note-allowed

pub returns-clause-others : goal.returns-clause-others
returns-clause-others c = note-silent

pub returns-clause-commits : goal.returns-clause-commits
returns-clause-commits c = commit-held

pub returns-clause-aborts : goal.returns-clause-aborts
returns-clause-aborts c = abort-held
