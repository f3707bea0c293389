use Rattle.flusher_rounds.proofs.Replies.{nothing-to-save, round-saved, store-lost, no-memory, says-later}
use Rattle.flusher_rounds.proofs.reply_law.flushes_are_answered_by_rounds.Goals as goal

pub returns-clause-nothing : goal.returns-clause-nothing
returns-clause-nothing c = nothing-to-save

pub returns-clause-saved : goal.returns-clause-saved
returns-clause-saved c = round-saved

pub returns-clause-store_lost : goal.returns-clause-store_lost
returns-clause-store_lost c = store-lost

pub returns-clause-no_memory : goal.returns-clause-no_memory
returns-clause-no_memory c = no-memory

pub returns-clause-later : goal.returns-clause-later
returns-clause-later c = says-later
