use Rattle.flusher_rounds.proofs.Replies.{nothing, opened, saved, stays, within, leaves}
use Rattle.flusher_rounds.proofs.reply_law.rounds_progress_by_calls.Goals as goal

pub returns-clause-nothing : goal.returns-clause-nothing
returns-clause-nothing c = nothing

pub returns-clause-opened : goal.returns-clause-opened
returns-clause-opened c = opened

pub returns-clause-saved : goal.returns-clause-saved
returns-clause-saved c = saved

pub returns-clause-stays : goal.returns-clause-stays
returns-clause-stays c = stays

pub returns-clause-within : goal.returns-clause-within
returns-clause-within c = within

pub returns-clause-leaves : goal.returns-clause-leaves
returns-clause-leaves c = leaves
