-- How a round ended, by the flusher's calls in it, and what it then replies to the FLUSH that asked for it.
--
--   the round ended     among its calls it                                          and is replied as
--   Safe                opened a round up to the epoch, and closed it as safe       Done
--   Idle                was told that there is nothing to save                      Done
--   Lost                opened a round, and closed it as lost                       StoreFailed by the disk, else NoMemory
--   NoMemory            opened none                                                 NoMemory
--
-- Source: Cubrick (VLDB 2016), rounds of a flush that keep all up to an epoch; the replies are this project's own.
use Rattle.std.specs.Prelude.{◌≡◌, ℕ, Bool, true, false, List, ◌∷◌, ◌++◌}
use Rattle.std.specs.List.{AllByRecursion}
use Rattle.aosi_desk.specs.declared.answer.RoundAnswer.TheVariants.{Target, Nothing}
use Rattle.aosi_desk.specs.declared.answer.RoundEnd.{RoundEnd}
use Rattle.aosi_desk.specs.declared.answer.RoundEnd.TheVariants as end
use Rattle.core_events.specs.Events.{RoundOpen, RoundClose, ClientCall, OnDesk}
use Rattle.core_events.specs.Jobs.{Done, JobOutcome, OutOfMemory, StoreLost}
use Rattle.cube_core.specs.declared.jobs.FlushAnswer.{FlushAnswer}
use Rattle.cube_core.specs.declared.jobs.FlushAnswer.TheVariants as flush
use Rattle.cube_journal.specs.declared.journal_entry.LostCause.TheVariants.{Disk, Memory}
use Rattle.flush_loop.specs.declared.round_result.RoundResult.{RoundResult}
use Rattle.flush_loop.specs.declared.round_result.RoundResult.TheVariants.{Safe, Idle, Lost, NoMemory}
use Rattle.flusher_rounds.specs.FlushReplies.{IsWithinRound}

-- The calls, the newest first, open a round up to the epoch and close it so, and open and close no other.
pub record HaveClosedRound (epoch : ℕ) (how : RoundEnd) (calls : List ClientCall) : Type 0 where
  pub from : ℕ
  pub later : List ClientCall
  pub between : List ClientCall
  pub earlier : List ClientCall
  pub whole : calls ≡ later ++ OnDesk (RoundClose epoch how)
      ∷ (between ++ OnDesk (RoundOpen (Target from epoch)) ∷ earlier)
  pub after : AllByRecursion IsWithinRound later
  pub within : AllByRecursion IsWithinRound between
  pub before : AllByRecursion IsWithinRound earlier

-- They ask for a round once, and all up to the epoch is safe already.
pub record HaveFoundNothing (epoch : ℕ) (calls : List ClientCall) : Type 0 where
  pub later : List ClientCall
  pub earlier : List ClientCall
  pub whole : calls ≡ later ++ OnDesk (RoundOpen (Nothing epoch)) ∷ earlier
  pub after : AllByRecursion IsWithinRound later
  pub before : AllByRecursion IsWithinRound earlier

-- They are those of a round that ended so.
abbrev pub AreOfRound : RoundResult → List ClientCall → Type 0
AreOfRound (Safe epoch) calls = HaveClosedRound epoch end.Safe calls
AreOfRound (Idle epoch) calls = HaveFoundNothing epoch calls
AreOfRound (Lost cause) calls = (epoch : ℕ) × HaveClosedRound epoch (end.Lost cause) calls
AreOfRound NoMemory calls = AllByRecursion IsWithinRound calls

-- It lost the store: the round was lost to the disk.
abbrev pub loses_store : RoundResult → Bool
loses_store (Lost Disk) = true
loses_store result = false

-- What is replied, and the outcome for which that stands.

abbrev pub flush_answer : RoundResult → FlushAnswer
flush_answer (Safe epoch) = flush.Done
flush_answer (Idle epoch) = flush.Done
flush_answer (Lost Disk) = flush.StoreFailed
flush_answer (Lost Memory) = flush.NoMemory
flush_answer NoMemory = flush.NoMemory

abbrev pub flush_outcome : RoundResult → JobOutcome
flush_outcome (Safe epoch) = Done
flush_outcome (Idle epoch) = Done
flush_outcome (Lost Disk) = StoreLost
flush_outcome (Lost Memory) = OutOfMemory
flush_outcome NoMemory = OutOfMemory
