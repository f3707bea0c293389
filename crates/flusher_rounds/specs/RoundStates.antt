-- What the flusher knows of its round between two of its calls, as six states, and which calls lead from one to the
-- other.
--
--   in state                 it makes                             and then is in state
--   HasNoRound               RoundOpen                            HasRound, or where there is nothing to save
--                                                                 HasNoRound
--                            Counters                             HasNoRound
--   HasRound                 a copy on each shard                 HasCopiedRows, or where one was refused
--                                                                 LacksRows
--   HasCopiedRows            CubesFrom                            HasCopiedCubes
--   HasCopiedCubes           CubesFrom, CopyFrom                  HasCopiedCubes
--   any of these in a round  RoundClose                           HasNoRound, or where it is lost to the disk
--                                                                 HasLostStore
--
-- In every state it asks whether the store has failed, and stays where it is. A call that is answered out of memory
-- changes nothing. Once it has lost the store it opens no round. It asks no shard to purge: sessions do.
-- Source: Cubrick (VLDB 2016), rounds of a flush that keep all up to an epoch; the states are this project's own.
use Rattle.std.specs.Prelude.{◌≡◌, ℕ, Bool, true, false, Some, None}
use Rattle.core_cells.specs.declared.names.NamesAnswer.{NamesAnswer}
use Rattle.core_cells.specs.declared.names.NamesCall.{NamesCall}
use Rattle.core_serial.specs.Copies.{HasCopied}
use Rattle.core_events.specs.Clients.{OwnRound, ClientState, after_client_call}
use Rattle.core_events.specs.Events.{Opening, flusher}
use Rattle.core_events.specs.Groups.{has_refusal, is_empty, is_ready}
use Rattle.cube_core.specs.NamesEvents.{names_event}

-- No round is open, a round was lost to the disk or none was, and the last group has ended with no write refused.
pub record IsBetweenRounds (o : Opening) (lost : Bool) (k : ClientState) : Type 0 where
  pub none : k.round ≡ None
  pub store : k.store_lost ≡ lost
  pub ready : is_ready o.shards k.group ≡ true

abbrev pub HasNoRound : Opening → ClientState → Type 0
HasNoRound o k = IsBetweenRounds o false k

abbrev pub HasLostStore : Opening → ClientState → Type 0
HasLostStore o k = IsBetweenRounds o true k

-- The round from the latest safe epoch up to its target, before or after its cubes are copied.
abbrev pub round_up_to : ℕ → ℕ → Bool → OwnRound
round_up_to from epoch has_cubes = record { from = from; epoch = epoch; has_cubes = has_cubes }

-- This round is open, none was lost to the disk, and no answer of a shard is out.
pub record IsInRound (from epoch : ℕ) (has_cubes : Bool) (k : ClientState) : Type 0 where
  pub round : k.round ≡ Some (round_up_to from epoch has_cubes)
  pub store : k.store_lost ≡ false
  pub fetched : is_empty k.group.waits ≡ true

-- Its cubes are not copied, and its rows may be.
pub record HasRound (o : Opening) (from epoch : ℕ) (k : ClientState) : Type 0 where
  pub within : IsInRound from epoch false k
  pub ready : is_ready o.shards k.group ≡ true

-- A shard refused to copy its rows: they may be copied anew, or the round is lost.
pub record LacksRows (o : Opening) (from epoch : ℕ) (k : ClientState) : Type 0 where
  pub has : HasRound o from epoch k
  pub refused : has_refusal k.group.answers ≡ true

-- Each shard has copied its rows above the epoch `start` up to the target. What the copies then keep is the law
-- `rounds_keep_committed_transactions`.
pub record HasRoundCopies (o : Opening) (from epoch start : ℕ) (has_cubes : Bool) (k : ClientState) : Type 0 where
  pub within : IsInRound from epoch has_cubes k
  pub copied : HasCopied o.shards start epoch k.group

abbrev pub HasCopiedRows : Opening → ℕ → ℕ → ℕ → ClientState → Type 0
HasCopiedRows o from epoch start k = HasRoundCopies o from epoch start false k

abbrev pub HasCopiedCubes : Opening → ℕ → ℕ → ℕ → ClientState → Type 0
HasCopiedCubes o from epoch start k = HasRoundCopies o from epoch start true k

-- What the flusher knows after a call on the names with its answer.
abbrev pub after_names_call : Opening → NamesCall → NamesAnswer → ClientState → ClientState
after_names_call o c said k = after_client_call o (flusher o) (names_event c said) k
