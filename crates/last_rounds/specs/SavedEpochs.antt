-- The last round of a run, behind the last calls of the sessions, and the epoch up to which it left all safe.
-- Source: Cubrick (VLDB 2016), rounds of a flush that keep all up to an epoch; AOSI (ICDE 2018), LCE and LSE.
use Rattle.std.specs.Prelude.{◌≡◌, ℕ, List, [], ◌++◌, Option, Some, None, fold}
use Rattle.cube_journal.specs.declared.journal_entry.JournalEntry.{JournalEntry}
use Rattle.cube_journal.specs.declared.journal_entry.JournalEntry.TheVariants as entry
use Rattle.core_events.specs.Clients.{calls_of, client_state, held_under}
use Rattle.core_events.specs.Events.{Opening, IsSession, flusher, ClientCall, CoreEvent}
use Rattle.core_events.specs.Fitting.{IsNumberOf}
use Rattle.flush_loop.specs.RoundResults.{AreOfRound}
use Rattle.flush_loop.specs.declared.round_result.RoundResult.{RoundResult}
use Rattle.flush_loop.specs.declared.round_result.RoundResult.TheVariants as result

-- The epoch of the last Safe or Idle of a journal.
abbrev pub saved_after : Option ℕ → JournalEntry → Option ℕ
saved_after last (entry.Safe epoch) = Some epoch
saved_after last (entry.Idle epoch) = Some epoch
saved_after last _ = last

abbrev pub last_saved : List JournalEntry → Option ℕ
last_saved journal = fold saved_after None journal

-- A round ended as Safe or Idle, and so all up to the epoch is safe.
abbrev pub HasSaved : ℕ → RoundResult → Type 0
HasSaved epoch (result.Safe saved) = saved ≡ epoch
HasSaved epoch (result.Idle saved) = saved ≡ epoch
HasSaved epoch result = ⊥

-- No session holds a snapshot under a number of its own.
abbrev pub SessionsHoldNothing : Opening → List CoreEvent → Type 0
SessionsHoldNothing o es = (session number : ℕ) → IsSession o session → IsNumberOf session number
    → held_under number (client_state o session es).holds ≡ None

-- None makes a call in later events.
abbrev pub HasNoSessionCalls : Opening → List CoreEvent → Type 0
HasNoSessionCalls o later = (session : ℕ) → IsSession o session → calls_of session later ≡ []

-- The flusher's last calls in these events are those of a round that ended so.
pub record EndsByRound (o : Opening) (how : RoundResult) (later : List CoreEvent) : Type 0 where
  pub calls : List ClientCall
  pub older : List ClientCall
  pub whole : calls_of (flusher o) later ≡ calls ++ older
  pub of_round : AreOfRound how calls

-- A run whose sessions had ended, holding nothing, at a moment behind which comes the last round.
pub record EndsByLastRound (o : Opening) (how : RoundResult) (later es : List CoreEvent) : Type 0 where
  pub nothing : SessionsHoldNothing o es
  pub quiet : HasNoSessionCalls o later
  pub round : EndsByRound o how later
