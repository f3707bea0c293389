-- What a client's own calls leave in the journal.
-- Source: this project's own; AOSI (ICDE 2018) for begin, commit and abort.
use Rattle.std.specs.Prelude.{◌≡◌, ℕ, List, [], ◌∷◌}
use Rattle.aosi_desk.specs.Desks.{refusal_entry}
use Rattle.aosi_desk.specs.declared.cube.CubeAnswer.TheVariants.{Created, Exists, TooMany}
use Rattle.aosi_desk.specs.declared.cube.CubeFound.TheVariants.{Unknown}
use Rattle.aosi_desk.specs.State.{answer_entry, end_entry}
use Rattle.core_cells.specs.declared.desk.DeskAnswer.{DeskAnswer}
use Rattle.core_cells.specs.declared.desk.DeskAnswer.TheVariants as answer
use Rattle.core_cells.specs.declared.desk.DeskCall.{DeskCall}
use Rattle.core_cells.specs.declared.desk.DeskCall.TheVariants as call
use Rattle.core_program.specs.Knowing.{Knows}
use Rattle.core_events.specs.Clients.{state_from_calls}
use Rattle.core_events.specs.Events.{Opening, ClientCall}
use Rattle.core_events.specs.Jobs.{CoreJob, JobOutcome}
use Rattle.core_events.specs.ShardView.{ShardView}
use Rattle.cube_core.specs.DeskEvents.{own_epoch}
use Rattle.core_states.specs.CorePasts.{CorePast}
use Rattle.core_program.specs.CoreFits.{CoreEntry}
use Rattle.core_records.specs.OwnEntries.{entries_by_calls}
use Rattle.cube_core.specs.declared.cell.CoreCell.{CoreCell}
use Rattle.cube_core.specs.declared.shard.ShardAnswer.{ShardAnswer}
use Rattle.cube_core.specs.declared.shard.ShardCall.{ShardCall}
use Rattle.cube_journal.specs.Entries.{note_entry}
use Rattle.cube_journal.specs.declared.journal_entry.JournalEntry.{JournalEntry}
use Rattle.cube_journal.specs.declared.journal_entry.JournalEntry.TheVariants as entry
use Rattle.cube_journal.specs.declared.refusal.Refusal.TheVariants.{UnknownCube, CubeExists, TooManyCubes}

-- The entries that a client's call on the desk leaves with its answer. A writer that ends is of this epoch.
abbrev pub desk_leaves : ℕ → ℕ → DeskCall → DeskAnswer → List JournalEntry
desk_leaves a epoch (call.OpenWrite session statement) (answer.Opened s) = entry.Begin a statement s.epoch s.deps ∷ []
desk_leaves a epoch (call.OpenRead number statement) (answer.Opened s) = entry.Read number statement s.epoch ∷ []
desk_leaves a epoch (call.Commit session statement) answer.Done = entry.Committed a statement epoch ∷ []
desk_leaves a epoch (call.AbortEnd session statement cause) answer.Done = entry.Aborted a statement epoch cause ∷ []
desk_leaves a epoch (call.CloseRead number statement) answer.Done = entry.ReadEnd number statement ∷ []
desk_leaves a epoch (call.Note note) (answer.Counted shown) = note_entry note ∷ []
desk_leaves a epoch (call.CreateCube session statement decl) (answer.Created (Created made place)) =
    entry.Cube a statement made ∷ []
desk_leaves a epoch (call.CreateCube session statement decl) (answer.Created Exists) =
    refusal_entry a statement (CubeExists decl.name) ∷ []
desk_leaves a epoch (call.CreateCube session statement decl) (answer.Created TooMany) =
    refusal_entry a statement TooManyCubes ∷ []
desk_leaves a epoch (call.FindCube session statement name) (answer.Found Unknown) =
    refusal_entry a statement (UnknownCube name) ∷ []
desk_leaves a epoch call.RoundOpen (answer.Round asked) = answer_entry asked ∷ []
desk_leaves a epoch (call.RoundClose closed end) answer.Done = end_entry closed end ∷ []
desk_leaves a epoch c said = []

-- A call that commits a writer or ends an aborted one ends the client's own, which is of this epoch.
abbrev pub EndsAt : ℕ → ℕ → DeskCall → Opening → List ClientCall → Type 0
EndsAt a epoch (call.Commit session statement) o calls = own_epoch a (state_from_calls o a calls) ≡ epoch
EndsAt a epoch (call.AbortEnd session statement cause) o calls = own_epoch a (state_from_calls o a calls) ≡ epoch
EndsAt a epoch c o calls = Unit {0}

module _ {S : Type 0} (fits : Opening → ℕ → ShardCall → Type 0) (stands : Opening → ℕ → ℕ → S → ShardView → Type 0)
    (says : CoreJob → ShardAnswer → JobOutcome → Type 0) (cells : List (CoreCell S)) (caller client : ℕ) where
  -- In each run, at the moment after these calls or later, they have left just these entries.
  abbrev pub OwnCallsLeave : List CoreEntry → List JournalEntry → Type 0
  OwnCallsLeave own entries =
      Knows fits stands says cells caller client own (λ o calls. entries_by_calls o client calls ≡ entries)

  -- So it is of the calls behind a session, and of the entries behind it.
  abbrev pub Tells : CorePast → Type 0
  Tells past = OwnCallsLeave past.own past.entries

  -- The client knows the epoch of the writer that a call ends.
  abbrev pub KnowsEnd : List CoreEntry → ℕ → DeskCall → Type 0
  KnowsEnd own epoch c = Knows fits stands says cells caller client own (EndsAt client epoch c)
