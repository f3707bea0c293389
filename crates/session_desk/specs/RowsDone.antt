-- A statement on rows is executed: the dictionaries may gain names by it, and rows a change.
-- Source: this project's own.
use Rattle.std.specs.Prelude.{◌≡◌, ℕ, ◌+◌, ◌≤◌, true, false, ◌==◌, List, [], ◌∷◌, ◌++◌, Option, Some, None, if◌then◌else◌}
use Rattle.std.specs.List.{filter_map, list_all, list_any}
use Rattle.cube_journal.specs.declared.journal_entry.JournalEntry.{JournalEntry}
use Rattle.cube_run.specs.RunRecords.{LoadedFile, RunRecord, Sentence, made_by}
use Rattle.cube_run.specs.RunTransactions.{DoneOperation}
use Rattle.cube_run.specs.SessionStates.{session_after}
use Rattle.cube_run.specs.SessionSteps.{session_part}
use Rattle.played_scripts.specs.PlayedRuns.{AreNumbered}
use Rattle.one_session.specs.Changes.{is_begin_of}
use Rattle.one_session.specs.Pasts.{SessionPast, has_one_owner, last_number}
use Rattle.aosi_desk.specs.State.{state_of}
use Rattle.aosi_desk.specs.Desks.{DeskState, speaks_of_cubes}
use Rattle.session_replies.specs.Modes.{mode_of}
use Rattle.session_desk.specs.declared.session.Session.{Session}
use Rattle.session_desk.specs.AtDesk.{change_epoch, desk_with_entries}
use Rattle.session_desk.specs.Standing.{session_state}

-- What is behind the session with one statement more, with what its file gave and the dictionaries after it.
abbrev pub past_with : SessionPast → Sentence → LoadedFile → List JournalEntry → List (List (List (List ℕ)))
    → SessionPast
past_with past sentence file added names = record {
  sentences = past.sentences ++ sentence ∷ [];
  files = λ number. if number == last_number past + 1 then file else past.files number;
  journal = past.journal ++ added;
  names = names;
}

-- The desk has these entries more, which are the statement's or the flusher's, make no cube and speak of none, and the
-- session is as they make it.
pub record AddsEntries (sentence : Sentence) (added : List JournalEntry) (desk : DeskState) (session : Session)
    (new_desk : DeskState) (now : Session) : Type 0 where
  pub desk_is : new_desk ≡ desk_with_entries desk added
  pub statements : now.statements ≡ session.statements + 1
  pub every : now.round_every ≡ session.round_every
  pub becomes : session_state now ≡ session_after (session_state session) sentence (session_part 1 added)
  pub own : AreNumbered now.statements now.statements (session_part 1 added)
  pub owners : list_all has_one_owner added ≡ true
  pub no_cube : (run : RunRecord) → filter_map (made_by run) added ≡ []
  pub speaks_of_none : list_any speaks_of_cubes added ≡ false

-- The operations done after a statement.
abbrev pub done_with : List DoneOperation → Option DoneOperation → List DoneOperation
done_with done None = done
done_with done (Some o) = done ++ o ∷ []

-- An operation has an epoch from one next one up to another, and its transaction was begun.
pub record IsNextChange (o : DoneOperation) (low high : ℕ) (part : List JournalEntry) : Type 0 where
  pub above : low ≤ o.epoch
  pub below : o.epoch ≤ high
  pub begun : list_any (is_begin_of o.epoch) part ≡ true

-- The epoch of the next change does not fall, and a change that is done has one between.
abbrev pub EpochsRise : Option DoneOperation → ℕ → ℕ → List JournalEntry → Type 0
EpochsRise None low high part = low ≤ high
EpochsRise (Some o) low high part = IsNextChange o low high part

-- The epoch that the next change has.
abbrev pub next_change : DeskState → Session → ℕ
next_change desk session = change_epoch (state_of desk.register) (mode_of session.mode)
