-- The steps of a session, one for each statement of its script: the statement, what the session was before, and the
-- entries of the journal that are the statement's.
-- Source: this project's own.
use Rattle.std.specs.Prelude.{ℕ, ◌+◌, Bool, false, not, ◌&&◌, ◌||◌, ◌==◌, nat_le, List, [], ◌∷◌, filter, take_while}
use Rattle.std.specs.List.{flat_map, enumerate_from}
use Rattle.std.specs.Option.{option_map_or}
use Rattle.cube_journal.specs.declared.journal_entry.JournalEntry.{JournalEntry}
use Rattle.cube_journal.specs.Entries.{is_of_session, statement_of}
use Rattle.cube_run.specs.RunRecords.{RunRecord, Sentence, LoadedFile}
use Rattle.cube_run.specs.SessionStates.{SessionState, fresh_session, first_holder, second_holder, session_after}

-- An entry is a session's, under its own number or one of its holder numbers.
abbrev pub belongs_to : ℕ → JournalEntry → Bool
belongs_to session e =
    is_of_session session e || (is_of_session (first_holder session) e || is_of_session (second_holder session) e)

-- An entry is one of the statement of this number.
abbrev pub is_of_statement : ℕ → JournalEntry → Bool
is_of_statement statement e = option_map_or (λ j. j == statement) (statement_of e) false

-- A session's part of the journal, and in it the entries of a statement.
abbrev pub session_part : ℕ → List JournalEntry → List JournalEntry
session_part session journal = filter (belongs_to session) journal

abbrev pub entries_of : ℕ → ℕ → List JournalEntry → List JournalEntry
entries_of session statement journal = filter (is_of_statement statement) (session_part session journal)

-- An entry is a session's for the statement of this number or a later one.
abbrev pub is_from : ℕ → ℕ → JournalEntry → Bool
is_from session statement e =
    belongs_to session e && option_map_or (λ j. nat_le statement j) (statement_of e) false

-- The journal before the first entry of a statement, or where it has none, before its session's next entry.
abbrev pub journal_before : ℕ → ℕ → List JournalEntry → List JournalEntry
journal_before session statement journal = take_while (λ e. not (is_from session statement e)) journal

-- A statement of a session with its number, what it says, its file if it is a LOAD, what the session was before, and
-- the entries that it left.
pub record SessionStep : Type 0 where
  pub session : ℕ
  pub number : ℕ
  pub sentence : Sentence
  pub file : LoadedFile
  pub state : SessionState
  pub entries : List JournalEntry

-- The step of a session at a statement.
abbrev pub step_at : RunRecord → ℕ → ℕ → SessionState → Sentence → SessionStep
step_at run session number state sentence = record {
  session = session;
  number = number;
  sentence = sentence;
  file = run.file session number;
  state = state;
  entries = entries_of session number run.journal;
}

-- The state of the session after a step.
abbrev pub state_after_step : SessionStep → SessionState
state_after_step step = session_after step.state step.sentence step.entries

-- The steps of a session from the statement of a number and a state on.
abbrev pub steps_from : RunRecord → ℕ → ℕ → SessionState → List Sentence → List SessionStep
steps_from run session number state [] = []
steps_from run session number state (sentence ∷ script) =
    let step = step_at run session number state sentence in
    step ∷ steps_from run session (number + 1) (state_after_step step) script

-- The state of the session after all of them.
abbrev pub last_state : SessionState → List SessionStep → SessionState
last_state state [] = state
last_state state (step ∷ steps) = last_state (state_after_step step) steps

-- The steps of a session with this script.
abbrev pub steps_of : RunRecord → ℕ → List Sentence → List SessionStep
steps_of run session script = steps_from run session 1 fresh_session script

-- The steps of all sessions.
abbrev pub all_steps : RunRecord → List SessionStep
all_steps run = flat_map (λ p. steps_of run p.0 p.1) (enumerate_from 1 run.scripts)
