-- What a session of the core has behind it.
-- Source: this project's own. A promise of what was done speaks of every run that begins with it, as with prophecy
-- variables (Abadi and Lamport, 1991).
use Rattle.std.specs.Prelude.{◌≡◌, ℕ, ◌+◌, ◌≤◌, List, [], ◌∷◌, ◌++◌, length}
use mathlib.Core.List.{IsPrefix}
use Rattle.cube_journal.specs.declared.journal_entry.JournalEntry.{JournalEntry}
use Rattle.cube_run.specs.RunRecords.{Sentence, LoadedFile, Missing}
use Rattle.cube_run.specs.SessionStates.{SessionState}
use Rattle.cube_run.specs.SessionSteps.{SessionStep}
use Rattle.played_scripts.specs.PlayedRuns.{AreNumbered}
use Rattle.core_program.specs.CoreFits.{CoreEntry}

-- Its statements, what the file of each LOAD gave, by the statement's number, its own calls with their answers, and the
-- entries that these left in the journal.
pub record CorePast : Type 0 where
  pub sentences : List Sentence
  pub files : ℕ → LoadedFile
  pub own : List CoreEntry
  pub entries : List JournalEntry

-- The number of the statement behind it that was the last.
abbrev pub last_number : CorePast → ℕ
last_number past = length past.sentences

-- A number is that of a statement behind it.
abbrev pub IsNumberBehind : CorePast → ℕ → Type 0
IsNumberBehind past number = (1 ≤ number) × (number ≤ last_number past)

-- Nothing is behind a session before its first call.
abbrev pub nothing_behind : CorePast
nothing_behind = record { sentences = []; files = λ number. Missing; own = []; entries = [] }

-- The entries are those of the statements behind it, in their order.
abbrev pub IsInTurn : CorePast → Type 0
IsInTurn past = AreNumbered 1 (last_number past) past.entries

-- One statement more is behind the session: its calls went on, and have left these entries of the statement.
pub record IsOneMore (before after : CorePast) (sentence : Sentence) (added : List JournalEntry) : Type 0 where
  pub sentences : after.sentences ≡ before.sentences ++ sentence ∷ []
  pub files : (number : ℕ) → IsNumberBehind before number → after.files number ≡ before.files number
  pub own : IsPrefix before.own after.own
  pub entries : after.entries ≡ before.entries ++ added
  pub numbered : AreNumbered (last_number before + 1) (last_number before + 1) added

-- The step of the statement that came last, by what the session was before and the entries that were added.
abbrev pub last_step : ℕ → CorePast → SessionState → Sentence → List JournalEntry → SessionStep
last_step session past state sentence added = record {
  session = session;
  number = last_number past;
  sentence = sentence;
  file = past.files (last_number past);
  state = state;
  entries = added;
}
