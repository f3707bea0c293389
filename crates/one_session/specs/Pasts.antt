-- What the one session of a run has behind it, and the runs that may go on from there.
-- Source: this project's own. A promise of what was done speaks of every run that begins with it, as with prophecy
-- variables (Abadi and Lamport, 1991).
use Rattle.std.specs.Prelude.{◌≡◌, ℕ, ◌+◌, ◌≤◌, Bool, true, false, ◌||◌, is_none, List, [], ◌∷◌, ◌++◌, length, take}
use Rattle.std.specs.List.{list_all}
use Rattle.cube_values.specs.declared.row.StoredRow.{StoredRow}
use Rattle.cube_language.specs.declared.decl.Decl.{Decl}
use Rattle.cube_language.specs.declared.decl.DimDecl.{DimDecl}
use Rattle.cube_journal.specs.Entries.{session_of}
use Rattle.cube_journal.specs.Legal.{CountersAllowAll}
use Rattle.cube_journal.specs.declared.journal_entry.JournalEntry.{JournalEntry}
use Rattle.cube_run.specs.FinalNames.{HasDimension, IsDictionary, names_at}
use Rattle.cube_run.specs.RunRecords.{RunRecord, Sentence, LoadedFile, Missing}
use Rattle.cube_run.specs.SessionSteps.{belongs_to, entries_of, session_part}
use Rattle.played_scripts.specs.PlayedRuns.{AreNumbered}

-- What stands at the beginning of a run: the safe epoch, the rows and names that are kept, the cubes, and after how many
-- commits of a session a round follows.
pub record Beginning : Type 0 where
  pub safe : ℕ
  pub kept : List StoredRow
  pub kept_names : List (List (List (List ℕ)))
  pub cubes : List Decl
  pub round_every : ℕ

-- What the session has behind it: its statements, what the file of each LOAD gave, by the statement's number, the
-- journal, and the dictionaries.
pub record SessionPast : Type 0 where
  pub sentences : List Sentence
  pub files : ℕ → LoadedFile
  pub journal : List JournalEntry
  pub names : List (List (List (List ℕ)))

-- The number of the statement behind it that was the last.
abbrev pub last_number : SessionPast → ℕ
last_number past = length past.sentences

-- A number is that of a statement behind it.
abbrev pub IsNumberBehind : SessionPast → ℕ → Type 0
IsNumberBehind past number = (1 ≤ number) × (number ≤ last_number past)

-- What stands at the beginning of this run.
abbrev pub beginning_of : RunRecord → Beginning
beginning_of run = record {
  safe = run.safe;
  kept = run.kept;
  kept_names = run.kept_names;
  cubes = run.cubes;
  round_every = run.round_every;
}

-- Nothing is behind a session at the beginning of its run.
abbrev pub nothing_behind : Beginning → SessionPast
nothing_behind beginning =
    record { sentences = []; files = λ number. Missing; journal = []; names = beginning.kept_names }

-- A dictionary that a run ends with is one of its dimension, and begins with the names that it had. It has none where
-- the dimension is of numbers.
pub record EndsAs (dim : DimDecl) (before names : List (List ℕ)) : Type 0 where
  pub dictionary : IsDictionary dim before names
  pub numbers : dim.text ≡ false → names ≡ []

-- Each of them does so.
abbrev pub EndsWithMore : RunRecord → List (List (List (List ℕ))) → Type 0
EndsWithMore run names =
    (cube place : ℕ) (d : Decl) (dim : DimDecl) → HasDimension run cube place d dim
    → EndsAs dim (names_at names cube place) (names_at run.names cube place)

-- A run of one session goes on from there: it began so, its script begins with the statements behind it, their files
-- gave what they gave, its journal is legal by its counters and begins with what it was, none of these statements has
-- an entry more, and the dictionaries begin with what they had.
pub record GoesOn (beginning : Beginning) (past : SessionPast) (run : RunRecord) : Type 0 where
  pub safe : run.safe ≡ beginning.safe
  pub kept : run.kept ≡ beginning.kept
  pub kept_names : run.kept_names ≡ beginning.kept_names
  pub cubes : run.cubes ≡ beginning.cubes
  pub round_every : run.round_every ≡ beginning.round_every
  pub rest : List Sentence
  pub script : run.scripts ≡ (past.sentences ++ rest) ∷ []
  pub files : (number : ℕ) → IsNumberBehind past number → run.file 1 number ≡ past.files number
  pub later : List JournalEntry
  pub journal : run.journal ≡ past.journal ++ later
  pub others : (number : ℕ) → IsNumberBehind past number → entries_of 1 number later ≡ []
  pub legal : CountersAllowAll run.safe [] run.journal
  pub names : EndsWithMore run past.names

-- The session's entries are those of the statements behind it, in their order.
abbrev pub IsInTurn : SessionPast → Type 0
IsInTurn past = AreNumbered 1 (last_number past) (session_part 1 past.journal)

-- An entry is the session's or the flusher's.
abbrev pub has_one_owner : JournalEntry → Bool
has_one_owner e = belongs_to 1 e || is_none (session_of e)

-- Each entry behind is.
abbrev pub IsOwned : SessionPast → Type 0
IsOwned past = list_all has_one_owner past.journal ≡ true

-- Each dictionary begins with the names that it had.
abbrev pub NamesOnlyCome : List (List (List (List ℕ))) → List (List (List (List ℕ))) → Type 0
NamesOnlyCome before after =
    (cube place : ℕ)
    → take (length (names_at before cube place)) (names_at after cube place) ≡ names_at before cube place

-- One statement more is behind the session. The journal gained these entries, of which the session's are the
-- statement's.
pub record IsOneMore (before after : SessionPast) (sentence : Sentence) (added : List JournalEntry) : Type 0 where
  pub sentences : after.sentences ≡ before.sentences ++ sentence ∷ []
  pub files : (number : ℕ) → IsNumberBehind before number → after.files number ≡ before.files number
  pub journal : after.journal ≡ before.journal ++ added
  pub own : AreNumbered (last_number before + 1) (last_number before + 1) (session_part 1 added)
  pub names : NamesOnlyCome before.names after.names
