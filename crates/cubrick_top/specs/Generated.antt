-- A run over generated rows: its files, its scripts, and the text that it comes to.
-- Source: this project's own.
use Rattle.std.specs.Prelude.{◌≡◌, ◌⊎◌, ℕ, Bool, true, false, List, [], ◌∷◌, ◌++◌, ◌&&◌, ◌==◌, codes, decimal, if◌then◌else◌, length, map, Option, Some, None, unwrap_or}
use Rattle.std.specs.List.{AllByRecursion}
use Rattle.cube_gen.specs.Generated.{part_name, part_text, script_text, visits}
use Rattle.cube_journal.specs.Counters.{counters}
use Rattle.cube_journal.specs.WholeText.{generated_text}
use Rattle.cube_journal.specs.declared.journal_entry.JournalEntry.{JournalEntry}
use Rattle.cube_journal.specs.declared.reply.Reply.{Reply}
use Rattle.cube_journal.specs.declared.reply.Reply.TheVariants as reply
use Rattle.cube_language.specs.Cubes.{cubes_text}
use Rattle.cube_rounds.specs.Stands.{kept_of_cubes}
use Rattle.cube_values.specs.declared.table.Field.{Field}
use Rattle.linked_shards.specs.declared.cell.CoreShard.{CoreShard}
use Rattle.names_dict.specs.Dictionaries.{Dictionary}
use Rattle.outside.specs.Output.{Gained, GainedPrefix}
use Rattle.outside.specs.Memory.{ShelfState}
use Rattle.played_runs.specs.ReadySessions.{sentences_of}
use Rattle.played_runs.specs.RunsOnRecord.{IsRunOver}
use Rattle.run_files.specs.Readings.{IsToldAs}
use Rattle.run_files.specs.RunFiles.{FileReading, RunFile}
use Rattle.run_inputs.specs.ReadInputs.{GiveRunInput, files_of_run}
use Rattle.run_inputs.specs.declared.inputs.RunInput.{RunInput}
use Rattle.run_words.specs.declared.command.GenerateCommand.{GenerateCommand}
use Rattle.cubrick_top.specs.PlayedEnds.{LeavesNothing}
use Rattle.cubrick_top.specs.declared.fault.Fault.{Fault}
use Rattle.cubrick_top.specs.declared.fault.Fault.TheVariants.{OutputFault, NoMemory}
use Rattle.cubrick_top.specs.declared.fault.Finish.{Finish}
use Rattle.cubrick_top.specs.declared.generating.TheConstants.{CUBES}

-- The query that the first session asks once all have loaded their files.
abbrev pub closing_query : List ℕ
closing_query = codes "SELECT region, SUM(likes), COUNT(*) FROM visits GROUP BY region"

-- The name of a session's script.
abbrev pub script_name : ℕ → List ℕ
script_name session = codes "session" ++ (decimal session ++ codes ".sql")

-- The scripts by their names. Each loads the file of its session, and the first one asks in the end.
abbrev pub first_script : List ℕ
first_script = script_text 1 ++ closing_query

abbrev pub script_file : ℕ → List ℕ × List ℕ
script_file session = (script_name session, script_text session)

abbrev pub script_names : List (List ℕ)
script_names = script_name 1 ∷ script_name 2 ∷ script_name 3 ∷ script_name 4 ∷ []

-- The file of a session's part of the rows, by its name.
abbrev pub part_file : ℕ → ℕ → List ℕ × List ℕ
part_file rows session = (part_name session, part_text rows session)

-- The files of the first shelf: the cubes file, the scripts, and the first session's part of so many rows.
abbrev pub generated_files : ℕ → List (List ℕ × List ℕ)
generated_files rows =
    (CUBES.now, cubes_text (visits ∷ [])) ∷ (script_name 1, first_script) ∷ script_file 2 ∷ script_file 3 ∷ script_file 4
    ∷ part_file rows 1 ∷ []

-- What the shelves of the sessions tell: each has the part of its own.
abbrev pub generated_shelves : ℕ → List (Option (List (List ℕ × List ℕ)))
generated_shelves rows =
    Some (generated_files rows) ∷ Some (part_file rows 2 ∷ []) ∷ Some (part_file rows 3 ∷ []) ∷ Some (part_file rows 4 ∷ [])
    ∷ []

-- What a shelf in memory tells.
abbrev pub files_told : ShelfState → Option (List (List ℕ × List ℕ))
files_told shelf = Some shelf.files

-- These files give this.
pub record ReadsGenerated (rows : ℕ) (input : RunInput) : Type 0 where
  pub reading : RunFile → FileReading
  pub as_told : AllByRecursion (λ file. IsToldAs (Some (generated_files rows)) file (reading file))
      (files_of_run CUBES.now script_names)
  pub given : GiveRunInput CUBES.now script_names reading input

-- The scripts were played over them, with these replies, and left this, with as many shards as were asked for. Where the
-- last round saved all, the run ended with all safe.
pub record PlaysGenerated (command : GenerateCommand) (replies : List (List Reply)) (names : List (List Dictionary))
    (journal : List JournalEntry) (saved : Bool) (shards : List CoreShard) : Type 0 where
  pub input : RunInput
  pub read : ReadsGenerated command.rows input
  pub all_shards : length shards ≡ command.settings.shards
  pub run : IsRunOver (kept_of_cubes input.cubes.items) (unwrap_or command.settings.round_every 0)
      (generated_shelves command.rows) (map sentences_of input.scripts.items) replies names journal saved shards

-- A session stored its file.
abbrev pub is_stored : List Reply → Bool
is_stored (reply.Loaded a b c d ∷ []) = true
is_stored replies = false

-- The lines of the closing query, where the first session stored its file, and then read at this epoch.
abbrev pub lines_at : ℕ → List Reply → Option (List (List Field))
lines_at latest (reply.Loaded a b c d ∷ reply.Rows epoch lines ∷ []) = if epoch == latest then Some lines else None
lines_at latest replies = None

-- The lines of the closing query at an epoch, where all four files were stored.
abbrev pub closing_lines : ℕ → List (List Reply) → Option (List (List Field))
closing_lines latest (first ∷ second ∷ third ∷ fourth ∷ []) =
    if is_stored second && (is_stored third && is_stored fourth) then lines_at latest first else None
closing_lines latest replies = None

-- The text over these replies and this journal: all files were stored, and it has the lines of the closing query at the
-- last committed epoch, so that it saw them all.
pub record HasClosingLines (rows : ℕ) (replies : List (List Reply)) (journal : List JournalEntry) (text : List ℕ)
    : Type 0 where
  pub lines : List (List Field)
  pub closing : closing_lines (counters 0 journal).lce replies ≡ Some lines
  pub text_is : text ≡ generated_text 0 rows lines journal

-- The scripts were played over the files, and this is the text.
pub record HasGeneratedText (command : GenerateCommand) (saved : Bool) (finish : Finish) (text : List ℕ) : Type 0 where
  pub replies : List (List Reply)
  pub plays : PlaysGenerated command replies finish.names finish.journal.items saved finish.shards.items
  pub shown : HasClosingLines command.rows replies finish.journal.items text

-- What was written of a text; where memory ran out in the last round it is whole.
abbrev pub IsWrittenFirst : Option (List ℕ) → List ℕ → Option (List ℕ) → Option Fault → Type 0
IsWrittenFirst taken text now None = Gained taken text now
IsWrittenFirst taken text now (Some OutputFault) = GainedPrefix taken text now
IsWrittenFirst taken text now (Some NoMemory) = Gained taken text now
IsWrittenFirst taken text now (Some fault) = ⊥

-- How a run over generated rows ended, and what was written.
abbrev pub GeneratedEnds : GenerateCommand → Option (List ℕ) → Option (List ℕ) → Finish → Option Fault → Type 0
GeneratedEnds command taken now finish None =
    (text : List ℕ) × HasGeneratedText command true finish text × Gained taken text now
GeneratedEnds command taken now finish (Some OutputFault) =
    (text : List ℕ) × HasGeneratedText command false finish text × GainedPrefix taken text now
GeneratedEnds command taken now finish (Some NoMemory) =
    (LeavesNothing finish × Gained taken [] now)
    ⊎ ((text : List ℕ) × HasGeneratedText command false finish text × Gained taken text now)
GeneratedEnds command taken now finish (Some fault) = ⊥
