-- A run of scripts as it is on record: what it began with, what its sessions asked and were answered, and what it left.
-- Source: AOSI (ICDE 2018) for what its queries see; the rest is this project's own.
use Rattle.std.specs.Prelude.{◌≡◌, ℕ, ◌-◌, ◌≤◌, Bool, true, false, List, length, map, None, Option, Some, slice_index_or}
use Rattle.std.specs.Bool.{OnTrue}
use Rattle.std.specs.List.{enumerate_from, flat_map}
use Rattle.aosi_desk.specs.Desks.{DeskState, decl_names}
use Rattle.condition_spans.specs.Codes.{lists_at}
use Rattle.core_events.specs.Events.{CoreEvent, Opening}
use Rattle.core_records.specs.CoreRecords.{record_of}
use Rattle.core_scripts.specs.ToldFiles.{ShelfTold, files_told}
use Rattle.cube_journal.specs.Legal.{IsLegal}
use Rattle.cube_journal.specs.WholeText.{whole_text}
use Rattle.cube_journal.specs.declared.counters.Counters.{Counters}
use Rattle.cube_journal.specs.declared.journal_entry.JournalEntry.{JournalEntry}
use Rattle.cube_journal.specs.declared.reply.Reply.{Reply}
use Rattle.cube_language.specs.declared.decl.Decl.{Decl}
use Rattle.cube_language.specs.declared.decl.DimDecl.{DimDecl}
use Rattle.cube_rounds.specs.Stands.{Kept}
use Rattle.cube_run.specs.FinalNames.{FinalNamesFit, HasDimension, names_at}
use Rattle.cube_run.specs.Merge.{IsMerge}
use Rattle.cube_run.specs.RunRecords.{IsLegalRun, LoadedFile, RunRecord, Sentence}
use Rattle.cube_run.specs.RunText.{AreReplies, IsText}
use Rattle.cube_values.specs.declared.row.StoredRow.{StoredRow}
use Rattle.flush_loop.specs.declared.round_result.RoundResult.{RoundResult}
use Rattle.flush_loop.specs.declared.round_result.RoundResult.TheVariants.{Idle, Safe}
use Rattle.linked_shards.specs.declared.cell.CoreShard.{CoreShard}
use Rattle.names_dict.specs.Dictionaries.{Dictionary, names_of}
use Rattle.opened_core.specs.KeptShards.{kept_in_cube}
use Rattle.run_ends.specs.AllSafeEnds.{EndsWithAllSafe}
use Rattle.query_plan.specs.Ties.{stored_for}
use Rattle.scripted_ends.specs.PlayedHistories.{IsPlayedRun, of_session}
use Rattle.scripted_pasts.specs.PlayedScripts.{AreKnownFiles}

-- The rows that are kept, cube by cube, as rows of values by the kept names.
abbrev pub kept_values : Kept → List StoredRow
kept_values kept =
    flat_map (λ p. map (stored_for p.1.name (lists_at kept.names p.0)) (kept_in_cube kept p.0))
    (enumerate_from 0 kept.cubes)

-- What is on record of a run that began with what is kept.
abbrev pub run_over : Kept → List (List Sentence) → (ℕ → ℕ → LoadedFile) → ℕ → List (List (List (List ℕ)))
    → List JournalEntry → RunRecord
run_over kept scripts file every names journal = record {
  safe = kept.epoch;
  kept = kept_values kept;
  kept_names = kept.names;
  cubes = kept.cubes;
  scripts = scripts;
  file = file;
  round_every = every;
  names = names;
  journal = journal;
}

-- The journal of a run is legal and a merge of its scripts, these are the replies to its statements, with them its text
-- is that of the run, and its dictionaries fit it.
pub record IsRunInFull (run : RunRecord) (replies : List (List Reply)) : Type 0 where
  pub legal : IsLegalRun run
  pub merge : IsMerge run
  pub answers : AreReplies run replies
  pub text : IsText run (whole_text run.safe replies run.journal)
  pub names : FinalNamesFit run

-- The dictionaries in the end, dimension by dimension.
abbrev pub AreFinalNames : RunRecord → List (List Dictionary) → Type 0
AreFinalNames run dictionaries =
    (cube place : ℕ) (d : Decl) (dim : DimDecl) → HasDimension run cube place d dim
    → names_at run.names cube place ≡ names_at (names_of dictionaries) cube place

-- What the shelf of a session tells; the first shelf is that of session 1. Of no shelf nothing is known.
abbrev pub told_to : List ShelfTold → ℕ → ShelfTold
told_to tells session = slice_index_or tells (session - 1) None

-- The LOADs of each session had their files as its own shelf tells them.
abbrev pub AreFilesOf : List ShelfTold → List (List Sentence) → List (List Reply) → (ℕ → ℕ → LoadedFile) → Type 0
AreFilesOf tells scripts replies file =
    (session : ℕ) → 1 ≤ session → session ≤ length scripts
    → AreKnownFiles (files_told (told_to tells session)) (of_session scripts session) (of_session replies session)
    (file session)

-- The last round saved all, or there was nothing to save.
abbrev pub has_saved : Option RoundResult → Bool
has_saved (Some (Safe epoch)) = true
has_saved (Some (Idle epoch)) = true
has_saved last = false

-- A run ended with all safe, and these are its shards.
pub record EndsSafe (run : RunRecord) (shards : List CoreShard) : Type 0 where
  pub final : Counters
  pub desk : DeskState
  pub ends : EndsWithAllSafe run final desk shards

-- A run that began with what is kept played these scripts with these replies, and left this. Where its last round saved
-- all, it ended with all safe.
pub record IsRunOver (kept : Kept) (every : ℕ) (tells : List ShelfTold) (scripts : List (List Sentence))
    (replies : List (List Reply)) (dictionaries : List (List Dictionary)) (journal : List JournalEntry) (saved : Bool)
    (shards : List CoreShard) : Type 0 where
  pub file : ℕ → ℕ → LoadedFile
  pub names : List (List (List (List ℕ)))
  pub files : AreFilesOf tells scripts replies file
  pub final : AreFinalNames (run_over kept scripts file every names journal) dictionaries
  pub in_full : IsRunInFull (run_over kept scripts file every names journal) replies
  pub ends : OnTrue saved (EndsSafe (run_over kept scripts file every names journal) shards)

-- What is on record of a run is just that run over what is kept.
pub record IsOnRecord (kept : Kept) (every : ℕ) (tells : List ShelfTold) (scripts : List (List Sentence))
    (replies : List (List Reply)) (dictionaries : List (List Dictionary)) (journal : List JournalEntry) (saved : Bool)
    (shards : List CoreShard) (recorded : RunRecord) : Type 0 where
  pub over : IsRunOver kept every tells scripts replies dictionaries journal saved shards
  pub same : recorded ≡ run_over kept scripts over.file every over.names journal

-- A history played the scripts with these replies, and what is on record of it is the run over what is kept.
pub record HasPlayedOver (kept : Kept) (every : ℕ) (tells : List ShelfTold) (scripts : List (List Sentence))
    (replies : List (List Reply)) (dictionaries : List (List Dictionary)) (journal : List JournalEntry) (saved : Bool)
    (shards : List CoreShard) (o : Opening) (es : List CoreEvent) : Type 0 where
  pub played : IsPlayedRun (λ session. files_told (told_to tells session)) every scripts replies o es
  pub on_record : IsOnRecord kept every tells scripts replies dictionaries journal saved shards
      (record_of o played.given es)

-- A run over these cubes has left a journal that is legal, for statements that speak of cubes of some names.
abbrev pub LeavesLegal : Kept → List JournalEntry → Type 0
LeavesLegal kept journal = (names : List (List ℕ)) × IsLegal kept.epoch (decl_names kept.cubes) names journal
