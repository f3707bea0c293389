-- What a LOAD reads of a shelf, how it is then answered, and which file is on record of it.
-- Source: this project's own.
use Rattle.std.specs.Prelude.{◌≡◌, ◌⊎◌, ℕ, List, [], Option, Ok, Err}
use Rattle.cube_values.specs.declared.call_error.CallError.TheVariants.{Fault, NoMemory}
use Rattle.cube_journal.specs.declared.refusal.Refusal.TheVariants as refusal
use Rattle.cube_journal.specs.declared.reply.Reply.{Reply}
use Rattle.cube_journal.specs.declared.reply.Reply.TheVariants as reply
use Rattle.cube_language.specs.declared.decl.Decl.{Decl}
use Rattle.cube_language.specs.declared.statement.Statement.{Statement}
use Rattle.cube_language.specs.declared.statement.Statement.TheVariants.{Load}
use Rattle.cube_run.specs.RunRecords.{LoadedFile}
use Rattle.loaded_files.specs.LoadedFiles.{IsLoadFault, LoadAnswer, OpensLoad, loaded_file}
use Rattle.outside.specs.Counts.{Rose}
use Rattle.outside.specs.ShelfCalls.{ShelfCall}
use Rattle.outside.specs.declared.reading.FileFault.TheVariants.{Absent, TooLong, Failed}
use Rattle.session_desk.specs.FileReplies.{IsRefusedUnread}

-- A statement is a LOAD.
abbrev pub LoadsRows : Statement → Type 0
LoadsRows (Load cube path reject) = Unit {0}
LoadsRows s = ⊥

-- The path of its file.
abbrev pub path_loaded : Statement → List ℕ
path_loaded (Load cube path reject) = path
path_loaded s = []

-- How many bad records it allows.
abbrev pub allowed_loaded : Statement → ℕ
allowed_loaded (Load cube path reject) = reject
allowed_loaded s = 0

-- What is seen of a shelf before and after some calls: what it tells of its files, its calls, faults and absences.
pub record ShelfSeen : Type 0 where
  pub told : Option (List (List ℕ × List ℕ))
  pub calls : Option (List ShelfCall)
  pub new_calls : Option (List ShelfCall)
  pub faults : ℕ
  pub new_faults : ℕ
  pub absences : ℕ
  pub new_absences : ℕ

-- A shelf that gave this answer counted it.
pub record CountsLoad (seen : ShelfSeen) (answer : LoadAnswer) : Type 0 where
  pub failed : IsLoadFault answer Failed → Rose seen.faults seen.new_faults
  pub quiet : (IsLoadFault answer Failed → ⊥) → seen.new_faults ≡ seen.faults
  pub absent : IsLoadFault answer Absent → Rose seen.absences seen.new_absences
  pub present : (IsLoadFault answer Absent → ⊥) → seen.new_absences ≡ seen.absences

-- A LOAD whose file was opened is answered with how many of its records are stored, or is refused since too many are
-- bad, a shard is full, or for want of memory.
abbrev pub IsOfRecords : Reply → Type 0
IsOfRecords (reply.Loaded rows rejected first epoch) = Unit {0}
IsOfRecords (reply.Refused (refusal.TooManyRejected rejected allowed)) = Unit {0}
IsOfRecords (reply.Refused (refusal.ShardFull shard rows)) = Unit {0}
IsOfRecords (reply.Refused refusal.NoMemory) = Unit {0}
IsOfRecords said = ⊥

-- One whose file was not opened is refused for that.
abbrev pub IsAnsweredFor : LoadAnswer → Reply → Type 0
IsAnsweredFor (Ok load) said = IsOfRecords said
IsAnsweredFor (Err (Fault Absent)) said = said ≡ reply.Refused refusal.NoSuchFile
IsAnsweredFor (Err (Fault (TooLong size))) said = said ≡ reply.Refused (refusal.FileTooLong size)
IsAnsweredFor (Err (Fault Failed)) said = said ≡ reply.Refused refusal.ReadFault
IsAnsweredFor (Err NoMemory) said = said ≡ reply.Refused refusal.NoMemory

-- It opened its file, and the shelf counted what came of that.
pub record ReadsItsFile (seen : ShelfSeen) (path : List ℕ) (said : Reply) : Type 0 where
  pub decl : Decl
  pub answer : LoadAnswer
  pub opened : OpensLoad seen.told seen.calls seen.new_calls path decl answer
  pub counts : CountsLoad seen answer
  pub answered : IsAnsweredFor answer said

-- Or it did not come to its file.
pub record LeavesShelf (seen : ShelfSeen) (said : Reply) : Type 0 where
  pub calls : seen.new_calls ≡ seen.calls
  pub faults : seen.new_faults ≡ seen.faults
  pub absences : seen.new_absences ≡ seen.absences
  pub refused : IsRefusedUnread said

-- The file on record is what opening it gave; where it was not opened the LOAD is refused unread, and it may be any.
abbrev pub IsFileRead : ShelfSeen → List ℕ → Reply → LoadedFile → Type 0
IsFileRead seen path said file =
    ((read : ReadsItsFile seen path said) × (file ≡ loaded_file read.opened.given)) ⊎ LeavesShelf seen said
