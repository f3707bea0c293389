-- What is known of the file of a LOAD that a session reads from its shelf.
-- Source: this project's own.
use Rattle.std.specs.Prelude.{◌≡◌, ◌⊎◌, ℕ, List, Option, Some}
use Rattle.cube_journal.specs.declared.reply.Reply.{Reply}
use Rattle.cube_language.specs.declared.statement.Statement.TheVariants.{Load}
use Rattle.cube_run.specs.RunRecords.{LoadedFile, Says, Sentence}
use Rattle.loaded_files.specs.LoadedFiles.{loaded_file}
use Rattle.loaded_files.specs.declared.reading.TheConstants.{LOADED_BYTES}
use Rattle.outside.specs.Files.{content_of}
use Rattle.outside.specs.Given.{given_by}
use Rattle.scripted_pasts.specs.PlayedScripts.{FileClaim}
use Rattle.session_desk.specs.FileReplies.{IsRefusedUnread}

-- What a shelf tells of its files, if it tells them: their names and their bytes.
abbrev pub ShelfTold : Type 0
ShelfTold = Option (List (List ℕ × List ℕ))

-- The file of a LOAD is as the shelf tells it, where the shelf tells its files; or the LOAD is refused and its file is not
-- read. No other statement has a file.
abbrev pub IsFileTold : ShelfTold → Sentence → Reply → LoadedFile → Type 0
IsFileTold told (Says (Load cube path reject)) said file =
    ((files : List (List ℕ × List ℕ)) → told ≡ Some files
    → file ≡ loaded_file (given_by LOADED_BYTES (content_of files path)))
    ⊎ IsRefusedUnread said
IsFileTold told sentence said file = Unit {0}

-- So it is of each statement of a session.
abbrev pub files_told : ShelfTold → FileClaim
files_told told number sentence said file = IsFileTold told sentence said file
