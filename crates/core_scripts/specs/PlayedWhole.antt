-- A session that has played its script to the end, as the work of a caller of the core.
-- Source: this project's own.
use Rattle.std.specs.Prelude.{◌≡◌, ◌+◌, ◌≤◌, ℕ, List, [], ◌++◌, length, None, Option}
use Rattle.std.specs.List.{AllByRecursion}
use Rattle.core_program.specs.CoreFits.{CoreEntry}
use Rattle.counted_scripts.specs.CountedLoads.{CountsInTurn}
use Rattle.script_sentences.specs.GivenTexts.{IsProperSaid}
use Rattle.core_scripts.specs.PlayingSessions.{IsPlaying}
use Rattle.core_scripts.specs.ToldFiles.{ShelfTold, files_told}
use Rattle.core_scripts.specs.declared.player.ScriptPlayer.{ScriptPlayer}
use Rattle.core_states.specs.StandingInCore.{state_of_session}
use Rattle.core_states.specs.declared.session.CoreSession.{CoreSession}
use Rattle.core_watches.specs.BoundReaders.{OpenWithRowsOfCubes}
use Rattle.cube_core.specs.declared.cell.CoreCell.{CoreCell}
use Rattle.cube_journal.specs.declared.reply.Reply.{Reply}
use Rattle.cube_language.specs.declared.piece.TheConstants.{MOST_STATEMENTS}
use Rattle.cube_run.specs.RunRecords.{Sentence}
use Rattle.cube_run.specs.SessionStates.{KeptWatch, fresh_session}
use Rattle.linked_shards.specs.CellShards.{CoreShardStands}
use Rattle.linked_shards.specs.declared.cell.CoreShard.{CoreShard}
use Rattle.loaded_files.specs.CountedReplies.{CountsAbsence, CountsFault}
use Rattle.script_sentences.specs.declared.said.Said.{Said}
use Rattle.scripted_ends.specs.EndedScripts.{EndsScript}
use Rattle.scripted_pasts.specs.Performed.{every_of}
use Rattle.scripted_pasts.specs.PlayedScripts.{HasPlayedScript}
use Rattle.scripted_pasts.specs.Served.{IsServed}
use Rattle.session_texts.specs.ToldTexts.{AreTextsTold}
use Rattle.shard_events.specs.ShardsInRuns.{FitsShard, ShardAnswerSays}

module _ (told : ShelfTold) (cells : List (CoreCell CoreShard)) (caller session every : ℕ) where
  -- By these calls and no others it has played this script, with files as its shelf tells them, was answered so, and has
  -- ended it.
  pub record PlaysToTheEnd (script : List Sentence) (replies : List Reply) (own : List CoreEntry) : Type 0 where
    pub last : CoreSession
    pub number_is : last.number ≡ session
    pub every_is : every_of last ≡ every
    pub watch : Option KeptWatch
    pub before : List CoreEntry
    pub played : HasPlayedScript FitsShard CoreShardStands ShardAnswerSays cells caller (files_told told) last watch
        before script replies
    pub ends : EndsScript FitsShard CoreShardStands ShardAnswerSays cells caller last watch before own

-- The counts of a shelf went on by these statements, with their replies.
pub record CountsOfShelf (script : List Sentence) (replies : List Reply) (faults new_faults absences new_absences : ℕ)
    : Type 0 where
  pub count_faults : CountsInTurn CountsFault script replies faults new_faults
  pub count_absences : CountsInTurn CountsAbsence script replies absences new_absences

-- They went on by these statements, whatever was counted before them.
abbrev pub CountsOn : List Sentence → List Reply → List Reply → ℕ → ℕ → ℕ → ℕ → Type 0
CountsOn more replies said faults new_faults absences new_absences =
    (script : List Sentence) (old_faults old_absences : ℕ)
    → CountsOfShelf script replies old_faults faults old_absences absences
    → CountsOfShelf (script ++ more) said old_faults new_faults old_absences new_absences

-- Whatever it has played with these replies, it has then played these statements too, and has ended it.
abbrev pub PlaysOnToTheEnd : ShelfTold → List (CoreCell CoreShard) → ℕ → ScriptPlayer → List CoreEntry → List Reply
    → List Sentence → List Reply → List CoreEntry → Type 0
PlaysOnToTheEnd told cells caller old own replies more said now =
    (script : List Sentence) → IsPlaying told cells caller old own script replies
    → PlaysToTheEnd told cells caller old.session.number (every_of old.session) (script ++ more) said now

-- A session that has executed nothing yet, and knows no text.
pub record IsFresh (player : ScriptPlayer) : Type 0 where
  pub state : state_of_session player.session None ≡ fresh_session
  pub statements : player.session.statements ≡ 0
  pub watch : player.watch ≡ None
  pub texts : (own : List CoreEntry) → AreTextsTold own player.texts

-- It may play a script and then its closing part, with room for its replies, on a board with so many callers.
pub record MayPlay (shards sessions : ℕ) (player : ScriptPlayer) (script closing : List Said) (replies : List Reply)
    (room : ℕ) (callers : ℕ) (cells : List (CoreCell CoreShard)) (caller : ℕ) : Type 0 where
  pub all : sessions + 2 + shards ≤ callers
  pub is_session : player.session.number ≤ sessions
  pub served : IsServed cells caller player.session.number shards
  pub rows : OpenWithRowsOfCubes cells
  pub fresh : IsFresh player
  pub few : length script + length closing ≤ MOST_STATEMENTS
  pub proper : AllByRecursion IsProperSaid script
  pub proper_closing : AllByRecursion IsProperSaid closing
  pub no_replies : replies ≡ []
  pub fits : length script + length closing ≤ room
