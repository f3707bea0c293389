-- Sessions that are ready to play their scripts, each from a shelf of its own.
-- Source: this project's own.
use Rattle.std.specs.Prelude.{◌≡◌, ℕ, ◌+◌, ◌≤◌, true, List, ◌++◌, length, map, Option}
use Rattle.std.specs.Global.{Vec}
use Rattle.std.specs.List.{AllByRecursion}
use Rattle.core_scripts.specs.GivenScripts.{IsPlayRoom}
use Rattle.script_sentences.specs.GivenTexts.{IsProperSaid}
use Rattle.core_scripts.specs.declared.work.ScriptWork.{ScriptWork}
use Rattle.cube_journal.specs.declared.reply.Reply.{Reply}
use Rattle.cube_language.specs.declared.piece.TheConstants.{MOST_STATEMENTS}
use Rattle.cube_run.specs.RunRecords.{Sentence}
use Rattle.script_sentences.specs.Sentences.{sentence_of}
use Rattle.script_sentences.specs.declared.said.Said.{Said}
use Rattle.played_runs.specs.declared.rooms.ReadyScript.{ReadyScript}

-- What the texts of a script say.
abbrev pub sentences_of : Vec Said → List Sentence
sentences_of script = map sentence_of script.items

-- The replies of a session.
abbrev pub said_in : Vec Reply → List Reply
said_in replies = replies.items

-- A script and its closing part that may be played, with room for that.
pub record IsReadyScript (ready : ReadyScript) : Type 0 where
  pub few : length ready.script.items + length ready.closing.items ≤ MOST_STATEMENTS
  pub proper : AllByRecursion IsProperSaid ready.script.items
  pub proper_closing : AllByRecursion IsProperSaid ready.closing.items
  pub room : IsPlayRoom (length ready.script.items + length ready.closing.items) ready.room

-- What they say, one behind the other.
abbrev pub script_ready : ReadyScript → List Sentence
script_ready ready = map sentence_of ready.script.items ++ map sentence_of ready.closing.items

module _ {H G : Type 0} where
  -- Parts of a session's work.

  abbrev pub shelf_of : ScriptWork H G → H
  shelf_of work = work.shelf

  abbrev pub replies_of : ScriptWork H G → Vec Reply
  replies_of work = work.replies

  -- A round follows after so many commits of the session, if after any.
  abbrev pub HasRounds : Option ℕ → ScriptWork H G → Type 0
  HasRounds every work = work.player.session.round_every ≡ every

  -- Its script was played to its end.
  abbrev pub IsWhole : ScriptWork H G → Type 0
  IsWhole work = work.whole ≡ true
