-- The work of a session that plays its script, once it is done, and where its closing part is left.
-- Source: this project's own.
use Rattle.std.specs.Prelude.{◌≡◌, ◌+◌, ◌≤◌, ℕ, List, ◌++◌, length, map, vec_capacity}
use Rattle.std.specs.Bool.{OnTrue}
use Rattle.core_program.specs.CoreFits.{CoreEntry}
use Rattle.core_scripts.specs.PlayedWhole.{CountsOfShelf, PlaysToTheEnd}
use Rattle.core_scripts.specs.PlayingSessions.{IsPlaying}
use Rattle.core_scripts.specs.ToldFiles.{ShelfTold}
use Rattle.core_scripts.specs.declared.work.ScriptWork.{ScriptWork}
use Rattle.cube_core.specs.declared.cell.CoreCell.{CoreCell}
use Rattle.cube_language.specs.declared.piece.TheConstants.{MOST_STATEMENTS}
use Rattle.cube_run.specs.RunRecords.{Sentence}
use Rattle.linked_shards.specs.declared.cell.CoreShard.{CoreShard}
use Rattle.script_sentences.specs.Sentences.{sentence_of}
use Rattle.scripted_pasts.specs.Performed.{every_of}

module _ {H G : Type 0} where
  -- What a work is to play: its script, and then its closing part.
  abbrev pub script_in : ScriptWork H G → List Sentence
  script_in work = map sentence_of work.script.items ++ map sentence_of work.closing.items

module _ {H G : Type 0} (told : H → ShelfTold) (fault_count absence_count : H → ℕ) where
  -- By these calls it played its script, and its closing part is left, for which there is room.
  pub record IsHalfway (before after : ScriptWork H G) (cells : List (CoreCell CoreShard)) (caller : ℕ)
      (own : List CoreEntry) : Type 0 where
    pub size_is : after.size ≡ before.size
    pub closing_is : after.closing ≡ before.closing
    pub number_is : after.player.session.number ≡ before.player.session.number
    pub every_is : every_of after.player.session ≡ every_of before.player.session
    pub few : after.player.session.statements + length before.closing.items ≤ MOST_STATEMENTS
    pub fits : length after.replies.items + length before.closing.items ≤ vec_capacity after.replies
    pub playing : IsPlaying (told before.shelf) cells caller after.player own (map sentence_of before.script.items)
        after.replies.items
    pub counts : CountsOfShelf (map sentence_of before.script.items) after.replies.items (fault_count before.shelf)
        (fault_count after.shelf) (absence_count before.shelf) (absence_count after.shelf)

  -- By these calls it played all to the end, or its script so far, or stopped for want of memory. Its shelf tells what it
  -- told, and counted what the replies show.
  pub record HasPlayedOut (before after : ScriptWork H G) (cells : List (CoreCell CoreShard)) (caller : ℕ)
      (own : List CoreEntry) : Type 0 where
    pub same : told after.shelf ≡ told before.shelf
    pub later : fault_count before.shelf ≤ fault_count after.shelf
    pub halfway : OnTrue after.halfway (IsHalfway before after cells caller own)
    pub whole : OnTrue after.whole (PlaysToTheEnd (told before.shelf) cells caller before.player.session.number
        (every_of before.player.session) (script_in before) after.replies.items own)
    pub counts : OnTrue after.whole (CountsOfShelf (script_in before) after.replies.items (fault_count before.shelf)
        (fault_count after.shelf) (absence_count before.shelf) (absence_count after.shelf))
