-- A session of the core that plays its script, between two of its statements.
-- Source: this project's own. A promise of what was done speaks of every run that begins with it, as with prophecy
-- variables (Abadi and Lamport, 1991).
use Rattle.std.specs.Prelude.{◌≤◌, ℕ, List, [], ◌∷◌, ◌++◌, Option}
use Rattle.std.specs.Option.{option_map}
use Rattle.core_program.specs.CoreFits.{CoreEntry}
use Rattle.core_scripts.specs.ToldFiles.{ShelfTold, files_told}
use Rattle.core_scripts.specs.declared.player.ScriptPlayer.{ScriptPlayer}
use Rattle.core_states.specs.StandingInCore.{HoldsForMode}
use Rattle.core_watches.specs.KeptWatches.{KeepsWatchOrNone, watch_on_record}
use Rattle.core_watches.specs.declared.kept.CoreWatch.{CoreWatch}
use Rattle.cube_core.specs.declared.cell.CoreCell.{CoreCell}
use Rattle.cube_journal.specs.declared.reply.Reply.{Reply}
use Rattle.cube_language.specs.declared.statement.Statement.{Statement}
use Rattle.cube_language.specs.declared.statement.Statement.TheVariants as asked
use Rattle.cube_run.specs.RunRecords.{Sentence}
use Rattle.linked_shards.specs.CellShards.{CoreShardStands}
use Rattle.linked_shards.specs.declared.cell.CoreShard.{CoreShard}
use Rattle.scripted_pasts.specs.PlayedScripts.{HasPlayedScript}
use Rattle.session_replies.specs.Modes.{mode_of}
use Rattle.session_texts.specs.ToldTexts.{AreTextsTold}
use Rattle.shard_events.specs.ShardsInRuns.{FitsShard, ShardAnswerSays}

-- A statement that is executed by calls which neither put nor read rows, and which make or look for no cube.
abbrev pub HasPlainCalls : Statement → Type 0
HasPlainCalls asked.Begin = Unit {0}
HasPlainCalls asked.Commit = Unit {0}
HasPlainCalls asked.Rollback = Unit {0}
HasPlainCalls asked.Flush = Unit {0}
HasPlainCalls asked.Purge = Unit {0}
HasPlainCalls asked.ShowEpochs = Unit {0}
HasPlainCalls s = ⊥

-- A statement that neither changes rows nor reads them: one of these, or one that makes a cube.
abbrev pub TouchesNoRows : Statement → Type 0
TouchesNoRows (asked.CreateCube decl) = Unit {0}
TouchesNoRows s = HasPlainCalls s

-- A SELECT, an INSERT or a DELETE.
abbrev pub IsOnRows : Statement → Type 0
IsOnRows (asked.Select items cube conds group having order limit) = Unit {0}
IsOnRows (asked.Insert cube rows) = Unit {0}
IsOnRows (asked.Delete cube conds) = Unit {0}
IsOnRows s = ⊥

-- A WATCH or a SHOW WATCH.
abbrev pub Watches : Statement → Type 0
Watches (asked.Watch items cube conds group) = Unit {0}
Watches asked.ShowWatch = Unit {0}
Watches s = ⊥

-- The number under which the reader of a watch is held, if there is a watch.
abbrev pub holder_under : CoreWatch → ℕ
holder_under kept = kept.watch.holder

abbrev pub holder_kept : Option CoreWatch → Option ℕ
holder_kept watch = option_map holder_under watch

module _ (told : ShelfTold) (cells : List (CoreCell CoreShard)) (caller : ℕ) where
  -- It holds what its mode says, keeps its watch if it has one, and was told of the texts that it knows; and it has played
  -- this script, with files as its shelf tells them, and was answered so.
  pub record IsPlaying (player : ScriptPlayer) (own : List CoreEntry) (script : List Sentence) (replies : List Reply)
      : Type 0 where
    pub holds : HoldsForMode FitsShard CoreShardStands ShardAnswerSays cells caller player.session.number own
        (mode_of player.session.mode)
    pub keeps : KeepsWatchOrNone cells caller player.session.number own player.watch
    pub texts : AreTextsTold own player.texts
    pub counted : player.session.commits ≤ player.session.statements
    pub played : HasPlayedScript FitsShard CoreShardStands ShardAnswerSays cells caller (files_told told) player.session
        (watch_on_record player.watch) own script replies

  -- Whatever it has played, it has then played a statement more, and was answered so.
  abbrev pub PlaysOn : ScriptPlayer → List CoreEntry → Sentence → ScriptPlayer → List CoreEntry → Reply → Type 0
  PlaysOn old own sentence new now said =
      (script : List Sentence) (replies : List Reply) → IsPlaying old own script replies
      → IsPlaying new now (script ++ sentence ∷ []) (replies ++ said ∷ [])

  -- Whatever it has played with these replies, it has then played these statements too, and has those replies.
  abbrev pub PlaysThrough : ScriptPlayer → List CoreEntry → List Reply → List Sentence → ScriptPlayer → List CoreEntry
      → List Reply → Type 0
  PlaysThrough old own replies more new now said =
      (script : List Sentence) → IsPlaying old own script replies → IsPlaying new now (script ++ more) said

-- It is playing some script.
pub record IsInScript (cells : List (CoreCell CoreShard)) (caller : ℕ) (player : ScriptPlayer) (own : List CoreEntry)
    : Type 0 where
  pub told : ShelfTold
  pub script : List Sentence
  pub replies : List Reply
  pub is_playing : IsPlaying told cells caller player own script replies
