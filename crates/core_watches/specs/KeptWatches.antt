-- What a session of the core keeps of its watch, by its own calls.
-- Source: AOSI (ICDE 2018), readers; materialized views kept by their changes (Gupta, Mumick, Subrahmanian, SIGMOD 1993).
use Rattle.std.specs.Prelude.{◌≡◌, ℕ, List, Option, Some, None}
use Rattle.std.specs.Option.{option_map}
use Rattle.core_watches.specs.BoundReaders.{IsBoundWatch, IsShownWatch}
use Rattle.core_watches.specs.WatchEnds.{WatchesCube}
use Rattle.core_watches.specs.WatchingCalls.{LeavesByWatching}
use Rattle.core_program.specs.CoreFits.{CoreEntry}
use Rattle.core_watches.specs.declared.kept.CoreWatch.{CoreWatch}
use Rattle.core_watches.specs.declared.kept.ShownWatch.{ShownWatch}
use Rattle.cube_core.specs.declared.cell.CoreCell.{CoreCell}
use Rattle.cube_journal.specs.declared.journal_entry.JournalEntry.{JournalEntry}
use Rattle.cube_journal.specs.declared.refusal.Refusal.{Refusal}
use Rattle.cube_journal.specs.declared.reply.Reply.{Reply}
use Rattle.cube_journal.specs.declared.reply.Reply.TheVariants as reply
use Rattle.cube_language.specs.declared.decl.Decl.{Decl}
use Rattle.cube_language.specs.declared.statement.Statement.{Statement}
use Rattle.cube_run.specs.SessionStates.{KeptWatch}
use Rattle.linked_shards.specs.CellShards.{CoreShardStands}
use Rattle.linked_shards.specs.declared.cell.CoreShard.{CoreShard}
use Rattle.session_watches.specs.KnownReaders.{HoldersHave}
use Rattle.shard_events.specs.ShardsInRuns.{FitsShard, ShardAnswerSays}
use Rattle.watch_holds.specs.HolderStates.{HeldReaders, NoReader, OneReader}

-- The watch on record: its holder number, and the WATCH that set it up.
abbrev pub kept_on_record : CoreWatch → KeptWatch
kept_on_record kept = record { holder = kept.watch.holder; asked = kept.asked }

abbrev pub watch_on_record : Option CoreWatch → Option KeptWatch
watch_on_record kept = option_map kept_on_record kept

module _ (cells : List (CoreCell CoreShard)) (caller session : ℕ) (own : List CoreEntry) where
  abbrev pub HoldersHold : HeldReaders → Type 0
  HoldersHold readers = HoldersHave FitsShard CoreShardStands ShardAnswerSays cells caller session own readers

  -- Its holders have the watch's reader and no other. The watch shows what this sees, and the query of its WATCH is bound
  -- by names that were copied since the reader was opened.
  pub record KeepsWatch (kept : CoreWatch) : Type 0 where
    pub reader : HoldersHold (OneReader kept.watch.holder kept.watch.epoch)
    pub bound : IsBoundWatch cells caller own session kept.cube kept.asked kept.watch
    pub watches : WatchesCube kept.asked kept.watch.query.cube kept.cube own

  -- It keeps this watch, or it has none and its holders have no reader.
  abbrev pub KeepsWatchOrNone : Option CoreWatch → Type 0
  KeepsWatchOrNone None = HoldersHold NoReader
  KeepsWatchOrNone (Some kept) = KeepsWatch kept

  -- A watch is shown with its table, at this reader, of the cube at this place.
  pub record IsShownAt (holder epoch place : ℕ) (d : Decl) (s : Statement) (w : ShownWatch) : Type 0 where
    pub holder_is : w.watch.holder ≡ holder
    pub epoch_is : w.watch.epoch ≡ epoch
    pub place_is : w.watch.query.cube ≡ place
    pub shown : IsShownWatch cells caller own session d s w.watch w.table

-- A statement is refused for this, by calls that leave these entries.
pub record IsRefusedSo (cells : List (CoreCell CoreShard)) (caller session : ℕ) (own now : List CoreEntry)
    (added : List JournalEntry) (r : Refusal) (said : Reply) : Type 0 where
  pub said_is : said ≡ reply.Refused r
  pub left : LeavesByWatching cells caller session own now added
