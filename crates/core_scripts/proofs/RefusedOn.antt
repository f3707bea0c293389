-- A session goes on playing its script by a statement that its mode refuses, and by a text that spells none.
use Rattle.std.proofs.Common.{◌≡◌, ℕ, List, Some, inr, refl, sym, subst}
use Rattle.core_program.specs.CoreFits.{CoreEntry}
use Rattle.core_scripts.proofs.LoadsPlayed.{absence-kept, fault-kept}
use Rattle.core_scripts.proofs.PlayedOn.{Holds, TextsGo, keeps-on, plays-without-file}
use Rattle.counted_scripts.specs.CountedLoads.{CountsFor}
use Rattle.core_scripts.specs.PlayingSessions.{PlaysOn}
use Rattle.core_scripts.specs.ToldFiles.{IsFileTold, ShelfTold}
use Rattle.core_scripts.specs.declared.player.ScriptPlayer.{ScriptPlayer}
use Rattle.core_states.specs.ExecutedInCore.{ExecutesInCore, HasOneMore}
use Rattle.core_states.specs.LeftBehind.{GoOnByCalls, IsPlainCall}
use Rattle.core_watches.specs.KeptWatches.{watch_on_record}
use Rattle.cube_core.specs.declared.cell.CoreCell.{CoreCell}
use Rattle.cube_journal.specs.declared.refusal.Refusal.{Refusal}
use Rattle.cube_journal.specs.declared.reply.Reply.{Reply}
use Rattle.cube_journal.specs.declared.reply.Reply.TheVariants as reply
use Rattle.cube_language.specs.declared.statement.Statement.{Statement}
use Rattle.cube_language.specs.declared.statement.Statement.TheVariants.{Load}
use Rattle.cube_run.specs.RunRecords.{LoadedFile, Says, SaysNone, Sentence}
use Rattle.cube_run.specs.StepOutcomes.{refused_by_mode}
use Rattle.linked_shards.specs.CellShards.{CoreShardStands}
use Rattle.linked_shards.specs.declared.cell.CoreShard.{CoreShard}
use Rattle.loaded_files.specs.CountedReplies.{CountsAbsence, CountsFault}
use Rattle.scripted_pasts.proofs.PerformedPlainly.{in-core}
use Rattle.scripted_pasts.specs.Performed.{WhateverFile}
use Rattle.scripted_pasts.specs.Served.{LeavesItsWatch, PerformsOverShards}
use Rattle.scripted_pasts.specs.UnchangedRows.{ChangesNoRows, is_refused, spells_none}
use Rattle.session_desk.proofs.Unread.{mode_unread}
use Rattle.session_desk.specs.Executed.{IfReplied}
use Rattle.session_desk.specs.FileReplies.{IsRefusedUnread}
use Rattle.session_desk.specs.declared.answered.Answered.{Answered}
use Rattle.session_desk.specs.declared.answered.Answered.TheVariants.{Replied, Stopped}
use Rattle.session_replies.specs.Modes.{mode_of}
use Rattle.shard_events.specs.ShardsInRuns.{FitsShard, ShardAnswerSays}

-- ---- a refusal that speaks of no file

unread-told : (told : ShelfTold) (s : Statement) (said : Reply) → IsRefusedUnread said → (file : LoadedFile)
    → IsFileTold told (Says s) said file
unread-told told (Load cube path reject) said unread file = inr unread
unread-told told s said unread file = tt

unread-faults : (s : Statement) (said : Reply) (n : ℕ) → IsRefusedUnread said → CountsFor CountsFault (Says s) said n n
unread-faults (Load cube path reject) said n unread = fault-kept said n unread
unread-faults s said n unread = refl

unread-absences : (s : Statement) (said : Reply) (n : ℕ) → IsRefusedUnread said
    → CountsFor CountsAbsence (Says s) said n n
unread-absences (Load cube path reject) said n unread = absence-kept said n unread
unread-absences s said n unread = refl

pub refused-faults : (s : Statement) (answered : Answered) (n : ℕ) → IfReplied answered IsRefusedUnread
    → IfReplied answered (λ said. CountsFor CountsFault (Says s) said n n)
refused-faults s (Replied said) n unread = unread-faults s said n unread
refused-faults s Stopped n unread = tt

pub refused-absences : (s : Statement) (answered : Answered) (n : ℕ) → IfReplied answered IsRefusedUnread
    → IfReplied answered (λ said. CountsFor CountsAbsence (Says s) said n n)
refused-absences s (Replied said) n unread = unread-absences s said n unread
refused-absences s Stopped n unread = tt

-- ---- refused by the mode

module _ (cells : List (CoreCell CoreShard)) (caller : ℕ) (old new : ScriptPlayer) (own now : List CoreEntry) where
  -- What calls on the desk alone leave as it is.
  pub record IsPlain : Type 0 where
    pub more : HasOneMore old.session new.session
    pub same : new.watch ≡ old.watch
    pub holds : Holds cells caller old new own now
    pub leaves : LeavesItsWatch cells caller old.session.number own now
    pub goes : GoOnByCalls FitsShard CoreShardStands ShardAnswerSays cells caller old.session.number IsPlainCall own now
    pub texts : TextsGo cells caller old new own now

  plainly : (sentence : Sentence) (said : Reply) → IsPlain → ChangesNoRows sentence said
      → ExecutesInCore FitsShard CoreShardStands ShardAnswerSays cells caller sentence old.session own new.session now
      said
      → ((told : ShelfTold) (file : LoadedFile) → IsFileTold told sentence said file) → (told : ShelfTold)
      → PlaysOn told cells caller old own sentence new now said
  plainly sentence said p none executes each told =
      plays-without-file cells caller old new own now told sentence said (each told) p.more p.holds
      (keeps-on cells caller old new own now p.more p.same p.leaves) p.texts
      (coe 1 0 (i. PerformsOverShards cells caller WhateverFile sentence old.session (watch_on_record old.watch) own
      new.session (watch_on_record (p.same i)) now said)
      (in-core FitsShard CoreShardStands ShardAnswerSays cells caller sentence old.session new.session own now said
      executes p.goes none (watch_on_record old.watch)))

  module _ (s : Statement) (r : Refusal) (refused : refused_by_mode (mode_of old.session.mode) s ≡ Some r) where
    is-unread : (said : Reply) → said ≡ reply.Refused r → IsRefusedUnread said
    is-unread said is =
        subst IsRefusedUnread (sym is) (mode_unread (mode_of old.session.mode) s r refused)

    pub refused-unread : (answered : Answered) → IfReplied answered (λ said. said ≡ reply.Refused r)
        → IfReplied answered IsRefusedUnread
    refused-unread (Replied said) is = is-unread said is
    refused-unread Stopped is = tt

    pub plays-refused : (answered : Answered) → IsPlain → IfReplied answered (λ said. said ≡ reply.Refused r)
        → IfReplied answered (λ said. (asked : Statement)
        → refused_by_mode (mode_of old.session.mode) asked ≡ Some r
        → ExecutesInCore FitsShard CoreShardStands ShardAnswerSays cells caller (Says asked) old.session own new.session
        now said)
        → IfReplied answered (λ said. (told : ShelfTold) → PlaysOn told cells caller old own (Says s) new now said)
    plays-refused (Replied said) p is executes =
        plainly (Says s) said p (is_refused r is) (executes s refused)
        (λ told. unread-told told s said (is-unread said is))
    plays-refused Stopped p is executes = tt

  -- A text that spells no statement.
  pub plays-nothing : (at : ℕ) (answered : Answered) → IsPlain
      → IfReplied answered (ExecutesInCore FitsShard CoreShardStands ShardAnswerSays cells caller (SaysNone at)
      old.session own new.session now)
      → IfReplied answered (λ said. (told : ShelfTold) → PlaysOn told cells caller old own (SaysNone at) new now said)
  plays-nothing at (Replied said) p executes =
      plainly (SaysNone at) said p (spells_none at refl) executes (λ told file. tt)
  plays-nothing at Stopped p executes = tt
