-- A session goes on playing its script by a LOAD.
use Rattle.std.proofs.Common.{◌≡◌, ◌∙◌, inl, inr, ℕ, List, None, Some, Ok, Err, refl, sym, ap, subst}
use Rattle.cube_values.specs.declared.call_error.CallError.TheVariants.{Fault, NoMemory}
use Rattle.core_loads.specs.ShelfLoads.{CountsLoad, IsAnsweredFor, IsFileRead, LoadsRows, ShelfSeen, path_loaded}
use Rattle.core_program.specs.CoreFits.{CoreEntry}
use Rattle.counted_scripts.specs.CountedLoads.{CountsFor}
use Rattle.core_scripts.specs.PlayingSessions.{IsPlaying, PlaysOn}
use Rattle.core_scripts.specs.ToldFiles.{IsFileTold, ShelfTold}
use Rattle.core_scripts.specs.declared.player.ScriptPlayer.{ScriptPlayer}
use Rattle.core_states.specs.ExecutedInCore.{HasOneMore}
use Rattle.core_watches.specs.KeptWatches.{watch_on_record}
use Rattle.cube_core.specs.declared.cell.CoreCell.{CoreCell}
use Rattle.cube_journal.specs.declared.refusal.Refusal.TheVariants as refusal
use Rattle.cube_journal.specs.declared.reply.Reply.{Reply}
use Rattle.cube_journal.specs.declared.reply.Reply.TheVariants as reply
use Rattle.cube_language.specs.declared.statement.Statement.{Statement}
use Rattle.cube_language.specs.declared.statement.Statement.TheVariants as asked
use Rattle.cube_run.specs.RunRecords.{LoadedFile, Says, Sentence}
use Rattle.linked_shards.specs.CellShards.{CoreShardStands}
use Rattle.linked_shards.specs.declared.cell.CoreShard.{CoreShard}
use Rattle.loaded_files.specs.CountedReplies.{CountsAbsence, CountsFault}
use Rattle.loaded_files.specs.LoadedFiles.{LoadAnswer, loaded_file}
use Rattle.outside.specs.declared.reading.FileFault.TheVariants.{Absent, Failed, TooLong}
use Rattle.scripted_pasts.proofs.PlayedMore.{performs-as}
use Rattle.scripted_pasts.specs.Served.{LeavesItsWatch, PerformsOverShards, PerformsWatchedOverShards}
use Rattle.session_desk.specs.FileReplies.{IsRefusedUnread}
use Rattle.session_desk.specs.Executed.{IfReplied}
use Rattle.session_desk.specs.declared.answered.Answered.{Answered}
use Rattle.session_desk.specs.declared.answered.Answered.TheVariants.{Replied, Stopped}
use Rattle.shard_events.specs.ShardsInRuns.{FitsShard, ShardAnswerSays}
use Rattle.core_scripts.proofs.PlayedOn.{Holds, LetsEach, Performing, TextsGo, keeps-on, plays-on}

load-told : (s : Statement) (seen : ShelfSeen) (said : Reply) → LoadsRows s → (file : LoadedFile)
    → IsFileRead seen (path_loaded s) said file → IsFileTold seen.told (Says s) said file
load-told (asked.Load cube path reject) seen said form file (inl read) =
    inl (λ files holds. read.1 ∙ ap loaded_file (read.0.opened.by_files files holds))
load-told (asked.Load cube path reject) seen said form file (inr leaves) = inr leaves.refused
load-told s seen said form file read = absurd form

pub fault-kept : (said : Reply) (n : ℕ) → IsRefusedUnread said → CountsFault said n n
fault-kept (reply.Refused refusal.ReadFault) n h = absurd h
fault-kept (reply.Refused r) n h = refl
fault-kept said n h = absurd h

pub absence-kept : (said : Reply) (n : ℕ) → IsRefusedUnread said → CountsAbsence said n n
absence-kept (reply.Refused refusal.NoSuchFile) n h = absurd h
absence-kept (reply.Refused r) n h = refl
absence-kept said n h = absurd h

answered-faults : (answer : LoadAnswer) (said : Reply) (seen : ShelfSeen) → CountsLoad seen answer
    → IsAnsweredFor answer said → CountsFault said seen.faults seen.new_faults
answered-faults (Ok load) (reply.Loaded rows rejected first epoch) seen c is = c.quiet (λ h. absurd cc)
answered-faults (Ok load) (reply.Refused (refusal.TooManyRejected rejected allowed)) seen c is = c.quiet (λ h. absurd cc)
answered-faults (Ok load) (reply.Refused (refusal.ShardFull shard rows)) seen c is = c.quiet (λ h. absurd cc)
answered-faults (Ok load) (reply.Refused refusal.NoMemory) seen c is = c.quiet (λ h. absurd cc)
answered-faults (Ok load) said seen c is = absurd is
answered-faults (Err (Fault Absent)) said seen c is =
    subst (λ (r : Reply). CountsFault r seen.faults seen.new_faults) (sym is) (c.quiet (λ h. absurd cc))
answered-faults (Err (Fault (TooLong size))) said seen c is =
    subst (λ (r : Reply). CountsFault r seen.faults seen.new_faults) (sym is) (c.quiet (λ h. absurd cc))
answered-faults (Err (Fault Failed)) said seen c is =
    subst (λ (r : Reply). CountsFault r seen.faults seen.new_faults) (sym is) (c.failed refl)
answered-faults (Err NoMemory) said seen c is =
    subst (λ (r : Reply). CountsFault r seen.faults seen.new_faults) (sym is) (c.quiet (λ h. absurd cc))

answered-absences : (answer : LoadAnswer) (said : Reply) (seen : ShelfSeen) → CountsLoad seen answer
    → IsAnsweredFor answer said → CountsAbsence said seen.absences seen.new_absences
answered-absences (Ok load) (reply.Loaded rows rejected first epoch) seen c is = c.present (λ h. absurd cc)
answered-absences (Ok load) (reply.Refused (refusal.TooManyRejected rejected allowed)) seen c is =
    c.present (λ h. absurd cc)
answered-absences (Ok load) (reply.Refused (refusal.ShardFull shard rows)) seen c is = c.present (λ h. absurd cc)
answered-absences (Ok load) (reply.Refused refusal.NoMemory) seen c is = c.present (λ h. absurd cc)
answered-absences (Ok load) said seen c is = absurd is
answered-absences (Err (Fault Absent)) said seen c is =
    subst (λ (r : Reply). CountsAbsence r seen.absences seen.new_absences) (sym is) (c.absent refl)
answered-absences (Err (Fault (TooLong size))) said seen c is =
    subst (λ (r : Reply). CountsAbsence r seen.absences seen.new_absences) (sym is) (c.present (λ h. absurd cc))
answered-absences (Err (Fault Failed)) said seen c is =
    subst (λ (r : Reply). CountsAbsence r seen.absences seen.new_absences) (sym is) (c.present (λ h. absurd cc))
answered-absences (Err NoMemory) said seen c is =
    subst (λ (r : Reply). CountsAbsence r seen.absences seen.new_absences) (sym is) (c.present (λ h. absurd cc))

read-faults : (seen : ShelfSeen) (path : List ℕ) (said : Reply) (file : LoadedFile) → IsFileRead seen path said file
    → CountsFault said seen.faults seen.new_faults
read-faults seen path said file (inl read) = answered-faults read.0.answer said seen read.0.counts read.0.answered
read-faults seen path said file (inr leaves) =
    subst (λ (n : ℕ). CountsFault said seen.faults n) (sym leaves.faults) (fault-kept said seen.faults leaves.refused)

read-absences : (seen : ShelfSeen) (path : List ℕ) (said : Reply) (file : LoadedFile) → IsFileRead seen path said file
    → CountsAbsence said seen.absences seen.new_absences
read-absences seen path said file (inl read) =
    answered-absences read.0.answer said seen read.0.counts read.0.answered
read-absences seen path said file (inr leaves) =
    subst (λ (n : ℕ). CountsAbsence said seen.absences n) (sym leaves.absences)
    (absence-kept said seen.absences leaves.refused)

-- A count goes on for a LOAD as its reply shows it.
for-load : (Counts : Reply → ℕ → ℕ → Type 0) (s : Statement) (said : Reply) (before now : ℕ) → LoadsRows s
    → Counts said before now → CountsFor Counts (Says s) said before now
for-load Counts (asked.Load cube path reject) said before now form counts = counts
for-load Counts s said before now form counts = absurd form

load-is-let : (s : Statement) → LoadsRows s → LetsEach s
load-is-let (asked.Load cube path reject) form None = refl
load-is-let (asked.Load cube path reject) form (Some kept) = refl
load-is-let s form watch = absurd form

module _ (cells : List (CoreCell CoreShard)) (caller : ℕ) (old new : ScriptPlayer) (own now : List CoreEntry)
    (s : Statement) (form : LoadsRows s) (seen : ShelfSeen) (more : HasOneMore old.session new.session)
    (same : new.watch ≡ old.watch) where
  abbrev LoadsSo : Reply → Type 0
  LoadsSo said =
      PerformsWatchedOverShards cells caller (IsFileRead seen (path_loaded s) said) s old.session own new.session now
      said

  performs-load : (said : Reply) → LoadsSo said
      → Performing cells caller old new own now (IsFileRead seen (path_loaded s) said) (Says s) said
  performs-load said performs =
      coe 1 0 (i. PerformsOverShards cells caller (IsFileRead seen (path_loaded s) said) (Says s) old.session
      (watch_on_record old.watch) own new.session (watch_on_record (same i)) now said)
      (performs (watch_on_record old.watch) (load-is-let s form (watch_on_record old.watch)))

  pub plays-load : (answered : Answered) → LeavesItsWatch cells caller old.session.number own now
      → IfReplied answered (λ said. Holds cells caller old new own now) → TextsGo cells caller old new own now
      → IfReplied answered LoadsSo
      → IfReplied answered (PlaysOn seen.told cells caller old own (Says s) new now)
  plays-load (Replied said) leaves holds texts performs =
      plays-on cells caller old new own now seen.told (Says s) said more holds
      (keeps-on cells caller old new own now more same leaves) texts
      (performs-as FitsShard CoreShardStands ShardAnswerSays cells caller (IsFileRead seen (path_loaded s) said)
      (IsFileTold seen.told (Says s) said) old.session new.session (watch_on_record old.watch)
      (watch_on_record new.watch) own now (Says s) said (load-told s seen said form) (performs-load said performs))
  plays-load Stopped leaves holds texts performs = tt

  module _ (told : ShelfTold) (script : List Sentence) (replies : List Reply)
      (h : IsPlaying told cells caller old own script replies) where
    pub load-counts-faults : (answered : Answered) → IfReplied answered LoadsSo
        → IfReplied answered (λ said. CountsFor CountsFault (Says s) said seen.faults seen.new_faults)
    load-counts-faults (Replied said) performs =
        let p = performs-load said performs h.played.past h.played.stands_there h.played.counted in
        for-load CountsFault s said seen.faults seen.new_faults form
        (read-faults seen (path_loaded s) said _ p.file)
    load-counts-faults Stopped performs = tt

    pub load-counts-absences : (answered : Answered) → IfReplied answered LoadsSo
        → IfReplied answered (λ said. CountsFor CountsAbsence (Says s) said seen.absences seen.new_absences)
    load-counts-absences (Replied said) performs =
        let p = performs-load said performs h.played.past h.played.stands_there h.played.counted in
        for-load CountsAbsence s said seen.absences seen.new_absences form
        (read-absences seen (path_loaded s) said _ p.file)
    load-counts-absences Stopped performs = tt
