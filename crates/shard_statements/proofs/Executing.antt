-- A ROLLBACK of the open transaction is answered by what its calls leave.
use Rattle.std.proofs.Common.{◌≡◌, ℕ, ◌+◌, List, [], ◌∷◌, refl, sym, ap, subst, arith}
use Rattle.core_program.specs.CoreFits.{CoreEntry}
use Rattle.core_records.specs.CoreRecords.{record_of}
use Rattle.core_states.proofs.Growing.{executes, parts-of}
use Rattle.core_states.proofs.Transacting.{in_mode, rollback-keeps-watch}
use Rattle.core_states.specs.ExecutedInCore.{ExecutesInCore}
use Rattle.core_states.specs.declared.session.CoreSession.{CoreSession}
use Rattle.cube_core.specs.declared.cell.CoreCell.{CoreCell}
use Rattle.cube_journal.specs.declared.journal_entry.AbortCause.TheVariants as abort
use Rattle.cube_journal.specs.declared.journal_entry.JournalEntry.{JournalEntry}
use Rattle.cube_journal.specs.declared.journal_entry.JournalEntry.TheVariants as entry
use Rattle.cube_journal.specs.declared.reply.Reply.{Reply}
use Rattle.cube_journal.specs.declared.reply.Reply.TheVariants as reply
use Rattle.cube_language.specs.declared.statement.Statement.TheVariants.{Rollback}
use Rattle.cube_run.specs.RunRecords.{Says, Sentence}
use Rattle.cube_run.specs.SessionStates.{Mode, Open, mode_after}
use Rattle.cube_values.specs.declared.snapshot.Snapshot.{Snapshot}
use Rattle.linked_shards.specs.CellShards.{CoreShardStands}
use Rattle.linked_shards.specs.declared.cell.CoreShard.{CoreShard}
use Rattle.session_desk.specs.AtDesk.{IsOpenAt}
use Rattle.session_replies.proofs.Answers.{rolled_back}
use Rattle.session_replies.specs.Modes.{mode_of}
use Rattle.session_replies.specs.declared.mode.SessionMode.{SessionMode}
use Rattle.session_replies.specs.declared.mode.SessionMode.TheVariants as variant
use Rattle.shard_events.specs.ShardsInRuns.{FitsShard, ShardAnswerSays}
use Rattle.shard_statements.specs.OverShards.{LeavesOverShards}

-- ---- the transaction that is open

pub record HasOpen (mode : SessionMode) (epoch : ℕ) : Type 0 where
  pub writer : Snapshot
  pub mode_is : mode ≡ variant.Open writer
  pub epoch_is : epoch ≡ writer.epoch

pub open-writer : (mode : SessionMode) (epoch : ℕ) → IsOpenAt mode epoch → HasOpen mode epoch
open-writer (variant.Open writer) epoch is = record { writer = writer; mode_is = refl; epoch_is = is }
open-writer variant.Idle epoch is = absurd is
open-writer (variant.Aborted other) epoch is = absurd is

module _ (cells : List (CoreCell CoreShard)) (caller : ℕ) (session : CoreSession) (own now : List CoreEntry) where
  abbrev Executes : Sentence → CoreSession → Reply → Type 0
  Executes sentence new said =
      ExecutesInCore FitsShard CoreShardStands ShardAnswerSays cells caller sentence session own new now said

  abbrev Leaves : List JournalEntry → Type 0
  Leaves added = LeavesOverShards cells caller session.number own now added

  abbrev number : ℕ
  number = session.statements + 1

  pub rolls-back : (epoch : ℕ) → IsOpenAt session.mode epoch
      → Leaves (entry.Aborted session.number number epoch abort.Asked ∷ [])
      → Executes (Says Rollback) (in_mode variant.Idle session) (reply.RolledBack epoch)
  rolls-back epoch at left =
      let w = open-writer session.mode epoch at in
      let mode_is : mode_of session.mode ≡ Open w.writer = ap mode_of w.mode_is in
      let none : session.commits ≡ session.commits + 0 = omega arith in
      let added : List JournalEntry = entry.Aborted session.number number w.writer.epoch abort.Asked ∷ [] in
      subst (λ (e : ℕ). Executes (Says Rollback) (in_mode variant.Idle session) (reply.RolledBack e)) (sym w.epoch_is)
      (executes FitsShard CoreShardStands ShardAnswerSays cells caller (Says Rollback) session
      (in_mode variant.Idle session) own now added (reply.RolledBack w.writer.epoch) (record {
        left = subst (λ (e : ℕ). Leaves (entry.Aborted session.number number e abort.Asked ∷ [])) w.epoch_is left;
        counted = refl;
        numbered = (omega arith, omega arith, tt);
        becomes = λ watch i. record {
          mode = sym (ap (λ (m : Mode). mode_after m added) mode_is) i;
          watch = rollback-keeps-watch watch added i;
          commits = none i;
        };
        answers = λ watch past o given events step in_run is.
            rolled_back (record_of o given events) step w.writer
            (parts-of session (in_mode variant.Idle session) watch (Open w.writer) (Says Rollback)
            (λ i j. entry.Aborted i j w.writer.epoch abort.Asked ∷ []) step mode_is is);
      }))
