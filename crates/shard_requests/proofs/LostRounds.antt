-- A FLUSH whose round was lost to the disk is refused.
use Rattle.std.proofs.Common.{◌≡◌, ◌+◌, ℕ, true, List, [], ◌∷◌, None, refl}
use Rattle.core_program.specs.CoreFits.{CoreEntry}
use Rattle.core_states.proofs.Refused.{counted, refuses}
use Rattle.core_states.specs.ExecutedInCore.{ExecutesInCore}
use Rattle.core_states.specs.declared.session.CoreSession.{CoreSession}
use Rattle.cube_core.specs.declared.cell.CoreCell.{CoreCell}
use Rattle.cube_journal.specs.declared.journal_entry.JournalEntry.{JournalEntry}
use Rattle.cube_journal.specs.declared.journal_entry.JournalEntry.TheVariants as entry
use Rattle.cube_journal.specs.declared.refusal.Refusal.TheVariants as refusal
use Rattle.cube_journal.specs.declared.reply.Reply.TheVariants as reply
use Rattle.cube_language.specs.declared.statement.Statement.TheVariants.{Flush}
use Rattle.cube_run.specs.RunRecords.{RunRecord, Says}
use Rattle.cube_run.specs.RunText.{IsReply}
use Rattle.cube_run.specs.SessionStates.{Mode, Idle, Open, Aborted}
use Rattle.cube_run.specs.SessionSteps.{SessionStep}
use Rattle.cube_run.specs.StatementEntries.{leaves_refused}
use Rattle.cube_run.specs.StepOutcomes.{refused_by_mode, store_failed}
use Rattle.linked_shards.specs.CellShards.{CoreShardStands}
use Rattle.linked_shards.specs.declared.cell.CoreShard.{CoreShard}
use Rattle.session_replies.proofs.Ends.{bound_none, no_watch, with_parts}
use Rattle.session_replies.proofs.Refusing.{refused}
use Rattle.session_replies.specs.Modes.{mode_of}
use Rattle.session_replies.specs.StepParts.{IsStep}
use Rattle.shard_events.specs.ShardsInRuns.{FitsShard, ShardAnswerSays}
use Rattle.shard_statements.specs.OverShards.{LeavesOverShards}

lost_leaves : (mode : Mode) → leaves_refused mode refusal.StoreFailed ≡ true
lost_leaves Idle = refl
lost_leaves (Open writer) = refl
lost_leaves (Aborted epoch) = refl

flush_may : (mode : Mode) → refused_by_mode mode Flush ≡ None
flush_may Idle = refl
flush_may (Open writer) = refl
flush_may (Aborted epoch) = refl

pub round_lost_to_disk : (run : RunRecord) (step : SessionStep) (mode : Mode)
    → IsStep step mode (Says Flush) (entry.Refused step.session step.number 17 ∷ [])
    → IsReply run step (reply.Refused refusal.StoreFailed)
round_lost_to_disk run step mode h =
    let entries : List JournalEntry = entry.Refused step.session step.number 17 ∷ [] in
    let p = with_parts step mode (Says Flush) entries in
    refused run step mode (Says Flush) refusal.StoreFailed h (lost_leaves mode)
    (store_failed refl (record {
      binding = None;
      meets = record {
        misfit = None;
        is_misfit = refl;
        is = bound_none p Flush (flush_may mode) (no_watch step.state.watch Flush refl (λ kept. refl)) refl refl;
      };
      is = refl;
    }))
    (λ looked. tt)

module _ (cells : List (CoreCell CoreShard)) (caller : ℕ) (session : CoreSession) (own now : List CoreEntry) where
  pub refuses-lost : LeavesOverShards cells caller session.number own now
      (entry.Refused session.number (session.statements + 1) 17 ∷ [])
      → ExecutesInCore FitsShard CoreShardStands ShardAnswerSays cells caller (Says Flush) session own (counted session)
      now (reply.Refused refusal.StoreFailed)
  refuses-lost left =
      refuses FitsShard CoreShardStands ShardAnswerSays cells caller session own now (Says Flush) 17
      (reply.Refused refusal.StoreFailed) left
      (λ run step is. round_lost_to_disk run step (mode_of session.mode) is)
