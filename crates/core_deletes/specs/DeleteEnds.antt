-- How a DELETE ends that found its cube, and what it has then done.
-- Source: AOSI (ICDE 2018), a deletion of a transaction; Cubrick (VLDB 2016), deletions by dimensions. A promise speaks of
-- every run that goes on, as with prophecy variables (Abadi and Lamport, 1991).
use Rattle.std.specs.Prelude.{◌≡◌, ◌⊎◌, ℕ, Bool, true, false, List, [], ◌∷◌}
use Rattle.core_changes.specs.ChangesUnderWay.{HasAnswered, HasEnded, Learns}
use Rattle.core_events.specs.Events.{Opening, ClientCall}
use Rattle.core_events.specs.Serial.{DropRows}
use Rattle.core_program.specs.CoreFits.{CoreEntry}
use Rattle.core_states.specs.declared.session.CoreSession.{CoreSession}
use Rattle.cube_core.specs.declared.cell.CoreCell.{CoreCell}
use Rattle.cube_journal.specs.Refusals.{code, of_misfit}
use Rattle.cube_journal.specs.declared.journal_entry.AbortCause.TheVariants as abort
use Rattle.cube_journal.specs.declared.refusal.Refusal.{Refusal}
use Rattle.cube_journal.specs.declared.refusal.Refusal.TheVariants as refusal
use Rattle.cube_journal.specs.declared.reply.Reply.{Reply}
use Rattle.cube_journal.specs.declared.reply.Reply.TheVariants as reply
use Rattle.cube_language.specs.Misfits.{HasMisfit}
use Rattle.cube_language.specs.declared.decl.Decl.{Decl}
use Rattle.cube_language.specs.declared.misfit.Misfit.{Misfit}
use Rattle.cube_language.specs.declared.statement.Statement.{Statement}
use Rattle.cube_values.specs.declared.span.Span.{Span}
use Rattle.dropped_regions.specs.DeleteBoxes.{IsBoxOf, IsDeleteText}
use Rattle.linked_shards.specs.CellShards.{CoreShardStands}
use Rattle.shard_events.specs.ShardsInRuns.{FitsShard, ShardAnswerSays}
use Rattle.linked_shards.specs.declared.cell.CoreShard.{CoreShard}
use Rattle.core_changes.specs.ChangeEnds.{ChangeEnd, Finished, Failed, RefusedBefore}
use Rattle.posted_pasts.specs.PostsAdded.{AddsAtEpoch, AddsNoOperation, AddsOperations}
use Rattle.session_desk.specs.declared.answered.Answered.{Answered}
use Rattle.session_groups.specs.declared.deletions.WriteEnd.{WriteEnd}
use Rattle.session_groups.specs.declared.deletions.WriteEnd.TheVariants as end

-- A DELETE on its cube is refused for want of memory, or for the first test that it fails there.
abbrev pub IsRefusalOn : Decl → Statement → Refusal → Type 0
IsRefusalOn d s r = (r ≡ refusal.NoMemory) ⊎ ((misfit : Misfit) × HasMisfit d s misfit × (r ≡ of_misfit misfit))

-- It is refused so, with the number that the journal has.
pub record IsRefusedOn (d : Decl) (s : Statement) (n : ℕ) (said : Reply) : Type 0 where
  pub why : Refusal
  pub right : IsRefusalOn d s why
  pub number : n ≡ code why
  pub is : said ≡ reply.Refused why

-- What it is answered, by its end: where it is done the epoch of its writer. It fails for want of memory alone.
abbrev pub AnswersDelete : Decl → Statement → ChangeEnd → Reply → Type 0
AnswersDelete d s (Finished writer round) said = said ≡ reply.Dropped writer.epoch
AnswersDelete d s (Failed writer cause) said = (cause ≡ abort.NoMemory) × (said ≡ reply.Refused refusal.NoMemory)
AnswersDelete d s (RefusedBefore n) said = IsRefusedOn d s n said

-- Each shard has done what it was asked for.
abbrev pub is_done : WriteEnd → Bool
is_done end.Done = true
is_done end.Refused = false

module _ (cells : List (CoreCell CoreShard)) (caller : ℕ) (old : CoreSession) (s : Statement) (own now : List CoreEntry)
    (place : ℕ) (d : Decl) where
  abbrev LearnsOf : (ℕ → Opening → List ClientCall → List ClientCall → Type 0) → Type 0
  LearnsOf Adds = Learns cells caller old s own now Adds

  -- A box was posted at an epoch, which takes the rows of the region of the DELETE by the last calls.
  pub record HasDroppedBox (epoch : ℕ) : Type 0 where
    pub box : Span
    pub is_box : IsBoxOf FitsShard CoreShardStands ShardAnswerSays cells caller now place d s box
    pub posted : LearnsOf (AddsOperations place epoch (DropRows box ∷ []))

  -- What was posted, by the end.
  abbrev pub DropsByEnd : ChangeEnd → Type 0
  DropsByEnd (Finished writer round) = HasDroppedBox writer.epoch
  DropsByEnd (Failed writer cause) = LearnsOf (AddsAtEpoch writer.epoch)
  DropsByEnd (RefusedBefore n) = LearnsOf AddsNoOperation

  -- The counted DELETE has ended, and is answered by its end; and so it is where it is answered.
  abbrev pub HasDeleted : CoreSession → Reply → Type 0
  HasDeleted new said =
      HasEnded cells caller old s own now (IsDeleteText place d s) DropsByEnd (AnswersDelete d s) new said

  abbrev pub AnswersAsDelete : CoreSession → Answered → Type 0
  AnswersAsDelete new answered =
      HasAnswered cells caller old s own now (IsDeleteText place d s) DropsByEnd (AnswersDelete d s) new answered
