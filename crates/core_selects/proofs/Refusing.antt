-- What calls do that end in a refusal.
use Rattle.std.proofs.Common.{◌≡◌, ℕ, List, [], ◌∷◌, ◌++◌, refl, sym, subst}
use mathlib.Core.List.{IsPrefix}
use Rattle.core_selects.proofs.ReadingKinds.{plain-reads}
use Rattle.core_selects.specs.ReadingCalls.{GoesOnByReading, IsReadingCall}
use Rattle.core_selects.specs.SelectEnds.{HasClosedReader, LeavesRefusal}
use Rattle.core_program.specs.ClientCalls.{desk_entry}
use Rattle.core_cells.specs.declared.desk.DeskAnswer.TheVariants as answer
use Rattle.core_cells.specs.declared.desk.DeskCall.TheVariants as call
use Rattle.core_cubes.proofs.CallsGoOn.{go-on-as, go-on-by-call, go-on-then}
use Rattle.core_events.specs.Clients.{reader_up_to}
use Rattle.core_program.specs.CoreFits.{CoreEntry}
use Rattle.core_program.specs.Knowing.{IsClientOf}
use Rattle.core_states.proofs.LeftCalls.{longer-front}
use Rattle.core_states.specs.LeftBehind.{IsPlainCall}
use Rattle.core_states.specs.declared.session.CoreSession.{CoreSession}
use Rattle.cube_core.specs.declared.cell.CoreCell.{CoreCell}
use Rattle.cube_journal.specs.declared.journal_entry.JournalEntry.{JournalEntry}
use Rattle.cube_journal.specs.declared.refusal.Refusal.{Refusal}
use Rattle.cube_journal.specs.declared.reply.Reply.{Reply}
use Rattle.cube_journal.specs.declared.reply.Reply.TheVariants as reply
use Rattle.linked_shards.specs.CellShards.{CoreShardStands}
use Rattle.linked_shards.specs.declared.cell.CoreShard.{CoreShard}
use Rattle.session_desk.specs.Executed.{IfReplied, OnStopped}
use Rattle.session_desk.specs.declared.answered.Answered.{Answered}
use Rattle.session_desk.specs.declared.answered.Answered.TheVariants.{Replied, Stopped}
use Rattle.shard_events.specs.ShardsInRuns.{FitsShard, ShardAnswerSays}
use Rattle.shard_statements.specs.OverShards.{LeavesOverShards}

-- Calls go on from others, and read.
pub record GoesOnReading (cells : List (CoreCell CoreShard)) (caller session : ℕ) (own now : List CoreEntry)
    : Type 0 where
  pub more : IsPrefix own now
  pub reads : GoesOnByReading cells caller session own now

module _ (cells : List (CoreCell CoreShard)) (caller session : ℕ) where
  abbrev Reading : List CoreEntry → List CoreEntry → Type 0
  Reading own now = GoesOnReading cells caller session own now

  pub plainly : (own now : List CoreEntry) (added : List JournalEntry)
      → LeavesOverShards cells caller session own now added → Reading own now
  plainly own now added left = record {
    more = left.more;
    reads =
        go-on-as FitsShard CoreShardStands ShardAnswerSays cells caller session IsPlainCall (IsReadingCall session) own now
        (plain-reads session) left.plain;
  }

  pub reading-then : (own mid now : List CoreEntry) → Reading own mid → Reading mid now → Reading own now
  reading-then own mid now one two = record {
    more = longer-front own mid now one.more two.more;
    reads =
        go-on-then FitsShard CoreShardStands ShardAnswerSays cells caller session (IsReadingCall session) own mid now
        two.more one.reads two.reads;
  }

  module _ (acts : IsClientOf FitsShard CoreShardStands ShardAnswerSays cells caller session) (statement : ℕ)
      (own now : List CoreEntry) where
    pub reading-opened : (epoch : ℕ)
        → now ≡ own ++ desk_entry caller (call.OpenRead session statement) (answer.Opened (reader_up_to epoch)) ∷ []
        → Reading own now
    reading-opened epoch is = record {
      more = (desk_entry caller (call.OpenRead session statement) (answer.Opened (reader_up_to epoch)) ∷ [], sym is);
      reads =
          go-on-by-call FitsShard CoreShardStands ShardAnswerSays cells caller session acts own now
          (call.OpenRead session statement) (answer.Opened (reader_up_to epoch)) is (IsReadingCall session) (λ k. refl);
    }

    pub reading-closed : HasClosedReader cells caller session statement own now → Reading own now
    reading-closed is = record {
      more = (desk_entry caller (call.CloseRead session statement) answer.Done ∷ [], sym is);
      reads =
          go-on-by-call FitsShard CoreShardStands ShardAnswerSays cells caller session acts own now
          (call.CloseRead session statement) answer.Done is (IsReadingCall session) (λ k. refl);
    }

-- A refusal was noted, or the desk had no memory for that.
module _ (cells : List (CoreCell CoreShard)) (caller : ℕ) (session : CoreSession) (own now : List CoreEntry)
    (r : Refusal) where
  pub reading-refused : (result : Answered) → IfReplied result (λ said. LeavesRefusal cells caller session own now r)
      → OnStopped result (LeavesOverShards cells caller session.number own now [])
      → GoesOnReading cells caller session.number own now
  reading-refused (Replied said) left stopped = plainly cells caller session.number own now _ left
  reading-refused Stopped left stopped = plainly cells caller session.number own now [] stopped

  pub ends-refused : (result : Answered) (P : Reply → Type 0) → IfReplied result (λ said. said ≡ reply.Refused r)
      → IfReplied result (λ said. LeavesRefusal cells caller session own now r)
      → (LeavesRefusal cells caller session own now r → P (reply.Refused r)) → IfReplied result P
  ends-refused (Replied said) P is left then_ends = subst P (sym is) (then_ends left)
  ends-refused Stopped P is left then_ends = tt

pub weaker : (result : Answered) (P Q : Reply → Type 0) → ((said : Reply) → P said → Q said) → IfReplied result P
    → IfReplied result Q
weaker (Replied said) P Q more is = more said is
weaker Stopped P Q more is = tt
