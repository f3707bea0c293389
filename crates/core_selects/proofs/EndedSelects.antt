-- How a SELECT ends, by the ends of the calls in it.
use Rattle.std.proofs.Common.{◌≡◌, ℕ, List, [], ◌∷◌, ◌++◌, refl, sym, subst}
use mathlib.Core.List.{IsPrefix}
use Rattle.core_selects.specs.ReadLines.{GoesOnHolding}
use Rattle.core_selects.specs.SelectEnds.{EndsSelect, HasClosedReader, HasOpenedReader, LeavesRefusal, gave_up, unfit, without_memory}
use Rattle.core_program.specs.ClientCalls.{desk_entry}
use Rattle.core_cells.specs.declared.desk.DeskAnswer.TheVariants as answer
use Rattle.core_cells.specs.declared.desk.DeskCall.TheVariants as call
use Rattle.core_events.specs.Clients.{reader_up_to}
use Rattle.core_program.specs.CoreFits.{CoreEntry}
use Rattle.core_program.specs.Knowing.{IsClientOf}
use Rattle.core_selects.proofs.Refusing.{GoesOnReading, ends-refused, plainly, reading-closed, reading-refused, reading-then, weaker}
use Rattle.core_selects.specs.ScanSteps.{HasGivenUp}
use Rattle.core_states.proofs.LeftCalls.{left-by-call}
use Rattle.core_states.specs.declared.session.CoreSession.{CoreSession}
use Rattle.cube_core.specs.declared.cell.CoreCell.{CoreCell}
use Rattle.cube_journal.specs.Refusals.{of_misfit}
use Rattle.cube_journal.specs.declared.refusal.Refusal.{Refusal}
use Rattle.cube_journal.specs.declared.refusal.Refusal.TheVariants.{NoMemory}
use Rattle.cube_journal.specs.declared.reply.Reply.{Reply}
use Rattle.cube_journal.specs.declared.reply.Reply.TheVariants as reply
use Rattle.cube_language.specs.Misfits.{HasMisfit}
use Rattle.cube_language.specs.declared.decl.Decl.{Decl}
use Rattle.cube_language.specs.declared.misfit.Misfit.{Misfit}
use Rattle.cube_language.specs.declared.statement.Statement.{Statement}
use Rattle.cube_run.specs.SessionStates.{Idle}
use Rattle.cube_values.specs.declared.snapshot.Snapshot.{Snapshot}
use Rattle.known_cubes.proofs.ToldCubes.{told-later}
use Rattle.known_cubes.specs.KnownCubes.{IsToldOfCube}
use Rattle.session_snapshots.specs.KnownHolds.{HoldsReader}
use Rattle.linked_shards.specs.CellShards.{CoreShardStands}
use Rattle.linked_shards.specs.declared.cell.CoreShard.{CoreShard}
use Rattle.session_desk.specs.Executed.{IfReplied, OnStopped}
use Rattle.session_desk.specs.declared.answered.Answered.{Answered}
use Rattle.session_replies.specs.Modes.{mode_of}
use Rattle.shard_events.specs.ShardsInRuns.{FitsShard, ShardAnswerSays}
use Rattle.shard_requests.proofs.Onward.{goes-on}
use Rattle.shard_statements.specs.OverShards.{LeavesOverShards}

-- A refusal behind calls that hold what was held, over cells and a caller that are equal.
module _ (cells : List (CoreCell CoreShard)) (caller : ℕ) (session : CoreSession) (own mid now : List CoreEntry)
    (new_cells : List (CoreCell CoreShard)) (new_caller : ℕ) (p : new_cells ≡ cells) (q : new_caller ≡ caller)
    (r : Refusal) (result : Answered)
    (left : IfReplied result (λ said. LeavesRefusal new_cells new_caller session mid now r))
    (stopped : OnStopped result (LeavesOverShards new_cells new_caller session.number mid now [])) where
  pub left-here : IfReplied result (λ said. LeavesRefusal cells caller session mid now r)
  left-here = coe 0 1 (i. IfReplied result (λ said. LeavesRefusal (p i) (q i) session mid now r)) left

  pub stopped-here : OnStopped result (LeavesOverShards cells caller session.number mid now [])
  stopped-here = coe 0 1 (i. OnStopped result (LeavesOverShards (p i) (q i) session.number mid now [])) stopped

  pub refused-reads : GoesOnReading cells caller session.number mid now
  refused-reads = reading-refused cells caller session mid now r result left-here stopped-here

  -- The reader was closed before.
  module _ (acts : IsClientOf FitsShard CoreShardStands ShardAnswerSays cells caller session.number)
      (closing : HasClosedReader cells caller session.number session.statements own mid) where
    pub gave-up-reads : GoesOnReading cells caller session.number own now
    gave-up-reads =
        reading-then cells caller session.number own mid now
        (reading-closed cells caller session.number acts session.statements own mid closing) refused-reads

    pub gave-up-ends : IfReplied result (λ said. said ≡ reply.Refused r) → r ≡ NoMemory
        → IfReplied result (HasGivenUp cells caller session own now)
    gave-up-ends is no_memory =
        ends-refused cells caller session mid now r result (HasGivenUp cells caller session own now) is left-here
        (λ l. record {
          is = coe 0 1 (i. reply.Refused r ≡ reply.Refused (no_memory i)) refl;
          closed = mid;
          closing = closing;
          refused = coe 0 1 (i. LeavesRefusal cells caller session mid now (no_memory i)) l;
        })

  -- The calls before left nothing.
  module _ (nothing : LeavesOverShards cells caller session.number own mid []) where
    pub tried-reads : GoesOnReading cells caller session.number own now
    tried-reads =
        reading-then cells caller session.number own mid now (plainly cells caller session.number own mid [] nothing)
        refused-reads

    pub tried-ends : (s : Statement) (place : ℕ) (d : Decl) → IfReplied result (λ said. said ≡ reply.Refused r)
        → r ≡ NoMemory → IfReplied result (EndsSelect cells caller session s place d own now)
    tried-ends s place d is no_memory =
        ends-refused cells caller session mid now r result (EndsSelect cells caller session s place d own now) is left-here
        (λ l. coe 1 0 (i. EndsSelect cells caller session s place d own now (reply.Refused (no_memory i)))
        (without_memory
        (goes-on cells caller session.number own mid now [] _ nothing
        (coe 0 1 (i. LeavesRefusal cells caller session mid now (no_memory i)) l))))

-- Calls that hold what was held go on reading.
pub holding-reads : (cells : List (CoreCell CoreShard)) (caller session : ℕ) (own now : List CoreEntry)
    → GoesOnHolding cells caller session own now → GoesOnReading cells caller session own now
holding-reads cells caller session own now h = plainly cells caller session own now [] h.left

-- It gave up after its reader was opened.
pub gave-up : (cells : List (CoreCell CoreShard)) (caller : ℕ) (session : CoreSession) (s : Statement) (place : ℕ)
    (d : Decl) (own opened tried now : List CoreEntry) (epoch : ℕ) (result : Answered) → mode_of session.mode ≡ Idle
    → HasOpenedReader cells caller session.number session.statements epoch own opened
    → GoesOnHolding cells caller session.number opened tried
    → IfReplied result (HasGivenUp cells caller session tried now)
    → IfReplied result (EndsSelect cells caller session s place d own now)
gave-up cells caller session s place d own opened tried now epoch result idle opening trying ends =
    weaker result (HasGivenUp cells caller session tried now) (EndsSelect cells caller session s place d own now)
    (λ said g. subst (λ (r : Reply). EndsSelect cells caller session s place d own now r) (sym g.is)
    (gave_up epoch opened tried g.closed idle opening trying.left g.closing g.refused)) ends

-- It fails a test on its cube.
pub ends-unfit : (cells : List (CoreCell CoreShard)) (caller : ℕ) (session : CoreSession) (own now : List CoreEntry)
    (s : Statement) (place : ℕ) (d : Decl) (misfit : Misfit) → HasMisfit d s misfit → (r : Refusal) → r ≡ of_misfit misfit
    → (result : Answered) → IfReplied result (λ said. said ≡ reply.Refused r)
    → IfReplied result (λ said. LeavesRefusal cells caller session own now r)
    → IfReplied result (EndsSelect cells caller session s place d own now)
ends-unfit cells caller session own now s place d misfit fails r same result is left =
    ends-refused cells caller session own now r result (EndsSelect cells caller session s place d own now) is left
    (λ l. coe 1 0 (i. EndsSelect cells caller session s place d own now (reply.Refused (same i)))
    (unfit misfit fails (coe 0 1 (i. LeavesRefusal cells caller session own now (same i)) l)))

-- A reader was opened, or none for want of memory.
module _ (cells : List (CoreCell CoreShard)) (caller session statement : ℕ) (own now : List CoreEntry) where
  pub opened-as : (s : Snapshot) → s ≡ reader_up_to s.epoch
      → now ≡ own ++ desk_entry caller (call.OpenRead session statement) (answer.Opened s) ∷ []
      → now ≡ own ++ desk_entry caller (call.OpenRead session statement) (answer.Opened (reader_up_to s.epoch)) ∷ []
  opened-as s is opened =
      subst (λ (r : Snapshot). now ≡ own ++ desk_entry caller (call.OpenRead session statement) (answer.Opened r) ∷ []) is
      opened

  pub opened-reader : (new_cells : List (CoreCell CoreShard)) (new_caller : ℕ) → new_cells ≡ cells → new_caller ≡ caller
      → (s : Snapshot) → s ≡ reader_up_to s.epoch
      → now ≡ own ++ desk_entry caller (call.OpenRead session statement) (answer.Opened s) ∷ []
      → HoldsReader FitsShard CoreShardStands ShardAnswerSays new_cells new_caller session now s
      → HasOpenedReader cells caller session statement s.epoch own now
  opened-reader new_cells new_caller p q s is opened holds = record {
    opened = opened-as s is opened;
    holds =
        subst (λ (r : Snapshot). HoldsReader FitsShard CoreShardStands ShardAnswerSays cells caller session now r) is
        (coe 0 1 (i. HoldsReader FitsShard CoreShardStands ShardAnswerSays (p i) (q i) session now s) holds);
  }

  pub none-opened : IsClientOf FitsShard CoreShardStands ShardAnswerSays cells caller session
      → now ≡ own ++ desk_entry caller (call.OpenRead session statement) answer.NoMemory ∷ []
      → LeavesOverShards cells caller session own now []
  none-opened acts is =
      left-by-call FitsShard CoreShardStands ShardAnswerSays cells caller session acts own now 0
      (call.OpenRead session statement) answer.NoMemory is (λ o log run es later are. tt) (λ k. tt)

  pub told-then : (more : IsPrefix own now) (name : List ℕ) (place : ℕ) (d : Decl) → IsToldOfCube own name place d
      → IsToldOfCube now name place d
  told-then more name place d told =
      subst (λ (l : List CoreEntry). IsToldOfCube l name place d) more.1 (told-later own more.0 name place d told)
