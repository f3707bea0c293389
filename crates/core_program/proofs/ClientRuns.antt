-- The history of a client's calls is a run, of which what the client knows holds.
use Rattle.std.proofs.Common.{◌≡◌, ℕ, List, sym, subst}
use Rattle.board_callers.specs.Callers.{HasHistoryOf}
use Rattle.cube_core.proofs.LinkedHistories.{history-run}
use Rattle.cube_core.specs.Links.{AreEventsOf}
use Rattle.cube_core.specs.BoardCells.{IsEntryEvent, IsShardLinked, StandsInCell}
use Rattle.core_program.proofs.KnownCalls.{client-part, run-now}
use Rattle.core_program.specs.Knowing.{Claim, HasRunOfClient, IsClientOf, Knows}
use Rattle.core_events.specs.Clients.{calls_of}
use Rattle.core_events.specs.Events.{Opening, ClientCall}
use Rattle.core_events.specs.Jobs.{CoreJob, JobOutcome}
use Rattle.core_events.specs.ShardView.{ShardView}
use Rattle.core_program.specs.CoreFits.{CoreEntry, FitsOwnCalls, OpensCells}
use Rattle.core_program.specs.LinkedCells.{linked-cells}
use Rattle.cube_core.specs.CoreSteps.{CoreStep}
use Rattle.cube_core.specs.declared.cell.CoreCell.{CoreCell}
use Rattle.cube_core.specs.declared.shard.ShardAnswer.{ShardAnswer}
use Rattle.cube_core.specs.declared.shard.ShardCall.{ShardCall}

module _ {S : Type 0} (fits : Opening → ℕ → ShardCall → Type 0) (stands : Opening → ℕ → ℕ → S → ShardView → Type 0)
    (says : CoreJob → ShardAnswer → JobOutcome → Type 0) (can_shard : S → ShardCall → Type 0)
    (step_shard : S → ShardCall → ShardAnswer → S → Type 0) (link : IsShardLinked can_shard step_shard fits stands says) where
  pub client-run : (cells : List (CoreCell S)) (caller client : ℕ) (own : List CoreEntry) (o : Opening) → IsClientOf fits stands says cells caller client
      → (h : HasHistoryOf (CoreStep step_shard) (FitsOwnCalls fits stands says) cells caller own) → OpensCells fits stands says o cells h.log
      → HasRunOfClient fits stands says cells o caller client own h.log
  client-run cells caller client own o acts h opens =
      let run =
      history-run (CoreStep step_shard) (FitsOwnCalls fits stands says) (λ p. OpensCells fits stands says p) (λ p. IsEntryEvent fits stands says p)
      (λ p. StandsInCell fits stands says p) (linked-cells can_shard step_shard fits stands says link) o cells h.log opens h.run
      in
      let is = acts.client_is o h.log opens in
      let part = client-part fits stands says o caller h.log run.es (acts.acts o h.log opens) run.events in
      record {
        run = run.es;
        is_later = run-now fits stands says cells o caller own h.log run.es opens h.mine run.events run.run;
        es = part.own;
        events = subst (λ (l : List CoreEntry). AreEventsOf (IsEntryEvent fits stands says o) l part.own) h.mine part.events;
        calls = coe 1 0 (i. calls_of (is i) run.es ≡ calls_of (is i) part.own) part.same;
      }

-- So what a client knows holds of its calls in the run.
pub known-in-run : {S : Type 0} (fits : Opening → ℕ → ShardCall → Type 0) (stands : Opening → ℕ → ℕ → S → ShardView → Type 0)
    (says : CoreJob → ShardAnswer → JobOutcome → Type 0) (cells : List (CoreCell S)) (caller client : ℕ) (own log : List CoreEntry) (o : Opening)
    (P : Claim) → Knows fits stands says cells caller client own P → (r : HasRunOfClient fits stands says cells o caller client own log)
    → P o (calls_of client r.run)
known-in-run fits stands says cells caller client own log o P knows r =
    subst (λ (calls : List ClientCall). P o calls) (sym r.calls) (knows o log r.run r.es r.is_later r.events)
