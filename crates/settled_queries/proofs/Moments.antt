-- A later run of a client passes the moment right after its own calls.
use Rattle.std.proofs.Common.{◌≡◌, ◌∙◌, ℕ, eqb, Bool, true, false, cond, List, [], ◌∷◌, ◌++◌, refl, sym, ap, subst}
use Rattle.turn_board.specs.History.{of_caller}
use Rattle.cube_core.specs.Links.{AreEventsOf}
use Rattle.cube_core.specs.BoardCells.{IsEntryEvent, IsShardLinked}
use Rattle.core_program.proofs.KnownCalls.{client-part, go-on-from, run-now}
use Rattle.core_program.specs.Knowing.{HasRunOfClient, IsClientOf, IsLaterRun}
use Rattle.core_events.specs.Clients.{calls_of}
use Rattle.core_events.specs.Events.{Opening, CoreEvent}
use Rattle.core_events.specs.Jobs.{CoreJob, JobOutcome}
use Rattle.core_events.specs.Runs.{IsCoreRun}
use Rattle.core_events.specs.ShardView.{ShardView}
use Rattle.core_program.specs.CoreFits.{CoreEntry, OpensCells}
use Rattle.core_program.specs.LinkedCells.{linked-cells}
use Rattle.core_settled.proofs.Settled.{run-before}
use Rattle.cube_core.specs.declared.cell.CoreCell.{CoreCell}
use Rattle.cube_core.specs.declared.shard.ShardAnswer.{ShardAnswer}
use Rattle.cube_core.specs.declared.shard.ShardCall.{ShardCall}
use Rattle.settled_queries.specs.Moments.{PassesMoment}

-- A history up to the last of a caller's own calls.
record Cut (by : ℕ) (own log : List CoreEntry) : Type 0 where
  first : List CoreEntry
  rest : List CoreEntry
  whole : log ≡ first ++ rest
  mine : of_caller by first ≡ own

abbrev first_of : CoreEntry → List CoreEntry → CoreEntry
first_of other [] = other
first_of other (e ∷ log) = e

abbrev behind_first : List CoreEntry → List CoreEntry
behind_first [] = []
behind_first (e ∷ log) = log

no-more : (e : CoreEntry) (log : List CoreEntry) → (e ∷ log) ≡ [] → ⊥
no-more e log is = subst is-more is tt
  where
    is-more : List CoreEntry → Type 0
    is-more [] = ⊥
    is-more (x ∷ xs) = Unit {0}

with-entry : (b : Bool) (by : ℕ) (x : CoreEntry) (own rest : List CoreEntry) (e : CoreEntry) (log : List CoreEntry)
    → eqb e.caller by ≡ b → (x ∷ own ++ rest) ≡ cond b (e ∷ of_caller by log) (of_caller by log)
    → ((own ++ rest) ≡ of_caller by log → Cut by own log)
    → ((x ∷ own ++ rest) ≡ of_caller by log → Cut by (x ∷ own) log)
    → Cut by (x ∷ own) (e ∷ log)
with-entry true by x own rest e log here is less same =
    let c = less (ap behind_first is) in
    record {
      first = e ∷ c.first;
      rest = c.rest;
      whole = ap (λ (l : List CoreEntry). e ∷ l) c.whole;
      mine =
          (λ i. cond (here i) (e ∷ of_caller by c.first) (of_caller by c.first))
          ∙ (λ i. sym (ap (first_of x) is) i ∷ c.mine i);
    }
with-entry false by x own rest e log other is less same =
    let c = same is in
    record {
      first = e ∷ c.first;
      rest = c.rest;
      whole = ap (λ (l : List CoreEntry). e ∷ l) c.whole;
      mine = (λ i. cond (other i) (e ∷ of_caller by c.first) (of_caller by c.first)) ∙ c.mine;
    }

cut : (by : ℕ) (own rest log : List CoreEntry) → (own ++ rest) ≡ of_caller by log → Cut by own log
cut by [] rest log is = record { first = []; rest = log; whole = refl; mine = refl }
cut by (x ∷ own) rest [] is = absurd (no-more x (own ++ rest) is)
cut by (x ∷ own) rest (e ∷ log) is =
    with-entry (eqb e.caller by) by x own rest e log refl is (cut by own rest log) (cut by (x ∷ own) rest log)

module _ {S : Type 0} (fits : Opening → ℕ → ShardCall → Type 0) (stands : Opening → ℕ → ℕ → S → ShardView → Type 0)
    (says : CoreJob → ShardAnswer → JobOutcome → Type 0) (can_shard : S → ShardCall → Type 0)
    (step_shard : S → ShardCall → ShardAnswer → S → Type 0) (link : IsShardLinked can_shard step_shard fits stands says) where
  pub passes : (cells : List (CoreCell S)) (caller client : ℕ) (own log : List CoreEntry) (o : Opening) (run : List CoreEvent)
      → IsClientOf fits stands says cells caller client → IsLaterRun fits stands says cells o caller own log run
      → PassesMoment fits stands says cells o caller client own run
  passes cells caller client own log o run acts later =
      let c = cut caller own later.begins.0 log later.begins.1 in
      let opens : OpensCells fits stands says o cells c.first =
      (linked-cells can_shard step_shard fits stands says link).earlier o cells c.first c.rest
      (subst (λ (l : List CoreEntry). OpensCells fits stands says o cells l) c.whole later.opens)
      in
      let before =
      go-on-from fits stands says cells o c.first c.rest run
      (subst (λ (l : List CoreEntry). AreEventsOf (IsEntryEvent fits stands says o) l run) c.whole later.events)
      in
      let is_run : IsCoreRun o before.before =
      run-before o before.newer before.before (subst (λ (l : List CoreEvent). IsCoreRun o l) before.whole later.is_run)
      in
      let is = acts.client_is o c.first opens in
      let part = client-part fits stands says o caller c.first before.before (acts.acts o c.first opens) before.events in
      let moment : HasRunOfClient fits stands says cells o caller client own c.first =
      record {
        run = before.before;
        is_later = run-now fits stands says cells o caller own c.first before.before opens c.mine before.events is_run;
        es = part.own;
        events =
            subst (λ (l : List CoreEntry). AreEventsOf (IsEntryEvent fits stands says o) l part.own) c.mine part.events;
        calls = coe 1 0 (i. calls_of (is i) before.before ≡ calls_of (is i) part.own) part.same;
      }
      in
      record { log = c.first; moment = moment; later = before.newer; goes_on = before.whole }
