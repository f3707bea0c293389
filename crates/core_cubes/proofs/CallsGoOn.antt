-- Calls of a kind go on by one call, by more of them, and as calls of another kind.
use Rattle.std.proofs.Common.{◌≡◌, ◌∙◌, ℕ, List, [], ◌∷◌, ◌++◌, sym, ap, subst, append_assoc}
use Rattle.std.specs.List.{AllByRecursion}
use mathlib.Core.List.{IsPrefix}
use Rattle.core_program.specs.ClientCalls.{desk_entry}
use Rattle.cube_core.specs.Links.{AreEventsOf}
use Rattle.cube_core.specs.BoardCells.{IsEntryEvent}
use Rattle.core_program.proofs.KnownCalls.{desk-learns, earlier-run}
use Rattle.core_program.specs.Knowing.{IsClientOf, IsLaterRun}
use Rattle.core_cells.specs.declared.desk.DeskAnswer.{DeskAnswer}
use Rattle.core_cells.specs.declared.desk.DeskCall.{DeskCall}
use Rattle.core_events.specs.Clients.{ClientState, calls_of, state_from_calls}
use Rattle.core_events.specs.Events.{Opening, ClientCall}
use Rattle.core_events.specs.Jobs.{CoreJob, JobOutcome}
use Rattle.core_events.specs.ShardView.{ShardView}
use Rattle.cube_core.specs.DeskEvents.{desk_event}
use Rattle.core_states.proofs.CallEntries.{desk-left}
use Rattle.core_states.specs.OwnCalls.{KnowsEnd, OwnCallsLeave, desk_leaves}
use Rattle.core_program.specs.CoreFits.{CoreEntry}
use Rattle.core_states.proofs.LeftCalls.{all-of-both}
use Rattle.core_states.specs.LeftBehind.{AddsCalls, AddsEntries, GoOnByCalls}
use Rattle.cube_core.specs.declared.cell.CoreCell.{CoreCell}
use Rattle.cube_core.specs.declared.shard.ShardAnswer.{ShardAnswer}
use Rattle.cube_core.specs.declared.shard.ShardCall.{ShardCall}

all-are : {X : Type 0} (P Q : X → Type 0) (xs : List X) → ((x : X) → P x → Q x)
    → AllByRecursion P xs → AllByRecursion Q xs
all-are P Q [] are each = tt
all-are P Q (x ∷ xs) are each = (are x each.0, all-are P Q xs are each.1)

module _ {S : Type 0} (fits : Opening → ℕ → ShardCall → Type 0) (stands : Opening → ℕ → ℕ → S → ShardView → Type 0)
    (says : CoreJob → ShardAnswer → JobOutcome → Type 0) (cells : List (CoreCell S)) (caller session : ℕ) where
  abbrev GoOn : (ClientCall → Type 0) → List CoreEntry → List CoreEntry → Type 0
  GoOn Is own now = GoOnByCalls fits stands says cells caller session Is own now

  -- As calls of another kind.
  pub go-on-as : (Is Are : ClientCall → Type 0) (own now : List CoreEntry) → ((c : ClientCall) → Is c → Are c)
      → GoOn Is own now → GoOn Are own now
  go-on-as Is Are own now are on o log run es later events =
      let a : AddsCalls fits stands says Is o session own es = on o log run es later events in
      record {
        before = a.before;
        events = a.events;
        added = a.added;
        calls = a.calls;
        each = all-are Is Are a.added are a.each;
      }

  -- By more of them.
  pub go-on-then : (Is : ClientCall → Type 0) (own mid now : List CoreEntry) → IsPrefix mid now → GoOn Is own mid
      → GoOn Is mid now → GoOn Is own now
  go-on-then Is own mid now more one two o log run es later events =
      let last : AddsCalls fits stands says Is o session mid es = two o log run es later events in
      let earlier : IsLaterRun fits stands says cells o caller mid log run =
      earlier-run fits stands says cells o caller mid more.0 log run
      (subst (λ (l : List CoreEntry). IsLaterRun fits stands says cells o caller l log run) (sym more.1) later)
      in
      let first : AddsCalls fits stands says Is o session own last.before =
      one o log run last.before earlier last.events
      in
      record {
        before = first.before;
        events = first.events;
        added = last.added ++ first.added;
        calls =
            last.calls
            ∙ ap (λ (l : List ClientCall). last.added ++ l) first.calls
            ∙ sym (append_assoc last.added first.added (calls_of session first.before));
        each = all-of-both Is last.added first.added last.each first.each;
      }

  module _ (acts : IsClientOf fits stands says cells caller session) (own now : List CoreEntry) (c : DeskCall)
      (said : DeskAnswer) (is : now ≡ own ++ desk_entry caller c said ∷ []) where
    -- By one call on the desk.
    pub go-on-by-call : (Is : ClientCall → Type 0) → ((k : ClientState) → Is (desk_event session k c said))
        → GoOn Is own now
    go-on-by-call Is is_such o log run es later events =
        let g =
        desk-learns fits stands says cells caller session acts own c said o log es later.opens
        (subst (λ (l : List CoreEntry). AreEventsOf (IsEntryEvent fits stands says o) l es) is events)
        in
        let k : ClientState = state_from_calls o session (calls_of session g.before) in
        record {
          before = g.before;
          events = g.events;
          added = desk_event session k c said ∷ [];
          calls = g.calls;
          each = (is_such k, tt);
        }

    -- It adds its entries.
    pub adds-by-call : (epoch : ℕ) → KnowsEnd fits stands says cells caller session own epoch c
        → AddsEntries fits stands says cells caller session own now (desk_leaves session epoch c said)
    adds-by-call epoch ends entries leave =
        subst (λ (l : List CoreEntry). OwnCallsLeave fits stands says cells caller session l
        (entries ++ desk_leaves session epoch c said)) (sym is)
        (desk-left fits stands says cells caller session own entries epoch c said acts leave ends)
