-- What calls leave behind them, by one call and by calls one after the other.
use Rattle.std.proofs.Common.{◌≡◌, ◌∙◌, ℕ, List, [], ◌∷◌, ◌++◌, refl, sym, ap, subst, append_assoc, append-nil}
use Rattle.std.specs.List.{AllByRecursion}
use mathlib.Core.List.{IsPrefix}
use Rattle.core_program.specs.ClientCalls.{desk_entry}
use Rattle.cube_core.specs.Links.{AreEventsOf}
use Rattle.cube_core.specs.BoardCells.{IsEntryEvent}
use Rattle.core_cells.specs.declared.desk.DeskAnswer.{DeskAnswer}
use Rattle.core_cells.specs.declared.desk.DeskCall.{DeskCall}
use Rattle.core_program.proofs.KnownCalls.{desk-learns, earlier-run}
use Rattle.core_program.specs.Knowing.{IsClientOf, IsLaterRun}
use Rattle.core_events.specs.Clients.{ClientState, calls_of, state_from_calls}
use Rattle.core_events.specs.Events.{Opening, ClientCall}
use Rattle.core_events.specs.Jobs.{CoreJob, JobOutcome}
use Rattle.core_events.specs.ShardView.{ShardView}
use Rattle.cube_core.specs.DeskEvents.{desk_event}
use Rattle.core_states.proofs.CallEntries.{desk-left}
use Rattle.core_states.specs.OwnCalls.{KnowsEnd, OwnCallsLeave, desk_leaves}
use Rattle.core_program.specs.CoreFits.{CoreEntry}
use Rattle.core_states.specs.LeftBehind.{AddsCalls, IsPlainCall, LeavesBehind}
use Rattle.cube_core.specs.declared.cell.CoreCell.{CoreCell}
use Rattle.cube_core.specs.declared.shard.ShardAnswer.{ShardAnswer}
use Rattle.cube_core.specs.declared.shard.ShardCall.{ShardCall}
use Rattle.cube_journal.specs.declared.journal_entry.JournalEntry.{JournalEntry}

pub longer-front : {X : Type 0} (front own now : List X) → IsPrefix front own → IsPrefix own now → IsPrefix front now
longer-front front own now begins more =
    (begins.0 ++ more.0, sym (append_assoc front begins.0 more.0) ∙ ap (λ xs. xs ++ more.0) begins.1 ∙ more.1)

pub all-of-both : {X : Type 0} (P : X → Type 0) (xs ys : List X) → AllByRecursion P xs → AllByRecursion P ys
    → AllByRecursion P (xs ++ ys)
all-of-both P [] ys one two = two
all-of-both P (x ∷ xs) ys one two = (one.0, all-of-both P xs ys one.1 two)

module _ {S : Type 0} (fits : Opening → ℕ → ShardCall → Type 0) (stands : Opening → ℕ → ℕ → S → ShardView → Type 0)
    (says : CoreJob → ShardAnswer → JobOutcome → Type 0) (cells : List (CoreCell S)) (caller session : ℕ) where
  abbrev Left : List CoreEntry → List CoreEntry → List JournalEntry → Type 0
  Left own now added = LeavesBehind fits stands says cells caller session own now added

  -- By no call.
  pub left-nothing : (own : List CoreEntry) → Left own own []
  left-nothing own = record {
    more = ([], append-nil own);
    entries = λ entries leave.
        subst (λ (es : List JournalEntry). OwnCallsLeave fits stands says cells caller session own es)
        (sym (append-nil entries)) leave;
    plain = λ o log run es later are. record { before = es; events = are; added = []; calls = refl; each = tt };
  }

  -- By calls, and then more.
  pub left-then : (own mid now : List CoreEntry) (added more : List JournalEntry) → Left own mid added
      → Left mid now more → Left own now (added ++ more)
  left-then own mid now added more one two = record {
    more = longer-front own mid now one.more two.more;
    entries = λ entries leave.
        subst (λ (es : List JournalEntry). OwnCallsLeave fits stands says cells caller session now es)
        (append_assoc entries added more) (two.entries (entries ++ added) (one.entries entries leave));
    plain = λ o log run es later are.
        let last : AddsCalls fits stands says IsPlainCall o session mid es = two.plain o log run es later are in
        let earlier : IsLaterRun fits stands says cells o caller mid log run =
        earlier-run fits stands says cells o caller mid two.more.0 log run
        (subst (λ (l : List CoreEntry). IsLaterRun fits stands says cells o caller l log run) (sym two.more.1) later)
        in
        let first : AddsCalls fits stands says IsPlainCall o session own last.before =
        one.plain o log run last.before earlier last.events
        in
        record {
          before = first.before;
          events = first.events;
          added = last.added ++ first.added;
          calls =
              last.calls
              ∙ ap (λ (l : List ClientCall). last.added ++ l) first.calls
              ∙ sym (append_assoc last.added first.added (calls_of session first.before));
          each = all-of-both IsPlainCall last.added first.added last.each first.each;
        };
  }

  -- By one call on the desk.
  pub left-by-call : IsClientOf fits stands says cells caller session → (own now : List CoreEntry) (epoch : ℕ)
      (c : DeskCall) (said : DeskAnswer) → now ≡ own ++ desk_entry caller c said ∷ []
      → KnowsEnd fits stands says cells caller session own epoch c
      → ((k : ClientState) → IsPlainCall (desk_event session k c said))
      → Left own now (desk_leaves session epoch c said)
  left-by-call acts own now epoch c said is ends plain_call = record {
    more = (desk_entry caller c said ∷ [], sym is);
    entries = λ entries leave.
        subst (λ (l : List CoreEntry). OwnCallsLeave fits stands says cells caller session l
        (entries ++ desk_leaves session epoch c said)) (sym is)
        (desk-left fits stands says cells caller session own entries epoch c said acts leave ends);
    plain = λ o log run es later are.
        let g =
        desk-learns fits stands says cells caller session acts own c said o log es later.opens
        (subst (λ (l : List CoreEntry). AreEventsOf (IsEntryEvent fits stands says o) l es) is are)
        in
        let k : ClientState = state_from_calls o session (calls_of session g.before) in
        record {
          before = g.before;
          events = g.events;
          added = desk_event session k c said ∷ [];
          calls = g.calls;
          each = (plain_call k, tt);
        };
  }
