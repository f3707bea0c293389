-- Calls on the names leave no entries, and those that copy names are plain calls.
use Rattle.std.proofs.Common.{◌∙◌, ℕ, List, [], ◌∷◌, ◌++◌, refl, sym, ap, subst, append-nil, append_assoc}
use Rattle.std.specs.List.{AllByRecursion}
use Rattle.core_program.specs.ClientCalls.{names_entry}
use Rattle.core_program.proofs.KnownCalls.{earlier-run, names-learn}
use Rattle.core_program.specs.Knowing.{IsClientOf}
use Rattle.core_cells.specs.declared.names.NamesAnswer.{NamesAnswer}
use Rattle.core_cells.specs.declared.names.NamesAnswer.TheVariants as told
use Rattle.core_cells.specs.declared.names.NamesCall.{NamesCall}
use Rattle.core_cells.specs.declared.names.NamesCall.TheVariants as names
use Rattle.core_events.specs.Events.{Opening, ClientCall}
use Rattle.core_events.specs.Jobs.{CoreJob, JobOutcome}
use Rattle.core_events.specs.ShardView.{ShardView}
use Rattle.cube_core.specs.NamesEvents.{names_event}
use Rattle.core_states.proofs.CallEntries.{names-left}
use Rattle.core_states.specs.OwnCalls.{OwnCallsLeave}
use Rattle.core_program.specs.CoreFits.{CoreEntry}
use Rattle.core_states.proofs.LeftCalls.{all-of-both, left-nothing, left-then}
use Rattle.core_states.specs.LeftBehind.{AddsCalls, GoOnByCalls, IsPlainCall, LeavesBehind}
use Rattle.cube_core.specs.declared.cell.CoreCell.{CoreCell}
use Rattle.cube_core.specs.declared.shard.ShardAnswer.{ShardAnswer}
use Rattle.cube_core.specs.declared.shard.ShardCall.{ShardCall}
use Rattle.cube_journal.specs.declared.journal_entry.JournalEntry.{JournalEntry}
use Rattle.core_names.specs.AskedNames.{GoOnByCopies, GoOnByNames, IsCopyEntry, IsNamesEntry}
use Rattle.core_names.specs.CallsOnNames.{IsCallOnNames, LeavesByNames}
use Rattle.core_names.proofs.HeldOn.{by-names, entries-on}

-- ---- calls that copy names

plain-copy : (place dim from : ℕ) (said : NamesAnswer) → IsPlainCall (names_event (names.CopyFrom place dim from) said)
plain-copy place dim from (told.Copied copied) = tt
plain-copy place dim from said = tt

pub copies-none : (caller : ℕ) (own : List CoreEntry) → GoOnByCopies caller own own
copies-none caller own = record { added = []; whole = sym (append-nil own); only = tt }

pub copies-both : (caller : ℕ) (own mid now : List CoreEntry) → GoOnByCopies caller own mid
    → GoOnByCopies caller mid now
    → GoOnByCopies caller own now
copies-both caller own mid now h k = record {
  added = h.added ++ k.added;
  whole = k.whole ∙ ap (λ (l : List CoreEntry). l ++ k.added) h.whole ∙ append_assoc own h.added k.added;
  only = all-of-both (IsCopyEntry caller) h.added k.added h.only k.only;
}

are-names : (caller : ℕ) (added : List CoreEntry) → AllByRecursion (IsCopyEntry caller) added
    → AllByRecursion (IsNamesEntry caller) added
are-names caller [] only = tt
are-names caller (e ∷ added) only = (
  record {
    call = names.CopyFrom only.0.place only.0.dim only.0.from;
    said = only.0.said;
    is = only.0.is;
  },
  are-names caller added only.1,
)

pub copies-are-names : (caller : ℕ) (own now : List CoreEntry) → GoOnByCopies caller own now
    → GoOnByNames caller own now
copies-are-names caller own now copies =
    record { added = copies.added; whole = copies.whole; only = are-names caller copies.added copies.only }

is-on-names : (c : NamesCall) (said : NamesAnswer) → IsCallOnNames (names_event c said)
is-on-names (names.Encode cube dim shape name) (told.Coded code) = tt
is-on-names (names.Find cube dim name) (told.Found number) = tt
is-on-names (names.CopyFrom cube dim from) (told.Copied copied) = tt
is-on-names c said = tt

module _ {S : Type 0} (fits : Opening → ℕ → ShardCall → Type 0) (stands : Opening → ℕ → ℕ → S → ShardView → Type 0)
    (says : CoreJob → ShardAnswer → JobOutcome → Type 0) (cells : List (CoreCell S)) (caller session : ℕ)
    (acts : IsClientOf fits stands says cells caller session) where
  abbrev LeaveNothing : List CoreEntry → List CoreEntry → Type 0
  LeaveNothing own now = LeavesBehind fits stands says cells caller session own now []

  -- By one call on the names that is plain.
  left-by-one : (own : List CoreEntry) (c : NamesCall) (said : NamesAnswer) → IsPlainCall (names_event c said)
      → LeaveNothing own (own ++ names_entry caller c said ∷ [])
  left-by-one own c said plain = record {
    more = (names_entry caller c said ∷ [], refl);
    entries = λ entries leave.
        subst (λ (es : List JournalEntry).
        OwnCallsLeave fits stands says cells caller session (own ++ names_entry caller c said ∷ []) es)
        (sym (append-nil entries)) (names-left fits stands says cells caller session own entries c said acts leave);
    plain = λ o log run es later are.
        let g = names-learn fits stands says cells caller session acts own c said o log es later.opens are in
        record {
          before = g.before;
          events = g.events;
          added = names_event c said ∷ [];
          calls = g.calls;
          each = (plain, tt);
        };
  }

  left-by-all : (added own mid : List CoreEntry) → AllByRecursion (IsCopyEntry caller) added → LeaveNothing own mid
      → LeaveNothing own (mid ++ added)
  left-by-all [] own mid only left = subst (LeaveNothing own) (sym (append-nil mid)) left
  left-by-all (e ∷ added) own mid only left =
      let copy = names.CopyFrom only.0.place only.0.dim only.0.from in
      let one : LeaveNothing mid (mid ++ e ∷ []) =
      subst (λ (x : CoreEntry). LeaveNothing mid (mid ++ x ∷ [])) (sym only.0.is)
      (left-by-one mid copy only.0.said (plain-copy only.0.place only.0.dim only.0.from only.0.said))
      in
      subst (LeaveNothing own) (append_assoc mid (e ∷ []) added)
      (left-by-all added own (mid ++ e ∷ []) only.1
      (left-then fits stands says cells caller session own mid (mid ++ e ∷ []) [] [] left one))

  pub left-by-copies : (own now : List CoreEntry) → GoOnByCopies caller own now → LeaveNothing own now
  left-by-copies own now copies =
      subst (LeaveNothing own) (sym copies.whole)
      (left-by-all copies.added own own copies.only (left-nothing fits stands says cells caller session own))

  -- ---- all calls on the names

  abbrev OnNamesAlone : List CoreEntry → List CoreEntry → Type 0
  OnNamesAlone own now = GoOnByCalls fits stands says cells caller session IsCallOnNames own now

  one-more-on-names : (own mid : List CoreEntry) (c : NamesCall) (said : NamesAnswer) → OnNamesAlone own mid
      → OnNamesAlone own (mid ++ names_entry caller c said ∷ [])
  one-more-on-names own mid c said goes o log run es later are =
      let g = names-learn fits stands says cells caller session acts mid c said o log es later.opens are in
      let first : AddsCalls fits stands says IsCallOnNames o session own g.before =
      goes o log run g.before
      (earlier-run fits stands says cells o caller mid (names_entry caller c said ∷ []) log run later) g.events
      in
      record {
        before = first.before;
        events = first.events;
        added = names_event c said ∷ first.added;
        calls = g.calls ∙ ap (λ (l : List ClientCall). names_event c said ∷ l) first.calls;
        each = (is-on-names c said, first.each);
      }

  pub left-by-names : (own now : List CoreEntry) → GoOnByNames caller own now
      → LeavesByNames fits stands says cells caller session own now
  left-by-names own now asks = record {
    more = (asks.added, sym asks.whole);
    entries = λ entries leave.
        subst (λ (es : List JournalEntry). OwnCallsLeave fits stands says cells caller session now es)
        (sym (append-nil entries))
        (entries-on fits stands says cells caller session acts own now entries asks leave);
    calls =
        by-names caller (λ l. OnNamesAlone own l) (λ l c said goes. one-more-on-names own l c said goes) own now asks
        (λ o log run es later are. record { before = es; events = are; added = []; calls = refl; each = tt });
  }
