-- Calls that ask only for such texts, one after the other.
use Rattle.std.proofs.Common.{◌≡◌, ◌⊎◌, inl, inr, ℕ, List, [], ◌∷◌, ◌++◌, refl, sym, subst}
use Rattle.std.specs.List.{AllByRecursion}
use mathlib.Core.List.{IsPrefix}
use Rattle.core_events.specs.Clients.{calls_of}
use Rattle.core_events.specs.Events.{Opening, ClientCall, CoreEvent}
use Rattle.core_events.specs.Jobs.{CoreJob, JobOutcome}
use Rattle.core_events.specs.ShardView.{ShardView}
use Rattle.core_names.specs.AskedNames.{HasAskedFor}
use Rattle.core_program.proofs.KnownCalls.{earlier-run}
use Rattle.core_program.specs.CoreFits.{CoreEntry}
use Rattle.core_program.specs.Knowing.{IsClientOf, IsLaterRun}
use Rattle.core_states.specs.LeftBehind.{AddsCalls, AsksForNone, GoOnByCalls}
use Rattle.cube_core.specs.BoardCells.{IsEntryEvent}
use Rattle.cube_core.specs.Links.{AreEventsAfter, AreEventsOf}
use Rattle.cube_core.specs.declared.cell.CoreCell.{CoreCell}
use Rattle.cube_core.specs.declared.shard.ShardAnswer.{ShardAnswer}
use Rattle.cube_core.specs.declared.shard.ShardCall.{ShardCall}
use Rattle.scripted_pasts.proofs.AskedCalls.{calls-ask, entries-ask}
use Rattle.scripted_pasts.proofs.NamesMore.{asked-before}
use Rattle.scripted_pasts.specs.AskedTexts.{AsksOnly, IsAskedForBy}
use Rattle.posted_pasts.specs.PostsAdded.{GoesOnWith, LearnsThat}

module _ {S : Type 0} (fits : Opening → ℕ → ShardCall → Type 0) (stands : Opening → ℕ → ℕ → S → ShardView → Type 0)
    (says : CoreJob → ShardAnswer → JobOutcome → Type 0) (o : Opening) where
  -- The events of the first of some entries.
  record FirstEvents (earlier : List CoreEvent) (own : List CoreEntry) : Type 0 where
    before : List CoreEvent
    events : AreEventsAfter (IsEntryEvent fits stands says o) earlier own before

  first-events : (own more : List CoreEntry) (earlier es : List CoreEvent)
      → AreEventsAfter (IsEntryEvent fits stands says o) earlier (own ++ more) es → FirstEvents earlier own
  first-events [] more earlier es are = record { before = earlier; events = refl }
  first-events (e ∷ own) more earlier es are =
      let rest = first-events own more (are.0 ∷ earlier) es are.2 in
      record { before = rest.before; events = (are.0, are.1, rest.events) }

module _ {S : Type 0} (fits : Opening → ℕ → ShardCall → Type 0) (stands : Opening → ℕ → ℕ → S → ShardView → Type 0)
    (says : CoreJob → ShardAnswer → JobOutcome → Type 0) (cells : List (CoreCell S)) (caller session : ℕ)
    (IsText : ℕ → ℕ → List ℕ → Type 0) where
  abbrev Only : List CoreEntry → List CoreEntry → Type 0
  Only own now = LearnsThat fits stands says (AsksOnly IsText) cells caller session own now

  -- By no call.
  pub only-none : (own : List CoreEntry) → Only own own
  only-none own o log run es later are =
      record { before = es; events = are; adds = λ cube dim text asked. inl asked }

  -- By calls that ask for none.
  pub only-plain : (own now : List CoreEntry)
      → GoOnByCalls fits stands says cells caller session AsksForNone own now → Only own now
  only-plain own now goes o log run es later are =
      let a : AddsCalls fits stands says AsksForNone o session own es = goes o log run es later are in
      record {
        before = a.before;
        events = a.events;
        adds = λ cube dim text asked.
            inl (asked-before cube dim text a.added (calls_of session a.before) a.each
            (subst (λ (calls : List ClientCall). IsAskedForBy calls cube dim text) a.calls asked));
      }

  -- By calls, and then more.
  pub only-then : (own mid now : List CoreEntry) → IsPrefix mid now → Only own mid → Only mid now → Only own now
  only-then own mid now more one two o log run es later are =
      let last : GoesOnWith fits stands says (AsksOnly IsText) o session mid es = two o log run es later are in
      let earlier : IsLaterRun fits stands says cells o caller mid log run =
      earlier-run fits stands says cells o caller mid more.0 log run
      (subst (λ (l : List CoreEntry). IsLaterRun fits stands says cells o caller l log run) (sym more.1) later)
      in
      let first : GoesOnWith fits stands says (AsksOnly IsText) o session own last.before =
      one o log run last.before earlier last.events
      in
      record {
        before = first.before;
        events = first.events;
        adds = λ cube dim text asked.
            elim (last.adds cube dim text asked) [
              | inl old ↦ first.adds cube dim text old
              | inr is ↦ inr is
            ];
      }

  -- By what its own entries ask besides.
  pub only-entries : (own now : List CoreEntry) → IsClientOf fits stands says cells caller session → IsPrefix own now
      → ((cube dim : ℕ) (text : List ℕ) → HasAskedFor now cube dim text
      → HasAskedFor own cube dim text ⊎ IsText cube dim text)
      → Only own now
  only-entries own now acts more asked o log run es later are =
      let b : FirstEvents fits stands says o [] own =
      first-events fits stands says o own more.0 [] es
      (subst (λ (l : List CoreEntry). AreEventsOf (IsEntryEvent fits stands says o) l es) (sym more.1) are)
      in
      let earlier : IsLaterRun fits stands says cells o caller own log run =
      earlier-run fits stands says cells o caller own more.0 log run
      (subst (λ (l : List CoreEntry). IsLaterRun fits stands says cells o caller l log run) (sym more.1) later)
      in
      record {
        before = b.before;
        events = b.events;
        adds = λ cube dim text calls.
            elim (asked cube dim text
            (calls-ask fits stands says cells caller session o log run es now acts later are cube dim text calls)) [
              | inl old ↦
                  inl (entries-ask fits stands says cells caller session o log run b.before own acts earlier b.events
                  cube dim text old)
              | inr is ↦ inr is
            ];
      }

-- Such texts are others.
pub only-weaker : {S : Type 0} (fits : Opening → ℕ → ShardCall → Type 0)
    (stands : Opening → ℕ → ℕ → S → ShardView → Type 0) (says : CoreJob → ShardAnswer → JobOutcome → Type 0)
    (cells : List (CoreCell S)) (caller session : ℕ) (Is Are : ℕ → ℕ → List ℕ → Type 0) (own now : List CoreEntry)
    → ((cube dim : ℕ) (text : List ℕ) → Is cube dim text → Are cube dim text)
    → LearnsThat fits stands says (AsksOnly Is) cells caller session own now
    → LearnsThat fits stands says (AsksOnly Are) cells caller session own now
only-weaker fits stands says cells caller session Is Are own now are learns o log run es later events =
    let g : GoesOnWith fits stands says (AsksOnly Is) o session own es = learns o log run es later events in
    record {
      before = g.before;
      events = g.events;
      adds = λ cube dim text asked.
          elim (g.adds cube dim text asked) [
            | inl old ↦ inl old
            | inr is ↦ inr (are cube dim text is)
          ];
    }
