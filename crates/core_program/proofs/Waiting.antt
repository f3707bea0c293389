-- A client that asks for an answer until there is one.
use Rattle.std.proofs.Common.{◌≡◌, ◌∙◌, ℕ, zero, suc, List, [], ◌∷◌, ◌++◌, append_assoc, append-nil, replicate, true, refl, sym, ap, subst}
use Rattle.mail_cell.specs.declared.answer.Fetched.TheVariants.{Got, NotYet}
use Rattle.core_program.specs.ClientCalls.{HasFetched, LearnsByFetch, ask_entry}
use Rattle.cube_core.specs.Links.{AreEventsOf}
use Rattle.cube_core.specs.BoardCells.{IsEntryEvent}
use Rattle.core_program.specs.Knowing.{GoOnBy, GoOnByFetch, IsLaterRun, Knows, MayFetchFrom, last_posted}
use Rattle.core_program.proofs.KnownCalls.{earlier-run}
use Rattle.core_events.specs.Clients.{calls_of, state_from_calls}
use Rattle.core_events.specs.Events.{Opening, Fetch, NoChange, ClientCall, CoreEvent, By}
use Rattle.core_events.specs.Groups.{has_number}
use Rattle.core_events.specs.Jobs.{CoreJob, JobOutcome}
use Rattle.core_events.specs.ShardView.{ShardView}
use Rattle.core_program.specs.CoreFits.{CoreEntry, OpensCells}
use Rattle.cube_core.specs.declared.cell.CoreCell.{CoreCell}
use Rattle.cube_core.specs.declared.jobs.JobAnswer.{JobAnswer}
use Rattle.cube_core.specs.declared.shard.ShardAnswer.{ShardAnswer}
use Rattle.cube_core.specs.declared.shard.ShardCall.{ShardCall}

one-behind : {X : Type 0} (x : X) (n : ℕ) → replicate n x ++ x ∷ [] ≡ x ∷ replicate n x
one-behind x zero = refl
one-behind x (suc n) = ap (λ (l : List _). x ∷ l) (one-behind x n)

module _ {S : Type 0} (fits : Opening → ℕ → ShardCall → Type 0) (stands : Opening → ℕ → ℕ → S → ShardView → Type 0)
    (says : CoreJob → ShardAnswer → JobOutcome → Type 0) (cells : List (CoreCell S)) (caller client number cell : ℕ) where
  -- The calls of the client after so many that found nothing.
  pub record GoOnWaiting (o : Opening) (waits : ℕ) (own : List CoreEntry) (es : List CoreEvent) : Type 0 where
    pub before : List CoreEvent
    pub events : AreEventsOf (IsEntryEvent fits stands says o) own before
    pub whole : es ≡ replicate waits (By client NoChange) ++ before
    pub calls : calls_of client es ≡ replicate waits NoChange ++ calls_of client before

  -- It asked so often, and knows that it still waits.
  pub record HasWaited (own now : List CoreEntry) : Type 0 where
    pub waits : ℕ
    pub whole : now ≡ own ++ replicate waits (ask_entry caller client cell NotYet)
    pub knows : Knows fits stands says cells caller client now (MayFetchFrom client number)
    pub learns : (o : Opening) (log : List CoreEntry) (es : List CoreEvent) → OpensCells fits stands says o cells log
        → AreEventsOf (IsEntryEvent fits stands says o) now es → GoOnWaiting o waits own es

  pub not-waited : (own : List CoreEntry) → Knows fits stands says cells caller client own (MayFetchFrom client number) → HasWaited own own
  not-waited own knows = record {
    waits = 0;
    whole = sym (append-nil own);
    knows = knows;
    learns = λ o log es opens are. record { before = es; events = are; whole = refl; calls = refl };
  }

  pub waits-on : (own now next : List CoreEntry) → HasWaited own now → next ≡ now ++ ask_entry caller client cell NotYet ∷ []
      → ((o : Opening) (log : List CoreEntry) (es : List CoreEvent) → OpensCells fits stands says o cells log
      → AreEventsOf (IsEntryEvent fits stands says o) (now ++ ask_entry caller client cell NotYet ∷ []) es
      → GoOnBy fits stands says cells o client now es (λ calls. NoChange)) → HasWaited own next
  waits-on own now next waited is goes = record {
    waits = suc waited.waits;
    whole = is
        ∙ ap (λ (l : List CoreEntry). l ++ ask_entry caller client cell NotYet ∷ []) waited.whole
        ∙ append_assoc own (replicate waited.waits (ask_entry caller client cell NotYet)) (ask_entry caller client cell NotYet ∷ [])
        ∙ ap (λ (l : List CoreEntry). own ++ l) (one-behind (ask_entry caller client cell NotYet) waited.waits);
    knows = λ o log run es later are.
        let now_later : IsLaterRun fits stands says cells o caller (now ++ ask_entry caller client cell NotYet ∷ []) log run =
        subst (λ (l : List CoreEntry). IsLaterRun fits stands says cells o caller l log run) is later
        in
        let s = goes o log es later.opens (subst (λ (l : List CoreEntry). AreEventsOf (IsEntryEvent fits stands says o) l es) is are) in
        subst (λ (calls : List ClientCall). has_number (state_from_calls o client calls).group.waits number ≡ true) (sym s.calls)
        (waited.knows o log run s.before
        (earlier-run fits stands says cells o caller now (ask_entry caller client cell NotYet ∷ []) log run now_later) s.events);
    learns = λ o log es opens are.
        let s = goes o log es opens (subst (λ (l : List CoreEntry). AreEventsOf (IsEntryEvent fits stands says o) l es) is are) in
        let w = waited.learns o log s.before opens s.events in
        record {
          before = w.before;
          events = w.events;
          whole = s.whole ∙ ap (λ (l : List CoreEvent). By client NoChange ∷ l) w.whole;
          calls = s.calls ∙ ap (λ (l : List ClientCall). NoChange ∷ l) w.calls;
        };
  }

  pub got-it : (own now next : List CoreEntry) (said : JobAnswer) → HasWaited own now → next ≡ now ++ ask_entry caller client cell (Got said) ∷ []
      → HasFetched caller client cell said own next
  got-it own now next said waited is = record {
    waits = waited.waits;
    whole = is ∙ ap (λ (l : List CoreEntry). l ++ ask_entry caller client cell (Got said) ∷ []) waited.whole;
  }

  -- The job that was posted last is that before the waits.
  same-posted : (waits : ℕ) (calls : List ClientCall) → last_posted number (replicate waits NoChange ++ calls) ≡ last_posted number calls
  same-posted zero calls = refl
  same-posted (suc waits) calls = same-posted waits calls

  pub learns-it : (own now next : List CoreEntry) (said : JobAnswer) → HasWaited own now → next ≡ now ++ ask_entry caller client cell (Got said) ∷ []
      → ((o : Opening) (log : List CoreEntry) (es : List CoreEvent) → OpensCells fits stands says o cells log
      → AreEventsOf (IsEntryEvent fits stands says o) (now ++ ask_entry caller client cell (Got said) ∷ []) es
      → GoOnByFetch fits stands says cells o client number now es said) → LearnsByFetch fits stands says cells client number said own next
  learns-it own now next said waited is goes o log es opens are =
      let s = goes o log es opens (subst (λ (l : List CoreEntry). AreEventsOf (IsEntryEvent fits stands says o) l es) is are) in
      let w = waited.learns o log s.before opens s.events in
      record {
        before = w.before;
        events = w.events;
        waits = waited.waits;
        job = s.job;
        outcome = s.outcome;
        asked = sym (ap (last_posted number) w.calls ∙ same-posted waited.waits (calls_of client w.before)) ∙ s.asked;
        stands_for = s.stands_for;
        whole = s.whole ∙ ap (λ (l : List CoreEvent). By client (Fetch number s.outcome) ∷ l) w.whole;
        calls = s.calls ∙ ap (λ (l : List ClientCall). Fetch number s.outcome ∷ l) w.calls;
      }
