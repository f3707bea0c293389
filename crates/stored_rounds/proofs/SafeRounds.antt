-- The desk's latest safe epoch is the one that the flusher's calls tell, and a round that it opens begins there.
use Rattle.std.proofs.Common.{◌≡◌, ◌∙◌, ℕ, ◌==◌, Bool, true, false, true≢false, List, [], ◌∷◌, refl, sym, ap, eqb-true, eq-eqb, if◌then◌else◌}
use Rattle.aosi_desk.specs.State.{round_answer}
use Rattle.aosi_desk.specs.declared.answer.RoundAnswer.{RoundAnswer}
use Rattle.aosi_desk.specs.declared.answer.RoundAnswer.TheVariants.{Target, Nothing}
use Rattle.aosi_desk.specs.declared.answer.RoundEnd.TheVariants.{Safe, Lost}
use Rattle.core_events.proofs.DeskSteps.{client_entry, run-step, state_with_entry}
use Rattle.core_events.proofs.RoundEnds.{closes_round, lse-same}
use Rattle.core_events.specs.Cells.{counters_of_run}
use Rattle.core_events.specs.Clients.{calls_of, client_state, lse_in_round}
use Rattle.core_events.specs.Events.{Opening, flusher, RoundOpen, RoundClose, ClientCall, OnDesk, CoreEvent, By, At}
use Rattle.core_events.specs.Fitting.{FitsCall}
use Rattle.core_events.specs.Runs.{CallSays, IsCoreRun}
use Rattle.cube_journal.specs.Counters.{JournalState, target}
use Rattle.stored_rounds.specs.SafeEpochs.{safe_after_call, safe_by_calls}

safe-same : (c : ClientCall) (safe : ℕ) → closes_round c ≡ false → safe_after_call c safe ≡ safe
safe-same (OnDesk (RoundClose epoch end)) safe is = absurd (true≢false is)
safe-same c safe is = refl

-- A round that is opened begins at LSE.

abbrev Answers : RoundAnswer → JournalState → Type 0
Answers answer s = answer ≡ round_answer s

from-lse : (from epoch t lse : ℕ) (none : Bool) → (t == lse) ≡ none
    → Target from epoch ≡ (if none then Nothing t else Target lse t) → from ≡ lse
from-lse from epoch t lse true same is = ap lse_in_round is ∙ eqb-true t lse same
from-lse from epoch t lse false same is = ap lse_in_round is

-- Each of the calls that opened a round was answered so.

abbrev IsOpenedRight : ClientCall → ℕ → Type 0
IsOpenedRight (OnDesk (RoundOpen (Target from epoch))) safe = from ≡ safe
IsOpenedRight c safe = Unit {0}

abbrev pub AreOpenedRight : Opening → List ClientCall → Type 0
AreOpenedRight o [] = Unit {0}
AreOpenedRight o (c ∷ calls) = IsOpenedRight c (safe_by_calls o calls) × AreOpenedRight o calls

module _ (o : Opening) where
  abbrev with_call : Bool → ClientCall → List ClientCall → List ClientCall
  with_call own c calls = if own then c ∷ calls else calls

  abbrev lse_after : ℕ → ClientCall → JournalState → ℕ
  lse_after a c s = (state_with_entry (client_entry a c) s).lse

  plain : (a : ℕ) (c : ClientCall) (own : Bool) (s : JournalState) (calls : List ClientCall) → closes_round c ≡ false
      → s.lse ≡ safe_by_calls o calls → lse_after a c s ≡ safe_by_calls o (with_call own c calls)
  plain a c true s calls none held = lse-same a c s none ∙ held ∙ sym (safe-same c (safe_by_calls o calls) none)
  plain a c false s calls none held = lse-same a c s none ∙ held

  after-call : (a : ℕ) (c : ClientCall) (own : Bool) (s : JournalState) (calls : List ClientCall) (es : List CoreEvent)
      → (a == flusher o) ≡ own → FitsCall o a c (client_state o a es) → s.lse ≡ safe_by_calls o calls
      → lse_after a c s ≡ safe_by_calls o (with_call own c calls)
  after-call a (OnDesk (RoundClose epoch Safe)) true s calls es is fits held = refl
  after-call a (OnDesk (RoundClose epoch Safe)) false s calls es is fits held =
      absurd (true≢false (sym (eq-eqb a (flusher o) fits.flusher) ∙ is))
  after-call a (OnDesk (RoundClose epoch (Lost cause))) true s calls es is fits held = held
  after-call a (OnDesk (RoundClose epoch (Lost cause))) false s calls es is fits held = held
  after-call a c own s calls es is fits held = plain a c own s calls refl held

  pub lse-told : (es : List CoreEvent) → IsCoreRun o es → (counters_of_run o es).lse ≡ safe_by_calls o (calls_of (flusher o) es)
  lse-told [] run = refl
  lse-told (At mail move ∷ es) run = lse-told es run.0
  lse-told (By a c ∷ es) run =
      ap (λ (s : JournalState). s.lse) (run-step o a c es)
      ∙ after-call a c (a == flusher o) (counters_of_run o es) (calls_of (flusher o) es) es refl run.1.fits (lse-told es run.0)

  opened-right : (a : ℕ) (c : ClientCall) (es : List CoreEvent) (safe : ℕ) → CallSays o es a c
      → (counters_of_run o es).lse ≡ safe → IsOpenedRight c safe
  opened-right a (OnDesk (RoundOpen (Target from epoch))) es safe says held =
      let s = counters_of_run o es in from-lse from epoch (target s) s.lse (target s == s.lse) refl says ∙ held
  opened-right a c es safe says held = tt

  with-right : (own : Bool) (c : ClientCall) (calls : List ClientCall) → IsOpenedRight c (safe_by_calls o calls)
      → AreOpenedRight o calls → AreOpenedRight o (with_call own c calls)
  with-right true c calls one all = (one, all)
  with-right false c calls one all = all

  pub all-opened-right : (es : List CoreEvent) → IsCoreRun o es → AreOpenedRight o (calls_of (flusher o) es)
  all-opened-right [] run = tt
  all-opened-right (At mail move ∷ es) run = all-opened-right es run.0
  all-opened-right (By a c ∷ es) run =
      let calls = calls_of (flusher o) es in
      with-right (a == flusher o) c calls
      (opened-right a c es (safe_by_calls o calls) run.1.says (lse-told es run.0)) (all-opened-right es run.0)
