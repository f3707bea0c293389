-- The texts for whose codes own entries ask are those for which the calls ask that they are.
use Rattle.std.proofs.Common.{◌≡◌, ◌∙◌, ◌⊎◌, inl, inr, ℕ, zero, suc, ◌<◌, ◌==◌, Bool, true, false, Contains, List, [], ◌∷◌, ◌++◌, length, if◌then◌else◌, refl, sym, ap, subst, arith, eqb-true, eq-eqb}
use Rattle.std.specs.List.{AllByRecursion}
use Rattle.std.proofs.lemmas.Bool.{false≢true}
use Rattle.std.proofs.lemmas.List.Elements.{Contains-append_right}
use Rattle.core_cells.specs.declared.names.NamesAnswer.{NamesAnswer}
use Rattle.core_cells.specs.declared.names.NamesAnswer.TheVariants as told
use Rattle.core_cells.specs.declared.names.NamesCall.{NamesCall}
use Rattle.core_cells.specs.declared.names.NamesCall.TheVariants as names
use Rattle.core_events.specs.Clients.{calls_of, client_state}
use Rattle.core_events.specs.Events.{Opening, Encode, ClientCall, OnNames, CoreEvent, By, At}
use Rattle.core_events.specs.Jobs.{CoreJob, JobOutcome}
use Rattle.core_events.specs.ShardView.{ShardView}
use Rattle.core_names.specs.AskedNames.{HasAskedFor}
use Rattle.core_program.specs.CoreFits.{CoreEntry}
use Rattle.core_program.specs.Knowing.{IsClientOf, IsLaterRun}
use Rattle.cube_core.proofs.OffCells.{desk-off, mail-off}
use Rattle.cube_core.specs.BoardCells.{AnswerSays, IsEntryEvent, IsEventOf, client_of, job_asked}
use Rattle.cube_core.specs.Links.{AreEventsAfter, AreEventsOf}
use Rattle.cube_core.specs.NamesEvents.{is_on_names, names_event}
use Rattle.cube_core.specs.declared.cell.CoreAnswer.{CoreAnswer}
use Rattle.cube_core.specs.declared.cell.CoreAnswer.TheVariants as answer
use Rattle.cube_core.specs.declared.cell.CoreCall.{CoreCall}
use Rattle.cube_core.specs.declared.cell.CoreCall.TheVariants as call
use Rattle.cube_core.specs.declared.cell.CoreCell.{CoreCell}
use Rattle.cube_core.specs.declared.shard.ShardAnswer.{ShardAnswer}
use Rattle.cube_core.specs.declared.shard.ShardCall.{ShardCall}
use Rattle.cube_values.specs.declared.shape.CubeShape.{CubeShape}
use Rattle.scripted_pasts.specs.AskedTexts.{AsksForText, IsAskedForBy}
use Rattle.scripted_pasts.proofs.NamesCome.{behind-one, first-asks}
use Rattle.known_cubes.proofs.OwnCalls.{own-caller}
use Rattle.names_dict.specs.declared.code.Code.{Code}

-- ---- one entry

-- A call asks for the code of a text, and is told it.
record IsToldCode (q : CoreCall) (a : CoreAnswer) (place dim : ℕ) (text : List ℕ) : Type 0 where
  shape : CubeShape
  code : Code
  asks : q ≡ call.Names (names.Encode place dim shape text)
  said : a ≡ answer.Names (told.Coded code)

off-asks : (place dim : ℕ) (text : List ℕ) (b : ℕ) (c : ClientCall) → is_on_names (By b c) ≡ false
    → AsksForText place dim text c → ⊥
off-asks place dim text b (OnNames event) off asks = false≢true (sym off)
off-asks place dim text b c off asks = asks

same-call : (a b : ℕ) (c d : ClientCall) → By a c ≡ By b d → c ≡ d
same-call a b c d is = cc

names-ask : (place dim : ℕ) (text : List ℕ) (q : NamesCall) (a : NamesAnswer)
    → AsksForText place dim text (names_event q a) → IsToldCode (call.Names q) (answer.Names a) place dim text
names-ask place dim text (names.Encode cube k shape name) (told.Coded code) asks = record {
  shape = shape;
  code = code;
  asks = λ i. call.Names (names.Encode (asks.0 i) (asks.1 i) shape (asks.2 i));
  said = refl;
}
names-ask place dim text (names.Find cube k name) (told.Found number) asks = absurd asks
names-ask place dim text (names.CopyFrom cube k from) (told.Copied copied) asks = absurd asks
names-ask place dim text q a asks = absurd asks

module _ {S : Type 0} (fits : Opening → ℕ → ShardCall → Type 0) (stands : Opening → ℕ → ℕ → S → ShardView → Type 0)
    (says : CoreJob → ShardAnswer → JobOutcome → Type 0) (o : Opening) where
  event-asks : (es : List CoreEvent) (caller cell : ℕ) (q : CoreCall) (a : CoreAnswer) (b : ℕ) (c : ClientCall)
      (place dim : ℕ) (text : List ℕ) → IsEventOf fits stands says o es caller cell q a (By b c)
      → AsksForText place dim text c → IsToldCode q a place dim text
  event-asks es caller cell (call.Desk q) (answer.Desk a) b c place dim text is asks =
      let client = client_of o caller in
      absurd (off-asks place dim text b c
      (subst (λ (x : CoreEvent). is_on_names x ≡ false) (sym is.2)
      (desk-off client (client_state o client es) q a).off_names) asks)
  event-asks es caller cell (call.Names q) (answer.Names a) b c place dim text is asks =
      names-ask place dim text q a
      (subst (AsksForText place dim text) (same-call b (client_of o caller) c (names_event q a) is.1) asks)
  event-asks es caller cell (call.Shard q) (answer.Shard a) b c place dim text is asks = absurd (cc)
  event-asks es caller cell (call.Mail q) (answer.Mail a) b c place dim text is asks =
      absurd (off-asks place dim text b c
      (mail-off job_asked (AnswerSays says) o is.0 es q a (By b c) is.3).off_names asks)
  event-asks es caller cell q a b c place dim text is asks = absurd is

  -- ---- from calls to entries

  first-entry : (e : CoreEntry) (log : List CoreEntry) (place dim : ℕ) (text : List ℕ)
      → IsToldCode e.call e.answer place dim text → HasAskedFor (e ∷ log) place dim text
  first-entry e log place dim text t = record {
    entry = e;
    among = (0, omega arith, refl);
    shape = t.shape;
    code = t.code;
    asks = t.asks;
    told = t.said;
  }

  later-entry : (e : CoreEntry) (log : List CoreEntry) (place dim : ℕ) (text : List ℕ)
      → HasAskedFor log place dim text → HasAskedFor (e ∷ log) place dim text
  later-entry e log place dim text h = record {
    entry = h.entry;
    among = Contains-append_right (e ∷ []) log h.entry h.among;
    shape = h.shape;
    code = h.code;
    asks = h.asks;
    told = h.told;
  }

  -- What the newest event asks, or an earlier one.
  newest-asks : (session : ℕ) (es : List CoreEvent) (e : CoreEntry) (log : List CoreEntry) (x : CoreEvent)
      (place dim : ℕ) (text : List ℕ) → IsEntryEvent fits stands says o es e x
      → IsAskedForBy (calls_of session (x ∷ es)) place dim text
      → IsAskedForBy (calls_of session es) place dim text ⊎ HasAskedFor (e ∷ log) place dim text
  newest-asks session es e log (At mail move) place dim text is asked =
      inl (record { call = asked.call; among = asked.among; asks = asked.asks })
  newest-asks session es e log (By b c) place dim text is asked = at (b == session) asked
    where
      first : (d : ClientCall) → c ≡ d → AsksForText place dim text d → HasAskedFor (e ∷ log) place dim text
      first d same asks =
          first-entry e log place dim text
          (event-asks es e.caller e.cell e.call e.answer b c place dim text is
          (subst (AsksForText place dim text) (sym same) asks))

      split : (d : ClientCall) → Contains (c ∷ calls_of session es) d → AsksForText place dim text d
          → IsAskedForBy (calls_of session es) place dim text ⊎ HasAskedFor (e ∷ log) place dim text
      split d (zero, low, same) asks = inr (first d same asks)
      split d (suc k, low, same) asks =
          inl (record { call = d; among = (k, omega (arith, low), same); asks = asks })

      at : (own : Bool)
          → IsAskedForBy (if own then c ∷ calls_of session es else calls_of session es) place dim text
          → IsAskedForBy (calls_of session es) place dim text ⊎ HasAskedFor (e ∷ log) place dim text
      at true h = split h.call h.among h.asks
      at false h = inl h

  calls-to-entries : (session : ℕ) (log : List CoreEntry) (earlier es : List CoreEvent) (place dim : ℕ) (text : List ℕ)
      → AreEventsAfter (IsEntryEvent fits stands says o) earlier log es
      → IsAskedForBy (calls_of session es) place dim text
      → IsAskedForBy (calls_of session earlier) place dim text ⊎ HasAskedFor log place dim text
  calls-to-entries session [] earlier es place dim text are asked =
      inl (subst (λ (l : List CoreEvent). IsAskedForBy (calls_of session l) place dim text) (sym are) asked)
  calls-to-entries session (e ∷ log) earlier es place dim text are asked =
      elim (calls-to-entries session log (are.0 ∷ earlier) es place dim text are.2 asked) [
        | inl here ↦ newest-asks session earlier e log are.0 place dim text are.1 here
        | inr later ↦ inr (later-entry e log place dim text later)
      ]

  -- ---- from entries to calls

  asked-then : (session : ℕ) (x : CoreEvent) (es : List CoreEvent) (place dim : ℕ) (text : List ℕ)
      → IsAskedForBy (calls_of session es) place dim text → IsAskedForBy (calls_of session (x ∷ es)) place dim text
  asked-then session (At mail move) es place dim text h =
      record { call = h.call; among = h.among; asks = h.asks }
  asked-then session (By b c) es place dim text h = at (b == session)
    where
      at : (own : Bool)
          → IsAskedForBy (if own then c ∷ calls_of session es else calls_of session es) place dim text
      at true = behind-one c (calls_of session es) place dim text h
      at false = h

  asked-later : (session : ℕ) (log : List CoreEntry) (earlier es : List CoreEvent) (place dim : ℕ) (text : List ℕ)
      → AreEventsAfter (IsEntryEvent fits stands says o) earlier log es
      → IsAskedForBy (calls_of session earlier) place dim text → IsAskedForBy (calls_of session es) place dim text
  asked-later session [] earlier es place dim text are h =
      subst (λ (l : List CoreEvent). IsAskedForBy (calls_of session l) place dim text) are h
  asked-later session (e ∷ log) earlier es place dim text are h =
      asked-later session log (are.0 ∷ earlier) es place dim text are.2
      (asked-then session are.0 earlier place dim text h)

  own-asks : (session : ℕ) (es : List CoreEvent) (caller cell : ℕ) (x : CoreEvent) (place dim : ℕ) (shape : CubeShape)
      (text : List ℕ) (code : Code) → client_of o caller ≡ session
      → IsEventOf fits stands says o es caller cell (call.Names (names.Encode place dim shape text))
      (answer.Names (told.Coded code)) x → IsAskedForBy (calls_of session (x ∷ es)) place dim text
  own-asks session es caller cell x place dim shape text code client is =
      let asking = OnNames (Encode place dim text code) in
      coe 1 0 (i. IsAskedForBy (calls_of session (is.1 i ∷ es)) place dim text)
      (coe 1 0 (i. IsAskedForBy
      (if eq-eqb (client_of o caller) session client i then asking ∷ calls_of session es else calls_of session es)
      place dim text)
      (first-asks place dim text code (calls_of session es)))

  entries-to-calls : (session caller : ℕ) (log : List CoreEntry) (earlier es : List CoreEvent) (place dim : ℕ)
      (text : List ℕ) → client_of o caller ≡ session → AllByRecursion (λ e. e.caller ≡ caller) log
      → AreEventsAfter (IsEntryEvent fits stands says o) earlier log es
      → HasAskedFor log place dim text → IsAskedForBy (calls_of session es) place dim text
  entries-to-calls session caller log earlier es place dim text client own are h =
      at log earlier own are h.among
    where
      at : (log : List CoreEntry) (earlier : List CoreEvent) → AllByRecursion (λ e. e.caller ≡ caller) log
          → AreEventsAfter (IsEntryEvent fits stands says o) earlier log es → Contains log h.entry
          → IsAskedForBy (calls_of session es) place dim text
      at [] earlier own are (k, low, same) = absurd (omega (arith, low))
      at (e ∷ log) earlier own are (zero, low, same) =
          let asks = ap (λ (y : CoreEntry). y.call) same in
          asked-later session log (are.0 ∷ earlier) es place dim text are.2
          (own-asks session earlier caller e.cell are.0 place dim h.shape text h.code client
          (coe 0 1 (i. IsEventOf fits stands says o earlier (own.0 i) e.cell
          ((ap (λ (y : CoreEntry). y.call) same ∙ h.asks) i) ((ap (λ (y : CoreEntry). y.answer) same ∙ h.told) i) are.0)
          are.1))
      at (e ∷ log) earlier own are (suc k, low, same) =
          at log (are.0 ∷ earlier) own.1 are.2 (k, omega (arith, low), same)

nothing-asked : (place dim : ℕ) (text : List ℕ) → IsAskedForBy [] place dim text → ⊥
nothing-asked place dim text h = at h.call h.among
  where
    at : (c : ClientCall) → Contains [] c → ⊥
    at c (k, low, same) = omega (arith, low)

-- ---- a session's own entries

module _ {S : Type 0} (fits : Opening → ℕ → ShardCall → Type 0) (stands : Opening → ℕ → ℕ → S → ShardView → Type 0)
    (says : CoreJob → ShardAnswer → JobOutcome → Type 0) (cells : List (CoreCell S)) (caller session : ℕ) (o : Opening)
    (log : List CoreEntry) (run es : List CoreEvent) (own : List CoreEntry)
    (acts : IsClientOf fits stands says cells caller session)
    (later : IsLaterRun fits stands says cells o caller own log run)
    (are : AreEventsOf (IsEntryEvent fits stands says o) own es) where
  pub calls-ask : (place dim : ℕ) (text : List ℕ) → IsAskedForBy (calls_of session es) place dim text
      → HasAskedFor own place dim text
  calls-ask place dim text asked =
      elim (calls-to-entries fits stands says o session own [] es place dim text are asked) [
        | inl none ↦ absurd (nothing-asked place dim text none)
        | inr has ↦ has
      ]

  pub entries-ask : (place dim : ℕ) (text : List ℕ) → HasAskedFor own place dim text
      → IsAskedForBy (calls_of session es) place dim text
  entries-ask place dim text has =
      entries-to-calls fits stands says o session caller own [] es place dim text
      (sym (acts.client_is o log later.opens)) (own-caller caller own log later.begins) are has
