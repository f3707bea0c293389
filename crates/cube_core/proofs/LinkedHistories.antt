-- A history of calls on linked cells, entry by entry.
use Rattle.std.proofs.Common.{◌≡◌, ℕ, eqb, Bool, true, false, cond, List, [], ◌∷◌, ◌++◌, append_assoc, append-nil, refl, sym, ap, subst, eqb-true, eq-eqb}
use Rattle.std.proofs.lemmas.Bool.{eqb-false}
use lib.ListN.{get_elem?}
use mathlib.Core.Option.{some}
use Rattle.turn_board.specs.declared.history.Event.{Event}
use Rattle.turn_board.specs.History.{CellStep, CallFit, of_cell, of_caller, LeadsTo, AllFitAfter, IsHistory}
use Rattle.core_events.specs.Events.{Opening, CoreEvent}
use Rattle.core_events.specs.Runs.{IsCoreRun}
use Rattle.cube_core.specs.Links.{EventOf, AreEventsAfter, AreEventsOf, IsCallLinked, IsLinked, HasRun, HasRunTo}

module _ {Q A : Type 0} (event : EventOf Q A) where
  -- The events of entries and of one more.
  after-more : (earlier : List CoreEvent) (log : List (Event Q A)) (es : List CoreEvent) (e : Event Q A) (x : CoreEvent)
      → AreEventsAfter event earlier log es → event es e x → AreEventsAfter event earlier (log ++ e ∷ []) (x ∷ es)
  after-more earlier [] es e x are is = (x, subst (λ (l : List CoreEvent). event l e x) (sym are) is, ap (λ (l : List CoreEvent). x ∷ l) are)
  after-more earlier (f ∷ log) es e x are is = (are.0, are.1, after-more (are.0 ∷ earlier) log es e x are.2 is)

module _ {T Q A : Type 0} (step : CellStep T Q A) where
  -- A cell, with the calls on it that are still to come and the value to which they lead.
  pub record CellNow (stands : ℕ → T → List CoreEvent → Type 0) (ends : ℕ → T → Type 0) (k : ℕ) (es : List CoreEvent) (rest : List (Event Q A))
      : Type 0 where
    pub value : T
    pub is : stands k value es
    pub end : T
    pub ended : ends k end
    pub leads : LeadsTo step value (of_cell k rest) end

module _ {Q A : Type 0} where
  -- Of the entries, those on another cell are passed over.
  skip-entry : (e : Event Q A) (k : ℕ) (rest : List (Event Q A)) → (eqb e.cell k) ≡ false → of_cell k (e ∷ rest) ≡ of_cell k rest
  skip-entry e k rest other = ap (λ (b : Bool). cond b (e ∷ of_cell k rest) (of_cell k rest)) other

  take-entry : (e : Event Q A) (rest : List (Event Q A)) → of_cell e.cell (e ∷ rest) ≡ e ∷ of_cell e.cell rest
  take-entry e rest = ap (λ (b : Bool). cond b (e ∷ of_cell e.cell rest) (of_cell e.cell rest)) (eq-eqb e.cell e.cell refl)

module _ {T Q A : Type 0} (step : CellStep T Q A) (fits : CallFit T Q A) (opens : Opening → List T → List (Event Q A) → Type 0)
    (event : Opening → EventOf Q A) (stands : Opening → ℕ → T → List CoreEvent → Type 0)
    (link : IsLinked step fits opens event stands) (o : Opening) (opening : List T) (ends : ℕ → T → Type 0) where
  -- The run after some entries, and every cell that there is.
  record RunNow (log rest : List (Event Q A)) : Type 0 where
    es : List CoreEvent
    events : AreEventsOf (event o) log es
    run : IsCoreRun o es
    cells : (k : ℕ) (x : T) → get_elem? opening k ≡ some x → CellNow step (stands o) ends k es rest

  one-more : (log rest : List (Event Q A)) (e : Event Q A) → opens o opening (log ++ e ∷ [])
      → fits opening e.caller (of_caller e.caller log) e.cell e.call → RunNow log (e ∷ rest) → RunNow (log ++ e ∷ []) rest
  one-more log rest e opened f now = record {
    es = called.next ∷ now.es;
    events = after-more (event o) [] log now.es e called.next now.events called.is;
    run = called.run;
    cells = λ k x at. cell (eqb e.cell k) k x at refl;
  } where
    there : (x : T) × (get_elem? opening e.cell ≡ some x)
    there = link.there o opening (log ++ e ∷ []) e.caller e.cell (of_caller e.caller log) e.call opened f

    here : CellNow step (stands o) ends e.cell now.es (e ∷ rest)
    here = now.cells e.cell there.0 there.1

    leads : LeadsTo step here.value (e ∷ of_cell e.cell rest) here.end
    leads = subst (λ (l : List (Event Q A)). LeadsTo step here.value l here.end) (take-entry e rest) here.leads

    called : IsCallLinked (event o) (stands o) o now.es e leads.0
    called = link.calls o opening log now.es e here.value leads.0 opened now.events now.run f here.is leads.1

    cell : (b : Bool) (k : ℕ) (x : T) → get_elem? opening k ≡ some x → (eqb e.cell k) ≡ b
        → CellNow step (stands o) ends k (called.next ∷ now.es) rest
    cell true k x at is =
        subst (λ (j : ℕ). CellNow step (stands o) ends j (called.next ∷ now.es) rest) (eqb-true e.cell k is)
        (record {
          value = leads.0;
          is = called.own;
          end = here.end;
          ended = here.ended;
          leads = leads.2;
        })
    cell false k x at is =
        let was = now.cells k x at in
        record {
          value = was.value;
          is = called.others k was.value (eqb-false e.cell k is) was.is;
          end = was.end;
          ended = was.ended;
          leads = subst (λ (l : List (Event Q A)). LeadsTo step was.value l was.end) (skip-entry e k rest is) was.leads;
        }

  all-more : (log rest : List (Event Q A)) → opens o opening (log ++ rest) → AllFitAfter fits opening log rest → RunNow log rest
      → RunNow (log ++ rest) []
  all-more log [] opened f now = subst (λ (l : List (Event Q A)). RunNow l []) (sym (append-nil log)) now
  all-more log (e ∷ rest) opened f now =
      let whole : opens o opening ((log ++ e ∷ []) ++ rest) =
      subst (λ (l : List (Event Q A)). opens o opening l) (sym (append_assoc log (e ∷ []) rest)) opened
      in
      subst (λ (l : List (Event Q A)). RunNow l []) (append_assoc log (e ∷ []) rest)
      (all-more (log ++ e ∷ []) rest whole f.1 (one-more log rest e (link.earlier o opening (log ++ e ∷ []) rest whole) f.0 now))

  -- The calls on each cell that there is lead to a value.
  abbrev pub AllLead : List (Event Q A) → Type 0
  AllLead log = (k : ℕ) (x : T) → get_elem? opening k ≡ some x → (y : T) × ends k y × LeadsTo step x (of_cell k log) y

  whole-run : (log : List (Event Q A)) → opens o opening log → AllFitAfter fits opening [] log → AllLead log → RunNow log []
  whole-run log opened f leads = all-more [] log opened f (record {
    es = [];
    events = refl;
    run = link.begins o opening log opened;
    cells = λ k x at.
        let to = leads k x at in
        record { value = x; is = link.stand o opening log k x opened at; end = to.0; ended = to.1; leads = to.2 };
  })

  -- The run, and each cell at its end.
  pub record RunEnd (log : List (Event Q A)) : Type 0 where
    pub of : HasRun o (event o) log
    pub cells : (k : ℕ) (x : T) → get_elem? opening k ≡ some x → (y : T) × ends k y × stands o k y of.es

  pub run-end : (log : List (Event Q A)) → opens o opening log → AllFitAfter fits opening [] log → AllLead log → RunEnd log
  run-end log opened f leads =
      let now = whole-run log opened f leads in record {
        of = record { es = now.es; events = now.events; run = now.run };
        cells = λ k x at.
            let c = now.cells k x at in
            (c.end, c.ended, subst (λ (y : T). stands o k y now.es) c.leads c.is);
      }

module _ {T Q A : Type 0} (step : CellStep T Q A) (fits : CallFit T Q A) (opens : Opening → List T → List (Event Q A) → Type 0)
    (event : Opening → EventOf Q A) (stands : Opening → ℕ → T → List CoreEvent → Type 0)
    (link : IsLinked step fits opens event stands) where
  pub history-run : (o : Opening) (opening : List T) (log : List (Event Q A)) → opens o opening log → IsHistory step fits opening log
      → HasRun o (event o) log
  history-run o opening log opened h =
      (run-end step fits opens event stands link o opening (λ k y. Unit {0}) log opened h.fitting
      (λ k x at. let to = h.leads k x at in (to.0, tt, to.1))).of

  pub history-cells : (o : Opening) (opening : List T) (log : List (Event Q A)) (values : ℕ → T) → opens o opening log
      → IsHistory step fits opening log
      → ((k : ℕ) (x : T) → get_elem? opening k ≡ some x → LeadsTo step x (of_cell k log) (values k))
      → HasRunTo o (event o) (stands o) opening log values
  history-cells o opening log values opened h leads =
      let found =
      run-end step fits opens event stands link o opening (λ k y. y ≡ values k) log opened h.fitting
      (λ k x at. (values k, refl, leads k x at))
      in
      record {
        of = found.of;
        cells = λ k x at.
            let c = found.cells k x at in subst (λ (y : T). stands o k y found.of.es) c.1 c.2;
      }
