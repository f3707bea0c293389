-- The operations of the first statements of a script, and those of one statement more.
use Rattle.std.proofs.Common.{◌≡◌, ◌≢◌, ◌∙◌, ℕ, ◌+◌, ◌<◌, ◌≤◌, ◌==◌, Bool, cond, nat_lt, List, [], ◌∷◌, ◌++◌, length, filter, map, Option, Some, None, IfSome, ap, arith, append-nil, eq-eqb, ne_eqb}
use Rattle.std.specs.List.{AllByRecursion, cons_option, filter_map}
use Rattle.std.proofs.lemmas.List.{map-append}
use Rattle.std.proofs.lemmas.List.Elements.{filter-append, filter_map-append}
use Rattle.cube_run.specs.RunRecords.{Catalog, RunRecord, Sentence, catalog_of}
use Rattle.cube_run.specs.RunTransactions.{DoneOperation, epoch_done, operation_asked, operation_at, operation_done, operations_at, session_operations}
use Rattle.cube_run.specs.SessionStates.{SessionState, fresh_session}
use Rattle.cube_run.specs.SessionSteps.{SessionStep, last_state, state_after_step, step_at, steps_from, steps_of}
use Rattle.cube_values.specs.declared.operation.Operation.{Operation}
use Rattle.one_session.proofs.Operations.{IsLater, all_below, none_below}

cons-all : {X : Type 0} (P : X → Type 0) (o : Option X) (xs : List X) → IfSome o P → AllByRecursion P xs
    → AllByRecursion P (cons_option o xs)
cons-all P None xs h all = all
cons-all P (Some x) xs h all = (h, all)

number-below : (number high : ℕ) (epoch : Option ℕ) (asked : Option Operation) → number < high
    → IfSome (operation_at number epoch asked) (λ o. o.number < high)
number-below number high None asked l = tt
number-below number high (Some epoch) None l = tt
number-below number high (Some epoch) (Some operation) l = l

number-from : (number low : ℕ) (epoch : Option ℕ) (asked : Option Operation) → low ≤ number
    → IfSome (operation_at number epoch asked) (IsLater 0 low)
number-from number low None asked l = tt
number-from number low (Some epoch) None l = tt
number-from number low (Some epoch) (Some operation) l = (omega arith, l)

module _ (run : RunRecord) (session : ℕ) (catalog : Catalog) where
  front-numbers : (high number : ℕ) (state : SessionState) (script : List Sentence) → number + length script ≤ high
      → AllByRecursion (λ o. o.number < high)
      (filter_map (operation_done catalog) (steps_from run session number state script))
  front-numbers high number state [] l = tt
  front-numbers high number state (sentence ∷ script) l =
      let step = step_at run session number state sentence in
      cons-all (λ o. o.number < high) (operation_done catalog step)
      (filter_map (operation_done catalog) (steps_from run session (number + 1) (state_after_step step) script))
      (number-below number high (epoch_done state.mode step.entries) (operation_asked catalog step.file sentence)
      (omega (arith, l)))
      (front-numbers high (number + 1) (state_after_step step) script (omega (arith, l)))

  later-numbers : (low number : ℕ) (state : SessionState) (script : List Sentence) → low ≤ number
      → AllByRecursion (IsLater 0 low)
      (filter_map (operation_done catalog) (steps_from run session number state script))
  later-numbers low number state [] l = tt
  later-numbers low number state (sentence ∷ script) l =
      let step = step_at run session number state sentence in
      cons-all (IsLater 0 low) (operation_done catalog step)
      (filter_map (operation_done catalog) (steps_from run session (number + 1) (state_after_step step) script))
      (number-from number low (epoch_done state.mode step.entries) (operation_asked catalog step.file sentence) l)
      (later-numbers low (number + 1) (state_after_step step) script (omega (arith, l)))

steps-append : (run : RunRecord) (session number : ℕ) (state : SessionState) (front back : List Sentence)
    → steps_from run session number state (front ++ back)
    ≡ steps_from run session number state front
    ++ steps_from run session (number + length front) (last_state state (steps_from run session number state front)) back
steps-append run session number state [] back =
    let here : number ≡ number + 0 = omega arith in
    ap (λ (n : ℕ). steps_from run session n state back) here
steps-append run session number state (sentence ∷ front) back =
    let step = step_at run session number state sentence in
    let next = state_after_step step in
    let rest = steps_from run session (number + 1) next front in
    let count : number + 1 + length front ≡ number + length (sentence ∷ front) = omega arith in
    ap (λ (steps : List SessionStep). step ∷ steps)
    (steps-append run session (number + 1) next front back
    ∙ ap (λ (n : ℕ). rest ++ steps_from run session n (last_state next rest) back) count)

-- What the statements before the next one have done is what those behind have done, whatever script follows.
pub done-so-far : (run : RunRecord) (session : ℕ) (behind rest : List Sentence)
    → filter (λ o. nat_lt o.number (length behind + 1)) (session_operations run session (behind ++ rest))
    ≡ session_operations run session behind
done-so-far run session behind rest =
    let catalog = catalog_of run in
    let front = steps_of run session behind in
    let back = steps_from run session (1 + length behind) (last_state fresh_session front) rest in
    let done = filter_map (operation_done catalog) front in
    let more = filter_map (operation_done catalog) back in
    let high = length behind + 1 in
    ap (λ (steps : List SessionStep). filter (λ o. nat_lt o.number high) (filter_map (operation_done catalog) steps))
    (steps-append run session 1 fresh_session behind rest)
    ∙ ap (filter (λ (o : DoneOperation). nat_lt o.number high)) (filter_map-append (operation_done catalog) front back)
    ∙ filter-append (λ (o : DoneOperation). nat_lt o.number high) done more
    ∙ (λ i. all_below high done (front-numbers run session catalog high 1 fresh_session behind (omega arith)) i
    ++ none_below 0 high more
    (later-numbers run session catalog high (1 + length behind) (last_state fresh_session front) rest (omega arith)) i)
    ∙ append-nil done

-- ---- the operations of an epoch

pub at-both : (epoch : ℕ) (done more : List DoneOperation)
    → operations_at epoch (done ++ more) ≡ operations_at epoch done ++ operations_at epoch more
at-both epoch done more =
    ap (map (λ (o : DoneOperation). o.operation)) (filter-append (λ (o : DoneOperation). o.epoch == epoch) done more)
    ∙ map-append (λ (o : DoneOperation). o.operation) (filter (λ (o : DoneOperation). o.epoch == epoch) done)
    (filter (λ (o : DoneOperation). o.epoch == epoch) more)

pub at-own : (epoch : ℕ) (o : DoneOperation) → o.epoch ≡ epoch → operations_at epoch (o ∷ []) ≡ o.operation ∷ []
at-own epoch o same =
    ap (λ (b : Bool). map (λ (o : DoneOperation). o.operation) (cond b (o ∷ []) [])) (eq-eqb o.epoch epoch same)

pub at-other : (epoch : ℕ) (o : DoneOperation) → o.epoch ≢ epoch → operations_at epoch (o ∷ []) ≡ []
at-other epoch o differ =
    ap (λ (b : Bool). map (λ (o : DoneOperation). o.operation) (cond b (o ∷ []) [])) (ne_eqb o.epoch epoch differ)
