-- Operations of later statements have later numbers and no epoch below what is settled.
use Rattle.std.proofs.Common.{◌≡◌, ◌∙◌, ℕ, ◌+◌, ◌<◌, ◌≤◌, Bool, true, false, ◌==◌, cond, nat_lt, List, [], ◌∷◌, ◌++◌, length, filter, map, Option, Some, None, IfSome, refl, ap, arith}
use Rattle.std.specs.List.{AllByRecursion, cons_option, filter_map}
use Rattle.std.proofs.lemmas.Bool.{ne_eqb}
use Rattle.std.proofs.lemmas.Bool.Decides.{nat_tests}
use Rattle.std.proofs.lemmas.List.Elements.{filter-append}
use Rattle.std.proofs.Common.{append-nil}
use Rattle.cube_values.specs.declared.operation.Operation.{Operation}
use Rattle.cube_journal.specs.declared.journal_entry.AbortCause.{AbortCause}
use Rattle.cube_journal.specs.declared.journal_entry.AbortCause.TheVariants as abort
use Rattle.cube_journal.specs.declared.journal_entry.JournalEntry.{JournalEntry}
use Rattle.cube_journal.specs.declared.journal_entry.JournalEntry.TheVariants as entry
use Rattle.cube_run.specs.RunRecords.{Catalog, RunRecord, Sentence}
use Rattle.cube_run.specs.RunTransactions.{DoneOperation, epoch_done, operation_asked, operation_at, operation_done, operations_at}
use Rattle.cube_run.specs.SessionStates.{Mode, Idle, Open, Aborted, SessionState, mode_after, mode_after_abort}
use Rattle.cube_run.specs.SessionSteps.{SessionStep, entries_of, last_state, state_after_step, step_at, steps_from}
use Rattle.one_session.specs.Behind.{IsOpenFrom}
use Rattle.one_session.proofs.Settled.{ChangesFrom}

epoch_from : (bound : ℕ) (mode : Mode) (entries : List JournalEntry) → IsOpenFrom bound mode
    → AllByRecursion (ChangesFrom bound) entries → IfSome (epoch_done mode entries) (λ epoch. bound ≤ epoch)
epoch_from bound Idle (entry.Begin session statement epoch deps ∷ entry.Committed other same done ∷ later) at all = all.0
epoch_from bound (Open writer) [] at all = at
epoch_from bound mode entries at all = tt

abort_from : (bound epoch : ℕ) (cause : AbortCause) → IsOpenFrom bound (mode_after_abort epoch cause)
abort_from bound epoch abort.Asked = tt
abort_from bound epoch abort.EndOfScript = tt
abort_from bound epoch cause = tt

mode_from : (bound : ℕ) (mode : Mode) (entries : List JournalEntry) → IsOpenFrom bound mode
    → AllByRecursion (ChangesFrom bound) entries → IsOpenFrom bound (mode_after mode entries)
mode_from bound Idle (entry.Begin session statement epoch deps ∷ []) at all = all.0
mode_from bound Idle entries at all = tt
mode_from bound (Open writer) (entry.Committed session statement epoch ∷ later) at all = tt
mode_from bound (Open writer) (entry.Aborted session statement epoch cause ∷ later) at all =
    abort_from bound epoch cause
mode_from bound (Open writer) entries at all = at
mode_from bound (Aborted epoch) (entry.Cleared session statement ∷ later) at all = tt
mode_from bound (Aborted epoch) entries at all = tt

-- An operation of a later statement.
abbrev pub IsLater : ℕ → ℕ → DoneOperation → Type 0
IsLater bound low o = (bound ≤ o.epoch) × (low ≤ o.number)

operation_from : (bound low number : ℕ) (epoch : Option ℕ) (asked : Option Operation) → low ≤ number
    → IfSome epoch (λ e. bound ≤ e) → IfSome (operation_at number epoch asked) (IsLater bound low)
operation_from bound low number None asked l h = tt
operation_from bound low number (Some epoch) None l h = tt
operation_from bound low number (Some epoch) (Some operation) l h = (h, l)

cons_all : {X : Type 0} (P : X → Type 0) (o : Option X) (xs : List X) → IfSome o P → AllByRecursion P xs
    → AllByRecursion P (cons_option o xs)
cons_all P None xs h all = all
cons_all P (Some x) xs h all = (h, all)

pub later_operations : (run : RunRecord) (catalog : Catalog) (bound low number : ℕ) (state : SessionState)
    (script : List Sentence) → low ≤ number
    → ((k : ℕ) → low ≤ k → AllByRecursion (ChangesFrom bound) (entries_of 1 k run.journal))
    → IsOpenFrom bound state.mode
    → AllByRecursion (IsLater bound low) (filter_map (operation_done catalog) (steps_from run 1 number state script))
later_operations run catalog bound low number state [] l changes at = tt
later_operations run catalog bound low number state (sentence ∷ script) l changes at =
    let step = step_at run 1 number state sentence in
    let own = changes number l in
    cons_all (IsLater bound low) (operation_done catalog step)
    (filter_map (operation_done catalog) (steps_from run 1 (number + 1) (state_after_step step) script))
    (operation_from bound low number (epoch_done state.mode step.entries) (operation_asked catalog step.file sentence) l
    (epoch_from bound state.mode step.entries at own))
    (later_operations run catalog bound low (number + 1) (state_after_step step) script (omega (arith, l)) changes
    (mode_from bound state.mode step.entries at own))

number_below : (number high : ℕ) (epoch : Option ℕ) (asked : Option Operation) → number < high
    → IfSome (operation_at number epoch asked) (λ o. o.number < high)
number_below number high None asked l = tt
number_below number high (Some epoch) None l = tt
number_below number high (Some epoch) (Some operation) l = l

pub front_operations : (run : RunRecord) (catalog : Catalog) (high number : ℕ) (state : SessionState)
    (script : List Sentence) → number + length script ≤ high
    → AllByRecursion (λ o. o.number < high)
    (filter_map (operation_done catalog) (steps_from run 1 number state script))
front_operations run catalog high number state [] l = tt
front_operations run catalog high number state (sentence ∷ script) l =
    let step = step_at run 1 number state sentence in
    cons_all (λ o. o.number < high) (operation_done catalog step)
    (filter_map (operation_done catalog) (steps_from run 1 (number + 1) (state_after_step step) script))
    (number_below number high (epoch_done state.mode step.entries) (operation_asked catalog step.file sentence)
    (omega (arith, l)))
    (front_operations run catalog high (number + 1) (state_after_step step) script (omega (arith, l)))

pub steps_append : (run : RunRecord) (number : ℕ) (state : SessionState) (front back : List Sentence)
    → steps_from run 1 number state (front ++ back)
    ≡ steps_from run 1 number state front
    ++ steps_from run 1 (number + length front) (last_state state (steps_from run 1 number state front)) back
steps_append run number state [] back =
    let here : number ≡ number + 0 = omega arith in
    ap (λ (n : ℕ). steps_from run 1 n state back) here
steps_append run number state (sentence ∷ front) back =
    let step = step_at run 1 number state sentence in
    let next = state_after_step step in
    let rest = steps_from run 1 (number + 1) next front in
    let count : number + 1 + length front ≡ number + length (sentence ∷ front) = omega arith in
    ap (λ (steps : List SessionStep). step ∷ steps)
    (steps_append run (number + 1) next front back
    ∙ ap (λ (n : ℕ). rest ++ steps_from run 1 n (last_state next rest) back) count)

-- Later operations add nothing to an epoch that is settled.
none_at : (bound low epoch : ℕ) (done : List DoneOperation) → epoch < bound → AllByRecursion (IsLater bound low) done
    → filter (λ o. o.epoch == epoch) done ≡ []
none_at bound low epoch [] l h = refl
none_at bound low epoch (o ∷ done) l h =
    let above = h.0.0 in
    ap (λ (b : Bool). cond b (o ∷ filter (λ o. o.epoch == epoch) done) (filter (λ o. o.epoch == epoch) done))
    (ne_eqb o.epoch epoch (λ same. omega (arith, same, above, l)))
    ∙ none_at bound low epoch done l h.1

pub same_operations : (bound low epoch : ℕ) (done more : List DoneOperation) → epoch < bound
    → AllByRecursion (IsLater bound low) more → operations_at epoch (done ++ more) ≡ operations_at epoch done
same_operations bound low epoch done more l h =
    ap (map (λ (o : DoneOperation). o.operation))
    (filter-append (λ o. o.epoch == epoch) done more
    ∙ ap (λ (os : List DoneOperation). filter (λ o. o.epoch == epoch) done ++ os) (none_at bound low epoch more l h)
    ∙ append-nil (filter (λ o. o.epoch == epoch) done))

lt_true : (a b : ℕ) → a < b → nat_lt a b ≡ true
lt_true a b l = grind (arith, nat_tests)

lt_false : (a b : ℕ) → b ≤ a → nat_lt a b ≡ false
lt_false a b l = grind (arith, nat_tests)

-- The operations of numbers below one.
pub all_below : (high : ℕ) (done : List DoneOperation) → AllByRecursion (λ o. o.number < high) done
    → filter (λ o. nat_lt o.number high) done ≡ done
all_below high [] h = refl
all_below high (o ∷ done) h =
    ap (λ (b : Bool). cond b (o ∷ filter (λ o. nat_lt o.number high) done) (filter (λ o. nat_lt o.number high) done))
    (lt_true o.number high h.0)
    ∙ ap (λ (os : List DoneOperation). o ∷ os) (all_below high done h.1)

pub none_below : (bound high : ℕ) (done : List DoneOperation) → AllByRecursion (IsLater bound high) done
    → filter (λ o. nat_lt o.number high) done ≡ []
none_below bound high [] h = refl
none_below bound high (o ∷ done) h =
    ap (λ (b : Bool). cond b (o ∷ filter (λ o. nat_lt o.number high) done) (filter (λ o. nat_lt o.number high) done))
    (lt_false o.number high h.0.1)
    ∙ none_below bound high done h.1
