-- LCE never falls in a legal journal.
use Rattle.std.proofs.Common.{◌≡◌, ℕ, ◌+◌, ◌-◌, ◌≤◌, not, ◌==◌, List, [], ◌∷◌, ◌++◌, fold, min, refl, ap, sym, subst, arith}
use Rattle.std.proofs.lemmas.List.{append-nil}
use Rattle.cube_journal.specs.declared.journal_entry.JournalEntry.{JournalEntry}
use Rattle.cube_journal.specs.declared.journal_entry.JournalEntry.TheVariants as entry
use Rattle.cube_journal.specs.Counters.{JournalState, journal_state, lce, state_after}
use Rattle.cube_journal.specs.Legal.{CountersAllow, CountersAllowAll}
use Rattle.cube_journal.proofs.LeastEpochs.{fold-filter, fold-next, fold-rises}
use Rattle.cube_journal.proofs.Orders.{state-with}

-- The least of the pending epochs and EC.
abbrev least : JournalState → ℕ
least s = fold min s.ec s.pending

le-same : (m n : ℕ) → m ≡ n → m ≤ n
le-same m n is = omega arith

begin-rises : (ec epoch : ℕ) (pending : List ℕ) → epoch ≡ ec
    → fold min ec pending ≤ fold min (ec + 1) (pending ++ epoch ∷ [])
begin-rises ec epoch pending is =
    subst (λ (e : ℕ). fold min ec pending ≤ fold min (ec + 1) (pending ++ e ∷ [])) (sym is)
    (le-same (fold min ec pending) (fold min (ec + 1) (pending ++ ec ∷ [])) (sym (fold-next ec pending)))

-- No entry that is allowed lowers it.
step-rises : (safe : ℕ) (before : List JournalEntry) (e : JournalEntry) → CountersAllow safe before e
    → least (journal_state safe before) ≤ least (state_after (journal_state safe before) e)
step-rises safe before (entry.Begin session statement epoch deps) a =
    begin-rises (journal_state safe before).ec epoch (journal_state safe before).pending a.next
step-rises safe before (entry.Committed session statement epoch) a =
    fold-filter (λ e. not (e == epoch)) (journal_state safe before).ec (journal_state safe before).pending
step-rises safe before (entry.Aborted session statement epoch cause) a =
    fold-filter (λ e. not (e == epoch)) (journal_state safe before).ec (journal_state safe before).pending
step-rises safe before (entry.Cube session statement epoch) a =
    fold-rises (journal_state safe before).ec ((journal_state safe before).ec + 1) (journal_state safe before).pending
    (omega arith)
step-rises safe before e a = le-same (least (journal_state safe before)) (least (journal_state safe before)) refl

le-trans : (a b c : ℕ) → a ≤ b → b ≤ c → a ≤ c
le-trans a b c p q = omega arith

append-one : (before : List JournalEntry) (e : JournalEntry) (later : List JournalEntry)
    → (before ++ e ∷ []) ++ later ≡ before ++ (e ∷ later)
append-one [] e later = refl
append-one (x ∷ before) e later = ap (λ (xs : List JournalEntry). x ∷ xs) (append-one before e later)

all-rises : (safe : ℕ) (before later : List JournalEntry) → CountersAllowAll safe before later
    → least (journal_state safe before) ≤ least (journal_state safe (before ++ later))
all-rises safe before [] a =
    subst (λ (xs : List JournalEntry). least (journal_state safe before) ≤ least (journal_state safe xs))
    (sym (append-nil before)) (le-same (least (journal_state safe before)) (least (journal_state safe before)) refl)
all-rises safe before (e ∷ later) a =
    let first =
    subst (λ (s : JournalState). least (journal_state safe before) ≤ least s) (sym (state-with safe before e))
    (step-rises safe before e a.0)
    in
    let rest =
    subst (λ (xs : List JournalEntry). least (journal_state safe (before ++ e ∷ [])) ≤ least (journal_state safe xs))
    (append-one before e later) (all-rises safe (before ++ e ∷ []) later a.1)
    in
    le-trans (least (journal_state safe before)) (least (journal_state safe (before ++ e ∷ [])))
    (least (journal_state safe (before ++ (e ∷ later)))) first rest

-- What follows a part of a legal journal is allowed after it.
allowed-after : (safe : ℕ) (front before later : List JournalEntry) → CountersAllowAll safe front (before ++ later)
    → CountersAllowAll safe (front ++ before) later
allowed-after safe front [] later a =
    subst (λ (xs : List JournalEntry). CountersAllowAll safe xs later) (sym (append-nil front)) a
allowed-after safe front (e ∷ before) later a =
    subst (λ (xs : List JournalEntry). CountersAllowAll safe xs later) (append-one front e before)
    (allowed-after safe (front ++ e ∷ []) before later a.1)

less-one : (m n : ℕ) → m ≤ n → m - 1 ≤ n - 1
less-one m n le = omega arith

pub lce-rises : (safe : ℕ) (before later : List JournalEntry) → CountersAllowAll safe [] (before ++ later)
    → lce (journal_state safe before) ≤ lce (journal_state safe (before ++ later))
lce-rises safe before later a =
    less-one (least (journal_state safe before)) (least (journal_state safe (before ++ later)))
    (all-rises safe before later (allowed-after safe [] before later a))
