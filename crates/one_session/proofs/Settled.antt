-- Entries behind a place of a legal journal neither begin nor commit an epoch below what is settled there.
use Rattle.std.proofs.Common.{◌≡◌, ◌∙◌, ℕ, ◌<◌, ◌≤◌, Bool, true, false, not, ◌||◌, ◌==◌, cond, if◌then◌else◌, Some, List, [], ◌∷◌, ◌++◌, filter, refl, sym, ap, subst, arith, append-nil}
use Rattle.std.specs.List.{AllByRecursion, list_any}
use Rattle.std.specs.Option.{IsSomeAnd}
use Rattle.std.proofs.lemmas.Bool.{ne_eqb, false≢true}
use Rattle.cube_journal.specs.declared.counters.OpenSnapshot.{OpenSnapshot}
use Rattle.cube_journal.specs.declared.journal_entry.JournalEntry.{JournalEntry}
use Rattle.cube_journal.specs.declared.journal_entry.JournalEntry.TheVariants as entry
use Rattle.cube_journal.specs.Counters.{JournalState, held_by, journal_state, lce, state_after}
use Rattle.cube_journal.specs.Legal.{CountersAllow, CountersAllowAll}
use Rattle.cube_journal.proofs.Orders.{state-with}
use Rattle.cube_run.specs.RunTransactions.{is_commit_of}

-- A writer is not below a bound.
abbrev pub IsFrom : ℕ → OpenSnapshot → Type 0
IsFrom bound o = o.snapshot.own ≡ true → bound ≤ o.snapshot.epoch

-- An entry begins and commits no epoch below a bound.
abbrev pub ChangesFrom : ℕ → JournalEntry → Type 0
ChangesFrom bound (entry.Begin session statement epoch deps) = bound ≤ epoch
ChangesFrom bound (entry.Committed session statement epoch) = bound ≤ epoch
ChangesFrom bound _ = Unit {0}

pub all_filter : {X : Type 0} (p : X → Bool) (P : X → Type 0) (xs : List X) → AllByRecursion P xs
    → AllByRecursion P (filter p xs)
all_filter p P [] h = tt
all_filter p P (x ∷ xs) h = kept (p x) (all_filter p P xs h.1)
  where
    kept : (b : Bool) → AllByRecursion P (filter p xs) → AllByRecursion P (cond b (x ∷ filter p xs) (filter p xs))
    kept true rest = (h.0, rest)
    kept false rest = rest

pub all_more : {X : Type 0} (P : X → Type 0) (xs : List X) (x : X) → AllByRecursion P xs → P x
    → AllByRecursion P (xs ++ x ∷ [])
all_more P [] x h here = (here, tt)
all_more P (y ∷ xs) x h here = (h.0, all_more P xs x h.1 here)

held_at : (bound session epoch : ℕ) (o : OpenSnapshot) (os : List OpenSnapshot) (b : Bool) → IsFrom bound o
    → (IsSomeAnd (held_by os session) (λ h. (h.own ≡ true) × (h.epoch ≡ epoch)) → bound ≤ epoch)
    → IsSomeAnd (if b then Some o.snapshot else held_by os session) (λ h. (h.own ≡ true) × (h.epoch ≡ epoch))
    → bound ≤ epoch
held_at bound session epoch o os true from rest h = let above = from h.0 in omega (arith, above, h.1)
held_at bound session epoch o os false from rest h = rest h

-- The writer that a session holds is not below.
held_from : (bound session epoch : ℕ) (os : List OpenSnapshot) → AllByRecursion (IsFrom bound) os
    → IsSomeAnd (held_by os session) (λ h. (h.own ≡ true) × (h.epoch ≡ epoch)) → bound ≤ epoch
held_from bound session epoch [] all h = absurd h
held_from bound session epoch (o ∷ os) all h =
    held_at bound session epoch o os (o.session == session) all.0 (held_from bound session epoch os all.1) h

-- What is settled in a state.
record Settles (bound : ℕ) (s : JournalState) : Type 0 where
  next : bound ≤ s.ec
  writers : AllByRecursion (IsFrom bound) s.snapshots

changes_from : (bound safe : ℕ) (before : List JournalEntry) (e : JournalEntry) → CountersAllow safe before e
    → Settles bound (journal_state safe before) → ChangesFrom bound e
changes_from bound safe before (entry.Begin session statement epoch deps) a h =
    let above = h.next in let is = a.next in omega (arith, above, is)
changes_from bound safe before (entry.Committed session statement epoch) a h =
    held_from bound session epoch (journal_state safe before).snapshots h.writers a
changes_from bound safe before e a h = tt

settles_more : (bound safe : ℕ) (before : List JournalEntry) (e : JournalEntry) → CountersAllow safe before e
    → Settles bound (journal_state safe before) → Settles bound (state_after (journal_state safe before) e)
settles_more bound safe before (entry.Begin session statement epoch deps) a h = record {
  next = let above = h.next in omega (arith, above);
  writers =
      all_more (IsFrom bound) (journal_state safe before).snapshots
      (record {
        session = session;
        bound = lce (journal_state safe before);
        snapshot = record { epoch = epoch; deps = deps; own = true };
      })
      h.writers
      (λ own. let above = h.next in let is = a.next in omega (arith, above, is));
}
settles_more bound safe before (entry.Read session statement epoch) a h = record {
  next = h.next;
  writers =
      all_more (IsFrom bound) (journal_state safe before).snapshots
      (record {
        session = session;
        bound = lce (journal_state safe before);
        snapshot = record { epoch = epoch; deps = []; own = false };
      })
      h.writers
      (λ own. absurd (false≢true own));
}
settles_more bound safe before (entry.ReadEnd session statement) a h = record {
  next = h.next;
  writers = all_filter (λ o. not (o.session == session)) (IsFrom bound) (journal_state safe before).snapshots h.writers;
}
settles_more bound safe before (entry.Committed session statement epoch) a h = record {
  next = h.next;
  writers = all_filter (λ o. not (o.session == session)) (IsFrom bound) (journal_state safe before).snapshots h.writers;
}
settles_more bound safe before (entry.Aborted session statement epoch cause) a h = record {
  next = h.next;
  writers = all_filter (λ o. not (o.session == session)) (IsFrom bound) (journal_state safe before).snapshots h.writers;
}
settles_more bound safe before (entry.Cube session statement epoch) a h = record {
  next = let above = h.next in omega (arith, above);
  writers = h.writers;
}
settles_more bound safe before e a h = record { next = h.next; writers = h.writers }

all_change_from : (bound safe : ℕ) (before later : List JournalEntry) → CountersAllowAll safe before later
    → Settles bound (journal_state safe before) → AllByRecursion (ChangesFrom bound) later
all_change_from bound safe before [] a h = tt
all_change_from bound safe before (e ∷ later) a h = (
  changes_from bound safe before e a.0 h,
  all_change_from bound safe (before ++ e ∷ []) later a.1
      (subst (Settles bound) (sym (state-with safe before e)) (settles_more bound safe before e a.0 h)),
)

append_one : (before : List JournalEntry) (e : JournalEntry) (later : List JournalEntry)
    → (before ++ e ∷ []) ++ later ≡ before ++ (e ∷ later)
append_one [] e later = refl
append_one (x ∷ before) e later = ap (λ (xs : List JournalEntry). x ∷ xs) (append_one before e later)

-- What follows a part of a legal journal is allowed after it.
allowed_after : (safe : ℕ) (front before later : List JournalEntry) → CountersAllowAll safe front (before ++ later)
    → CountersAllowAll safe (front ++ before) later
allowed_after safe front [] later a =
    subst (λ (xs : List JournalEntry). CountersAllowAll safe xs later) (sym (append-nil front)) a
allowed_after safe front (e ∷ before) later a =
    subst (λ (xs : List JournalEntry). CountersAllowAll safe xs later) (append_one front e before)
    (allowed_after safe (front ++ e ∷ []) before later a.1)

pub later_changes : (bound safe : ℕ) (before later : List JournalEntry) → CountersAllowAll safe [] (before ++ later)
    → bound ≤ (journal_state safe before).ec → AllByRecursion (IsFrom bound) (journal_state safe before).snapshots
    → AllByRecursion (ChangesFrom bound) later
later_changes bound safe before later a next writers =
    all_change_from bound safe before later (allowed_after safe [] before later a)
    (record { next = next; writers = writers })

-- None of them commits an epoch that is below.
pub none_commits : (bound epoch : ℕ) (part : List JournalEntry) → epoch < bound
    → AllByRecursion (ChangesFrom bound) part → list_any (is_commit_of epoch) part ≡ false
none_commits bound epoch [] l h = refl
none_commits bound epoch (entry.Committed session statement done ∷ part) l h =
    let above = h.0 in
    ap (λ (b : Bool). b || list_any (is_commit_of epoch) part) (ne_eqb done epoch (λ same. omega (arith, same, above, l)))
    ∙ none_commits bound epoch part l h.1
none_commits bound epoch (e ∷ part) l h = none_commits bound epoch part l h.1
