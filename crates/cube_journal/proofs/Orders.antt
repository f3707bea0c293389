-- Each entry that is allowed keeps the counters in order.
use Rattle.std.proofs.Common.{◌≡◌, ℕ, ◌+◌, ◌-◌, ◌<◌, ◌≤◌, Bool, true, false, not, ◌&&◌, ◌==◌, List, [], ◌∷◌, ◌++◌, fold, min, nat_lt, nat_le, Option, Some, None, All, IfSome, refl, ap, sym, subst, ◌∙◌, arith}
use Rattle.std.proofs.lemmas.List.{append-nil}
use Rattle.std.proofs.lemmas.Bool.Decides.{nat_tests}
use Rattle.std.proofs.lemmas.List.Elements.{All-append, All-cons, All-nil, All-filter}
use Rattle.std.proofs.lemmas.List.Sums.{fold-append}
use Rattle.cube_journal.specs.declared.counters.OpenSnapshot.{OpenSnapshot}
use Rattle.cube_journal.specs.declared.journal_entry.JournalEntry.{JournalEntry}
use Rattle.cube_journal.specs.declared.journal_entry.JournalEntry.TheVariants as entry
use Rattle.cube_journal.specs.Counters.{JournalState, lce, target, oldest_bound, snapshots_without, state_after, opening_state, journal_state}
use Rattle.cube_journal.specs.Legal.{CountersAllow, CountersAllowAll}
use Rattle.cube_journal.specs.Order.{NeverFalls, IsAdmissibleToBound, IsInOrder}
use Rattle.cube_journal.proofs.LeastEpochs.{lt-fold, fold-rises, fold-below, fold-filter, fold-next}
use Rattle.cube_journal.proofs.OpenBounds.{to-higher, bounds-without, bounds-with, from-oldest, oldest-higher, oldest-with, oldest-without}

-- What an entry may rely on: besides the order, no epoch is 0.
record Holds (s : JournalState) : Type 0 where
  first : 0 < fold min s.ec s.pending
  bounds : NeverFalls s.lse s.snapshots (lce s)
  admissible : All IsAdmissibleToBound s.snapshots
  round : IfSome s.round (λ epoch. (s.lse < epoch) × (epoch ≤ target s))

round-to : (round : Option ℕ) (low a b : ℕ) → a ≤ b → IfSome round (λ epoch. (low < epoch) × (epoch ≤ a))
    → IfSome round (λ epoch. (low < epoch) × (epoch ≤ b))
round-to None low a b le r = r
round-to (Some epoch) low a b le r = let above = r.0 in let below = r.1 in (omega arith, omega arith)

-- A snapshot opens with LCE as its bound, and LCE stays.
with-snapshot : (s t : JournalState) (o : OpenSnapshot) → o.bound ≡ lce s → IsAdmissibleToBound o
    → fold min t.ec t.pending ≡ fold min s.ec s.pending → t.lse ≡ s.lse → t.round ≡ s.round
    → t.snapshots ≡ s.snapshots ++ o ∷ [] → Holds s → Holds t
with-snapshot s t o bound admits least lse round snapshots h = record {
  first = omega (arith, h.first);
  bounds = rw (lse, snapshots, least) (bounds-with s.lse (lce s) s.snapshots o bound h.bounds);
  admissible = rw snapshots (All-append IsAdmissibleToBound s.snapshots (o ∷ []) h.admissible (All-cons IsAdmissibleToBound o [] admits (All-nil IsAdmissibleToBound)));
  round = rw (round, lse, snapshots, least, oldest-with (lce s) s.snapshots o bound) h.round;
}

-- LCE rises, and nothing else changes.
with-epoch : (s t : JournalState) → fold min s.ec s.pending ≤ fold min t.ec t.pending → t.lse ≡ s.lse
    → t.round ≡ s.round → t.snapshots ≡ s.snapshots → Holds s → Holds t
with-epoch s t least lse round snapshots h =
    let higher : lce s ≤ lce t = omega arith in
    record {
      first = omega (arith, h.first);
      bounds = rw (lse, snapshots) (to-higher s.lse (lce s) (lce t) s.snapshots higher h.bounds);
      admissible = rw snapshots h.admissible;
      round = rw (round, lse, snapshots) (round-to s.round s.lse (target s) (oldest_bound s.snapshots (lce t)) (oldest-higher (lce s) (lce t) s.snapshots higher) h.round);
    }

-- A session's snapshot ends, and LCE may rise.
without-snapshot : (s t : JournalState) (session : ℕ) → fold min s.ec s.pending ≤ fold min t.ec t.pending
    → t.lse ≡ s.lse → t.round ≡ s.round → t.snapshots ≡ snapshots_without session s.snapshots → Holds s → Holds t
without-snapshot s t session least lse round snapshots h =
    let higher : lce s ≤ lce t = omega arith in
    let left = bounds-without session s.lse (lce s) s.snapshots h.bounds in
    let oldest = oldest-without session s.lse (lce s) s.snapshots h.bounds in
    let older = oldest-higher (lce s) (lce t) (snapshots_without session s.snapshots) higher in
    record {
      first = omega (arith, h.first);
      bounds = rw (lse, snapshots) (to-higher s.lse (lce s) (lce t) (snapshots_without session s.snapshots) higher left);
      admissible = rw snapshots (All-filter (λ o. not (o.session == session)) IsAdmissibleToBound s.snapshots h.admissible);
      round = rw (round, lse, snapshots) (round-to s.round s.lse (target s) (oldest_bound (snapshots_without session s.snapshots) (lce t)) (omega arith) h.round);
    }

writer-bound : (e m : ℕ) → 0 < m → nat_lt e m ≡ nat_le e (m - 1)
writer-bound e m pos = grind (arith, nat_tests)

and-true : (a : Bool) → (a && true) ≡ a
and-true true = refl
and-true false = refl

begin-holds : (s : JournalState) (session statement : ℕ) → Holds s
    → Holds (state_after s (entry.Begin session statement s.ec s.pending))
begin-holds s session statement h =
    with-snapshot s (state_after s (entry.Begin session statement s.ec s.pending))
    (record { session = session; bound = lce s; snapshot = record { epoch = s.ec; deps = s.pending; own = true } })
    refl
    (λ e. sym (lt-fold e s.ec s.pending) ∙ writer-bound e (fold min s.ec s.pending) h.first)
    (fold-next s.ec s.pending) refl refl refl h

read-holds : (s : JournalState) (session statement : ℕ) → Holds s
    → Holds (state_after s (entry.Read session statement (lce s)))
read-holds s session statement h =
    with-snapshot s (state_after s (entry.Read session statement (lce s)))
    (record { session = session; bound = lce s; snapshot = record { epoch = lce s; deps = []; own = false } })
    refl
    (λ e. and-true (nat_le e (lce s)))
    refl refl refl refl h

round-ends : (s t : JournalState) → t.ec ≡ s.ec → t.pending ≡ s.pending → t.lse ≡ s.lse → t.round ≡ None
    → t.snapshots ≡ s.snapshots → Holds s → Holds t
round-ends s t ec pending lse round snapshots h = record {
  first = rw (ec, pending) h.first;
  bounds = rw (lse, snapshots, ec, pending) h.bounds;
  admissible = rw snapshots h.admissible;
  round = rw round tt;
}

-- The round that ends as safe went up to at most the target.
safe-bound : (round : Option ℕ) (epoch low high : ℕ) → round ≡ Some epoch → IfSome round (λ e. (low < e) × (e ≤ high))
    → epoch ≤ high
safe-bound None epoch low high is r = absurd (cc)
safe-bound (Some e) epoch low high is r = let same : e ≡ epoch = cc in let below = r.1 in omega arith

le-refl : (n : ℕ) → n ≤ n
le-refl n = omega arith

-- An entry that changes no counter, snapshot or round.
quiet : (s t : JournalState) → t.ec ≡ s.ec → t.pending ≡ s.pending → t.lse ≡ s.lse → t.round ≡ s.round
    → t.snapshots ≡ s.snapshots → Holds s → Holds t
quiet s t ec pending lse round snapshots h =
    with-epoch s t (rw (ec, pending) (le-refl (fold min s.ec s.pending))) lse round snapshots h

-- Each entry that is allowed.
step-holds : (s : JournalState) (safe : ℕ) (before : List JournalEntry) (e : JournalEntry)
    → s ≡ journal_state safe before → CountersAllow safe before e → Holds s → Holds (state_after s e)
step-holds s safe before (entry.Begin session statement epoch deps) is a h =
    let next : epoch ≡ s.ec = a.next ∙ ap (λ (x : JournalState). x.ec) (sym is) in
    let pending : deps ≡ s.pending = a.pending ∙ ap (λ (x : JournalState). x.pending) (sym is) in
    subst (λ e. Holds (state_after s (entry.Begin session statement e deps))) (sym next)
    (subst (λ d. Holds (state_after s (entry.Begin session statement s.ec d))) (sym pending) (begin-holds s session statement h))
step-holds s safe before (entry.Read session statement epoch) is a h =
    let latest : epoch ≡ lce s = a.latest ∙ ap lce (sym is) in
    subst (λ e. Holds (state_after s (entry.Read session statement e))) (sym latest) (read-holds s session statement h)
step-holds s safe before (entry.ReadEnd session statement) is a h =
    without-snapshot s (state_after s (entry.ReadEnd session statement)) session (le-refl (fold min s.ec s.pending)) refl refl refl h
step-holds s safe before (entry.Committed session statement epoch) is a h =
    without-snapshot s (state_after s (entry.Committed session statement epoch)) session
    (fold-filter (λ e. not (e == epoch)) s.ec s.pending) refl refl refl h
step-holds s safe before (entry.Aborted session statement epoch cause) is a h =
    without-snapshot s (state_after s (entry.Aborted session statement epoch cause)) session
    (fold-filter (λ e. not (e == epoch)) s.ec s.pending) refl refl refl h
step-holds s safe before (entry.Refused session statement code) is a h =
    quiet s (state_after s (entry.Refused session statement code)) refl refl refl refl refl h
step-holds s safe before (entry.Cleared session statement) is a h =
    quiet s (state_after s (entry.Cleared session statement)) refl refl refl refl refl h
step-holds s safe before (entry.Show session statement) is a h =
    quiet s (state_after s (entry.Show session statement)) refl refl refl refl refl h
step-holds s safe before (entry.Flushed session statement) is a h =
    quiet s (state_after s (entry.Flushed session statement)) refl refl refl refl refl h
step-holds s safe before (entry.Purged session statement epoch) is a h =
    quiet s (state_after s (entry.Purged session statement epoch)) refl refl refl refl refl h
step-holds s safe before (entry.Cube session statement epoch) is a h =
    with-epoch s (state_after s (entry.Cube session statement epoch)) (fold-rises s.ec (s.ec + 1) s.pending (omega arith)) refl refl refl h
step-holds s safe before (entry.Round epoch) is a h =
    let up_to : epoch ≡ target s = a.target ∙ ap target (sym is) in
    let more : s.lse < epoch = subst (λ (x : JournalState). x.lse < epoch) (sym is) a.more in
    record {
      first = h.first;
      bounds = h.bounds;
      admissible = h.admissible;
      round = (more, subst (λ n. n ≤ target s) (sym up_to) (le-refl (target s)));
    }
step-holds s safe before (entry.Idle epoch) is a h =
    quiet s (state_after s (entry.Idle epoch)) refl refl refl refl refl h
step-holds s safe before (entry.Safe epoch) is a h =
    let open_round : s.round ≡ Some epoch = ap (λ (x : JournalState). x.round) is ∙ a in
    record {
      first = h.first;
      bounds = from-oldest s.lse (lce s) epoch s.snapshots (safe-bound s.round epoch s.lse (target s) open_round h.round) h.bounds;
      admissible = h.admissible;
      round = tt;
    }
step-holds s safe before (entry.RoundLost epoch cause) is a h =
    round-ends s (state_after s (entry.RoundLost epoch cause)) refl refl refl refl refl h

append-one : (before : List JournalEntry) (e : JournalEntry) (later : List JournalEntry)
    → (before ++ e ∷ []) ++ later ≡ before ++ (e ∷ later)
append-one [] e later = refl
append-one (x ∷ before) e later = ap (λ xs. x ∷ xs) (append-one before e later)

pub state-with : (safe : ℕ) (journal : List JournalEntry) (e : JournalEntry)
    → journal_state safe (journal ++ e ∷ []) ≡ state_after (journal_state safe journal) e
state-with safe journal e = fold-append state_after (opening_state safe) journal (e ∷ [])

all-hold : (safe : ℕ) (before later : List JournalEntry) → CountersAllowAll safe before later
    → Holds (journal_state safe before) → Holds (journal_state safe (before ++ later))
all-hold safe before [] a h = subst (λ xs. Holds (journal_state safe xs)) (sym (append-nil before)) h
all-hold safe before (e ∷ later) a h =
    subst (λ xs. Holds (journal_state safe xs)) (append-one before e later)
    (all-hold safe (before ++ e ∷ []) later a.1
    (subst Holds (sym (state-with safe before e)) (step-holds (journal_state safe before) safe before e refl a.0 h)))

opening-holds : (safe : ℕ) → Holds (opening_state safe)
opening-holds safe = record { first = omega arith; bounds = omega arith; admissible = All-nil IsAdmissibleToBound; round = tt }

in-order : (s : JournalState) → Holds s → IsInOrder s
in-order s h = record {
  next = omega (arith, h.first, fold-below s.ec s.pending);
  bounds = h.bounds;
  admissible = h.admissible;
  round = h.round;
}

pub legal-order : (safe : ℕ) (journal : List JournalEntry) → CountersAllowAll safe [] journal
    → IsInOrder (journal_state safe journal)
legal-order safe journal a = in-order (journal_state safe journal) (all-hold safe [] journal a (opening-holds safe))

legal-more : (safe : ℕ) (before later : List JournalEntry) (e : JournalEntry) → CountersAllowAll safe before later
    → CountersAllow safe (before ++ later) e → CountersAllowAll safe before (later ++ e ∷ [])
legal-more safe before [] e a more = (subst (λ xs. CountersAllow safe xs e) (append-nil before) more, tt)
legal-more safe before (x ∷ later) e a more =
    (a.0, legal-more safe (before ++ x ∷ []) later e a.1 (subst (λ xs. CountersAllow safe xs e) (sym (append-one before x later)) more))

pub legal-with : (safe : ℕ) (journal : List JournalEntry) (e : JournalEntry) → CountersAllowAll safe [] journal
    → CountersAllow safe journal e → CountersAllowAll safe [] (journal ++ e ∷ [])
legal-with safe journal e a more = legal-more safe [] journal e a more
