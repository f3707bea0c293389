-- The epochs of open writers are pending, and are different ones.
use Rattle.std.proofs.Common.{◌≡◌, ◌∙◌, ℕ, ◌+◌, ◌<◌, ◌≤◌, Bool, true, false, not, ◌||◌, ◌==◌, cond, if◌then◌else◌, Some, List, [], ◌∷◌, ◌++◌, filter, refl, sym, ap, subst, arith, append_assoc, append-nil, inl, inr}
use Rattle.std.specs.List.{AllByRecursion, list_any}
use Rattle.std.specs.Option.{IsSomeAnd}
use Rattle.std.proofs.lemmas.Bool.{eq-eqb, false≢true, ne_eqb}
use Rattle.std.proofs.lemmas.Bool.Decides.{eqb_tells}
use Rattle.std.proofs.lemmas.List.Folds.{list_any-append}
use Rattle.cube_journal.specs.declared.counters.OpenSnapshot.{OpenSnapshot}
use Rattle.cube_journal.specs.declared.journal_entry.JournalEntry.{JournalEntry}
use Rattle.cube_journal.specs.declared.journal_entry.JournalEntry.TheVariants as entry
use Rattle.cube_journal.specs.Counters.{JournalState, held_by, journal_state, lce, opening_state, snapshots_without, state_after}
use Rattle.cube_journal.specs.Legal.{CountersAllow, CountersAllowAll}
use Rattle.cube_journal.proofs.Orders.{state-with}
use Rattle.cube_run.specs.SessionStates.{Mode}
use Rattle.one_session.specs.Behind.{IsOpenFrom, IsSettled}
use Rattle.one_session.proofs.Settled.{IsFrom, all_filter, all_more}

-- A writer's epoch is pending, and was taken.
abbrev IsPending : List ℕ → ℕ → OpenSnapshot → Type 0
IsPending pending ec o =
    o.snapshot.own ≡ true → (list_any (λ p. p == o.snapshot.epoch) pending ≡ true) × (o.snapshot.epoch < ec)

-- Two of them that write do so at different epochs.
abbrev WritesElsewhere : OpenSnapshot → OpenSnapshot → Type 0
WritesElsewhere o u = u.snapshot.own ≡ true → o.snapshot.own ≡ true → u.snapshot.epoch ≡ o.snapshot.epoch → ⊥

abbrev WriteApart : List OpenSnapshot → Type 0
WriteApart [] = Unit {0}
WriteApart (o ∷ os) = AllByRecursion (WritesElsewhere o) os × WriteApart os

record HasPending (pending : List ℕ) (ec : ℕ) (os : List OpenSnapshot) : Type 0 where
  each : AllByRecursion (IsPending pending ec) os
  apart : WriteApart os

map_all : {X : Type 0} (P Q : X → Type 0) (xs : List X) → ((x : X) → P x → Q x) → AllByRecursion P xs
    → AllByRecursion Q xs
map_all P Q [] f h = tt
map_all P Q (x ∷ xs) f h = (f x h.0, map_all P Q xs f h.1)

apart_filter : (p : OpenSnapshot → Bool) (os : List OpenSnapshot) → WriteApart os → WriteApart (filter p os)
apart_filter p [] h = tt
apart_filter p (o ∷ os) h = kept (p o) (apart_filter p os h.1)
  where
    kept : (b : Bool) → WriteApart (filter p os) → WriteApart (cond b (o ∷ filter p os) (filter p os))
    kept true rest = (all_filter p (WritesElsewhere o) os h.0, rest)
    kept false rest = rest

apart_more : (os : List OpenSnapshot) (o : OpenSnapshot) → WriteApart os
    → AllByRecursion (λ u. WritesElsewhere u o) os → WriteApart (os ++ o ∷ [])
apart_more [] o h new = (tt, tt)
apart_more (u ∷ os) o h new =
    (all_more (WritesElsewhere u) os o h.0 new.0, apart_more os o h.1 new.1)

-- A snapshot that writes at another epoch than this.
abbrev IsElsewhere : ℕ → OpenSnapshot → Type 0
IsElsewhere epoch o = o.snapshot.own ≡ true → o.snapshot.epoch ≡ epoch → ⊥

-- The session holds the writer of this epoch among them.
abbrev HoldsAmong : List OpenSnapshot → ℕ → ℕ → Type 0
HoldsAmong os session epoch = IsSomeAnd (held_by os session) (λ h. (h.own ≡ true) × (h.epoch ≡ epoch))

held_elsewhere : (session epoch other : ℕ) (os : List OpenSnapshot) → AllByRecursion (IsElsewhere other) os
    → HoldsAmong os session epoch → other ≡ epoch → ⊥
held_elsewhere session epoch other [] all h same = absurd h
held_elsewhere session epoch other (o ∷ os) all h same = at (o.session == session) h
    (λ rest. held_elsewhere session epoch other os all.1 rest same)
  where
    at : (b : Bool)
        → IsSomeAnd (if b then Some o.snapshot else held_by os session) (λ h. (h.own ≡ true) × (h.epoch ≡ epoch))
        → (HoldsAmong os session epoch → ⊥) → ⊥
    at true h rest = all.0 h.0 (h.1 ∙ sym same)
    at false h rest = rest h

-- Without a session's snapshots no other writes at the epoch of its writer.
others_elsewhere : (session epoch : ℕ) (os : List OpenSnapshot) → WriteApart os → HoldsAmong os session epoch
    → AllByRecursion (IsElsewhere epoch) (snapshots_without session os)
others_elsewhere session epoch [] a h = tt
others_elsewhere session epoch (o ∷ os) a h = at (o.session == session) h (others_elsewhere session epoch os a.1)
  where
    at : (b : Bool)
        → IsSomeAnd (if b then Some o.snapshot else held_by os session) (λ h. (h.own ≡ true) × (h.epoch ≡ epoch))
        → (HoldsAmong os session epoch → AllByRecursion (IsElsewhere epoch) (snapshots_without session os))
        → AllByRecursion (IsElsewhere epoch)
        (cond (not b) (o ∷ snapshots_without session os) (snapshots_without session os))
    at true h rest =
        all_filter (λ u. not (u.session == session)) (IsElsewhere epoch) os
        (map_all (WritesElsewhere o) (IsElsewhere epoch) os (λ u apart own same. apart own h.0 (same ∙ sym h.1)) a.0)
    at false h rest = (
      (λ own same. held_elsewhere session epoch o.snapshot.epoch os
          (map_all (WritesElsewhere o) (IsElsewhere o.snapshot.epoch) os (λ u apart writes. apart writes own) a.0) h same),
      rest h,
    )

-- An epoch stays pending where another one ends.
still_pending : (x y : ℕ) (ps : List ℕ) → (x ≡ y → ⊥) → list_any (λ p. p == x) ps ≡ true
    → list_any (λ p. p == x) (filter (λ e. not (e == y)) ps) ≡ true
still_pending x y [] differ h = h
still_pending x y (p ∷ ps) differ h =
    elim (eqb_tells p y) [
      | inl is ↦
          ap (λ (b : Bool). list_any (λ p. p == x) (cond (not b) (p ∷ filter (λ e. not (e == y)) ps) (filter (λ e. not (e == y)) ps))) is.0
          ∙ still_pending x y ps differ
          (sym (ap (λ (b : Bool). b || list_any (λ p. p == x) ps) (ne_eqb p x (λ same. differ (sym same ∙ is.1)))) ∙ h)
      | inr other ↦
          ap (λ (b : Bool). list_any (λ p. p == x) (cond (not b) (p ∷ filter (λ e. not (e == y)) ps) (filter (λ e. not (e == y)) ps))) other.0
          ∙ or_more (p == x) (list_any (λ p. p == x) ps) (list_any (λ p. p == x) (filter (λ e. not (e == y)) ps)) h
          (λ rest. still_pending x y ps differ rest)
    ]
  where
    or_more : (b c d : Bool) → (b || c) ≡ true → (c ≡ true → d ≡ true) → (b || d) ≡ true
    or_more true c d h f = refl
    or_more false c d h f = f h

pending_before : (x : ℕ) (ps qs : List ℕ) → list_any (λ p. p == x) ps ≡ true → list_any (λ p. p == x) (ps ++ qs) ≡ true
pending_before x ps qs h =
    list_any-append (λ p. p == x) ps qs ∙ ap (λ (b : Bool). b || list_any (λ p. p == x) qs) h

or_true : (b : Bool) → (b || true) ≡ true
or_true true = refl
or_true false = refl

pending_last : (x : ℕ) (ps : List ℕ) → list_any (λ p. p == x) (ps ++ x ∷ []) ≡ true
pending_last x ps =
    list_any-append (λ p. p == x) ps (x ∷ [])
    ∙ ap (λ (b : Bool). list_any (λ p. p == x) ps || (b || false)) (eq-eqb x x refl)
    ∙ or_true (list_any (λ p. p == x) ps)

-- A writer ends.
writer_ends : (pending : List ℕ) (ec session epoch : ℕ) (os : List OpenSnapshot) → HasPending pending ec os
    → HoldsAmong os session epoch
    → HasPending (filter (λ e. not (e == epoch)) pending) ec (snapshots_without session os)
writer_ends pending ec session epoch os h held = record {
  each =
      both (snapshots_without session os)
      (all_filter (λ o. not (o.session == session)) (IsPending pending ec) os h.each)
      (others_elsewhere session epoch os h.apart held);
  apart = apart_filter (λ o. not (o.session == session)) os h.apart;
} where
  both : (us : List OpenSnapshot) → AllByRecursion (IsPending pending ec) us → AllByRecursion (IsElsewhere epoch) us
      → AllByRecursion (IsPending (filter (λ e. not (e == epoch)) pending) ec) us
  both [] a b = tt
  both (u ∷ us) a b =
      ((λ own. (still_pending u.snapshot.epoch epoch pending (b.0 own) (a.0 own).0, (a.0 own).1)), both us a.1 b.1)

pending_more : (safe : ℕ) (before : List JournalEntry) (e : JournalEntry) (s : JournalState)
    → s ≡ journal_state safe before → CountersAllow safe before e → HasPending s.pending s.ec s.snapshots
    → HasPending (state_after s e).pending (state_after s e).ec (state_after s e).snapshots
pending_more safe before (entry.Begin session statement epoch deps) s is a h =
    let next : epoch ≡ s.ec = a.next ∙ ap (λ (x : JournalState). x.ec) (sym is) in
    record {
      each =
          all_more (IsPending (s.pending ++ epoch ∷ []) (s.ec + 1)) s.snapshots
          (record { session = session; bound = lce s; snapshot = record { epoch = epoch; deps = deps; own = true } })
          (map_all (IsPending s.pending s.ec) (IsPending (s.pending ++ epoch ∷ []) (s.ec + 1)) s.snapshots
          (λ o old own. let low = (old own).1 in (pending_before o.snapshot.epoch s.pending (epoch ∷ []) (old own).0, omega (arith, low))) h.each)
          (λ own. (pending_last epoch s.pending, omega (arith, next)));
      apart =
          apart_more s.snapshots
          (record { session = session; bound = lce s; snapshot = record { epoch = epoch; deps = deps; own = true } })
          h.apart
          (map_all (IsPending s.pending s.ec)
          (λ u. WritesElsewhere u (record { session = session; bound = lce s; snapshot = record { epoch = epoch; deps = deps; own = true } }))
          s.snapshots (λ u old own writes same. let low = (old writes).1 in omega (arith, low, next, same)) h.each);
    }
pending_more safe before (entry.Read session statement epoch) s is a h = record {
  each =
      all_more (IsPending s.pending s.ec) s.snapshots
      (record { session = session; bound = lce s; snapshot = record { epoch = epoch; deps = []; own = false } })
      h.each (λ own. absurd (false≢true own));
  apart =
      apart_more s.snapshots
      (record { session = session; bound = lce s; snapshot = record { epoch = epoch; deps = []; own = false } })
      h.apart
      (map_all (IsPending s.pending s.ec)
      (λ u. WritesElsewhere u (record { session = session; bound = lce s; snapshot = record { epoch = epoch; deps = []; own = false } }))
      s.snapshots (λ u old own writes same. false≢true own) h.each);
}
pending_more safe before (entry.ReadEnd session statement) s is a h = record {
  each = all_filter (λ o. not (o.session == session)) (IsPending s.pending s.ec) s.snapshots h.each;
  apart = apart_filter (λ o. not (o.session == session)) s.snapshots h.apart;
}
pending_more safe before (entry.Committed session statement epoch) s is a h =
    writer_ends s.pending s.ec session epoch s.snapshots h
    (subst (λ (x : JournalState). HoldsAmong x.snapshots session epoch) (sym is) a)
pending_more safe before (entry.Aborted session statement epoch cause) s is a h =
    writer_ends s.pending s.ec session epoch s.snapshots h
    (subst (λ (x : JournalState). HoldsAmong x.snapshots session epoch) (sym is) a)
pending_more safe before (entry.Cube session statement epoch) s is a h = record {
  each =
      map_all (IsPending s.pending s.ec) (IsPending s.pending (s.ec + 1)) s.snapshots
      (λ o old own. let low = (old own).1 in ((old own).0, omega (arith, low))) h.each;
  apart = h.apart;
}
pending_more safe before e s is a h = record { each = h.each; apart = h.apart }

all_pending : (safe : ℕ) (before later : List JournalEntry) (s : JournalState) → s ≡ journal_state safe before
    → CountersAllowAll safe before later → HasPending s.pending s.ec s.snapshots
    → (t : JournalState) → t ≡ journal_state safe (before ++ later) → HasPending t.pending t.ec t.snapshots
all_pending safe before [] s is a h t at =
    subst (λ (x : JournalState). HasPending x.pending x.ec x.snapshots)
    (is ∙ ap (journal_state safe) (sym (append-nil before)) ∙ sym at) h
all_pending safe before (e ∷ later) s is a h t at =
    all_pending safe (before ++ e ∷ []) later (state_after s e)
    (ap (λ (x : JournalState). state_after x e) is ∙ sym (state-with safe before e)) a.1
    (pending_more safe before e s is a.0 h) t (at ∙ ap (journal_state safe) (sym (append_assoc before (e ∷ []) later)))

pending_bound : (bound x : ℕ) (ps : List ℕ) → AllByRecursion (λ p. bound ≤ p) ps → list_any (λ p. p == x) ps ≡ true
    → bound ≤ x
pending_bound bound x [] all h = absurd (false≢true h)
pending_bound bound x (p ∷ ps) all h =
    elim (eqb_tells p x) [
      | inl is ↦ let low = all.0 in let same = is.1 in omega (arith, low, same)
      | inr other ↦
          pending_bound bound x ps all.1 (sym (ap (λ (b : Bool). b || list_any (λ p. p == x) ps) other.0) ∙ h)
    ]

pub settled_by_pending : (safe : ℕ) (journal : List JournalEntry) (mode : Mode) (bound : ℕ)
    → CountersAllowAll safe [] journal → bound ≤ (journal_state safe journal).ec
    → AllByRecursion (λ epoch. bound ≤ epoch) (journal_state safe journal).pending → IsOpenFrom bound mode
    → IsSettled (journal_state safe journal) mode bound
settled_by_pending safe journal mode bound a next all at =
    let s = journal_state safe journal in
    let h = all_pending safe [] journal (opening_state safe) refl a (record { each = tt; apart = tt }) s refl in
    record {
      next = next;
      writers =
          map_all (IsPending s.pending s.ec) (IsFrom bound) s.snapshots
          (λ o is own. pending_bound bound o.snapshot.epoch s.pending all (is own).0) h.each;
      mode_is = at;
    }
