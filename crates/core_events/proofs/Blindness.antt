-- An open snapshot sees no epoch that is pending, but its own; it sees all up to LSE.
use Rattle.std.proofs.Common.{◌≡◌, ◌⊎◌, ◌∙◌, ℕ, ◌<◌, ◌≤◌, ◌==◌, Bool, true, false, not, ◌&&◌, ◌||◌, nat_le, nat_lt, fold, min, List, [], ◌∷◌, Option, Some, None, All, if◌then◌else◌, inl, inr, refl, sym, ap, arith, eqb-true, ne_eqb, le-leb, lt-ltb, length}
use Rattle.std.specs.List.{list_any, list_all}
use Rattle.std.proofs.lemmas.Bool.{false≢true, leb-true, ltb-true, false_from_ne_true}
use Rattle.std.proofs.lemmas.Option.{none-some, same_Some}
use Rattle.std.proofs.lemmas.Bool.Decides.{leb_tells}
use Rattle.std.proofs.lemmas.List.Elements.{All-cons, All-head, All-nil, All-tail}
use Rattle.cube_values.specs.declared.snapshot.Snapshot.{Snapshot}
use Rattle.cube_values.specs.Sees.{sees}
use Rattle.cube_journal.specs.declared.counters.OpenSnapshot.{OpenSnapshot}
use Rattle.cube_journal.specs.declared.journal_entry.JournalEntry.{JournalEntry}
use Rattle.cube_journal.specs.declared.journal_entry.JournalEntry.TheVariants as entry
use Rattle.cube_journal.specs.Counters.{JournalState, state_after, held_by, lce}
use Rattle.cube_journal.specs.Order.{IsInOrder, IsAdmissibleToBound}
use Rattle.cube_journal.proofs.LeastEpochs.{lt-fold}
use Rattle.core_events.specs.Events.{Opening, CoreEvent, By, At}
use Rattle.core_events.specs.Groups.{has_number}
use Rattle.core_events.specs.Clients.{writer_at, reader_up_to}
use Rattle.core_events.specs.Cells.{counters_of_run}
use Rattle.core_events.specs.Runs.{IsCoreRun}
use Rattle.core_events.proofs.Lookups.{with_one, without_one, held-by-append, held-by-without}
use Rattle.core_events.proofs.DeskSteps.{client_entry, state_with_entry, run-step}
use Rattle.core_events.proofs.InOrder.{StateAllows, AllowsEntry, run-allowed, run-order, lse-below-bounds}
use Rattle.core_events.proofs.Finished.{with-one-is, without-one-is, has-more, has-without, or-is}

pub record AreBlind (s : JournalState) : Type 0 where
  pub low : (e : ℕ) → has_number s.pending e ≡ true → 0 < e
  pub past : (m e : ℕ) (t : Snapshot) → held_by s.snapshots m ≡ Some t → sees t e ≡ true → e < s.ec
  pub blind : (m e : ℕ) (t : Snapshot) → held_by s.snapshots m ≡ Some t → has_number s.pending e ≡ true
      → (t.own ≡ true → t.epoch ≡ e → ⊥) → sees t e ≡ false

all-has : (e : ℕ) (xs : List ℕ) → list_all (nat_lt e) xs ≡ true → has_number xs e ≡ true → ⊥
all-has e [] all has = false≢true has
all-has e (x ∷ xs) all has =
    let p = both-are (nat_lt e x) (list_all (nat_lt e) xs) all in
    elim (or-is (x == e) (has_number xs e) has) [
      | inl same ↦ (let l = ltb-true e x p.0 in let is = eqb-true x e same in omega (arith, l, is))
      | inr rest ↦ all-has e xs p.1 rest
    ]
  where
    both-are : (a b : Bool) → (a && b) ≡ true → (a ≡ true) × (b ≡ true)
    both-are true b e = (refl, e)
    both-are false b e = absurd (false≢true e)

-- LCE is below each pending epoch.
pub least-pending : (s : JournalState) (e : ℕ) → has_number s.pending e ≡ true → 0 < e → lce s < e
least-pending s e has low = elim (dec (fold min s.ec s.pending) e) [
  | inl le ↦ (let l = le in omega (arith, l, low))
  | inr gt ↦ absurd (all-has e s.pending (right-of (nat_lt e s.ec) (list_all (nat_lt e) s.pending)
      (sym (lt-fold e s.ec s.pending) ∙ lt-ltb e (fold min s.ec s.pending) gt)) has)
] where
  dec : (a b : ℕ) → (a ≤ b) ⊎ (b < a)
  dec a b = elim (leb_tells a b) [ inl low ↦ inl low.1 | inr high ↦ inr high.1 ]

  right-of : (a b : Bool) → (a && b) ≡ true → b ≡ true
  right-of true b e = e
  right-of false b e = absurd (false≢true e)

and-none : (b : Bool) → (b && false) ≡ false
and-none true = refl
and-none false = refl

deps-hide : (k e : ℕ) (deps : List ℕ) → has_number deps e ≡ true → sees (writer_at k deps) e ≡ false
deps-hide k e deps has = ap (λ (b : Bool). nat_le e k && not b) has ∙ and-none (nat_le e k)

sees-up : (t : Snapshot) (e : ℕ) → sees t e ≡ true → e ≤ t.epoch
sees-up t e is = leb-true e t.epoch (left-of (nat_le e t.epoch) (not (list_any (λ dep. dep == e) t.deps)) is)
  where
    left-of : (a b : Bool) → (a && b) ≡ true → a ≡ true
    left-of true b e = refl
    left-of false b e = absurd (false≢true e)

-- A snapshot ends, and pending epochs may end.
blind-less : (s t : JournalState) (n : ℕ) → ((m : ℕ) → held_by t.snapshots m ≡ without_one (n == m) (held_by s.snapshots m))
    → ((e : ℕ) → has_number t.pending e ≡ true → has_number s.pending e ≡ true) → t.ec ≡ s.ec → AreBlind s → AreBlind t
blind-less s t n held less ec b = record {
  low = λ e is. b.low e (less e is);
  past = λ m e x is seen.
      let l = b.past m e x (without-one-is (n == m) (held_by s.snapshots m) x (sym (held m) ∙ is)).1 seen in
      omega (arith, l, ec);
  blind = λ m e x is has other.
      b.blind m e x (without-one-is (n == m) (held_by s.snapshots m) x (sym (held m) ∙ is)).1 (less e has) other;
}

blind-same : (s t : JournalState) → t.snapshots ≡ s.snapshots → t.pending ≡ s.pending → s.ec ≤ t.ec → AreBlind s → AreBlind t
blind-same s t snapshots pending ec b = record {
  low = λ e is. b.low e (sym (ap (λ p. has_number p e) pending) ∙ is);
  past = λ m e x is seen. let l = b.past m e x (sym (ap (λ xs. held_by xs m) snapshots) ∙ is) seen in omega (arith, l, ec);
  blind = λ m e x is has other.
      b.blind m e x (sym (ap (λ xs. held_by xs m) snapshots) ∙ is) (sym (ap (λ p. has_number p e) pending) ∙ has) other;
}

left-part : (a c : Bool) → (a && c) ≡ true → a ≡ true
left-part true c e = refl
left-part false c e = absurd (false≢true e)

entry-blind : (s : JournalState) (e : JournalEntry) → StateAllows s e → IsInOrder s → AreBlind s → AreBlind (state_after s e)
entry-blind s (entry.Begin session statement k deps) h order b = record {
  low = λ e is. elim (or-is (has_number s.pending e) (k == e) (sym (has-more s.pending k e) ∙ is)) [
    | inl old ↦ b.low e old
    | inr new ↦ (let same = eqb-true k e new in let next = h.next in let low = order.next in omega (arith, same, next, low))
  ];
  past = λ m e t is seen. elim (with-one-is (held_by s.snapshots m) (session == m) (writer_at k deps) t (sym (held m) ∙ is)) [
    | inl old ↦ (let l = b.past m e t old seen in omega (arith, l))
    | inr new ↦ (let l = sees-up (writer_at k deps) e (ap (λ (x : Snapshot). sees x e) new.1 ∙ seen) in let next = h.next in omega (arith, l, next))
  ];
  blind = λ m e t is has other.
      elim (or-is (has_number s.pending e) (k == e) (sym (has-more s.pending k e) ∙ has)) [
        | inl olde ↦ elim (with-one-is (held_by s.snapshots m) (session == m) (writer_at k deps) t (sym (held m) ∙ is)) [
          | inl old ↦ b.blind m e t old olde other
          | inr new ↦ sym (ap (λ (x : Snapshot). sees x e) new.1)
              ∙ deps-hide k e deps (ap (λ (d : List ℕ). has_number d e) h.pending ∙ olde)
        ]
        | inr newe ↦ elim (with-one-is (held_by s.snapshots m) (session == m) (writer_at k deps) t (sym (held m) ∙ is)) [
          | inl old ↦ false_from_ne_true (sees t e) (λ sure.
              let l = b.past m e t old sure in
              let same = eqb-true k e newe in
              let next = h.next in
              omega (arith, l, same, next))
          | inr new ↦ absurd (other (sym (ap (λ (x : Snapshot). x.own) new.1))
              (sym (ap (λ (x : Snapshot). x.epoch) new.1) ∙ eqb-true k e newe))
        ]
      ];
} where
  held : (m : ℕ) → held_by (state_after s (entry.Begin session statement k deps)).snapshots m
      ≡ with_one (held_by s.snapshots m) (session == m) (writer_at k deps)
  held m = held-by-append s.snapshots (record { session = session; bound = lce s; snapshot = writer_at k deps }) m
entry-blind s (entry.Read session statement k) h order b = record {
  low = b.low;
  past = λ m e t is seen. elim (with-one-is (held_by s.snapshots m) (session == m) (reader_up_to k) t (sym (held m) ∙ is)) [
    | inl old ↦ b.past m e t old seen
    | inr new ↦ (let l = sees-up (reader_up_to k) e (ap (λ (x : Snapshot). sees x e) new.1 ∙ seen) in
        let latest = h.latest in let next = order.next in omega (arith, l, latest, next))
  ];
  blind = λ m e t is has other. elim (with-one-is (held_by s.snapshots m) (session == m) (reader_up_to k) t (sym (held m) ∙ is)) [
    | inl old ↦ b.blind m e t old has other
    | inr new ↦ false_from_ne_true (sees t e) (λ sure.
        let l = sees-up (reader_up_to k) e (ap (λ (x : Snapshot). sees x e) new.1 ∙ sure) in
        let latest = h.latest in
        let least = least-pending s e has (b.low e has) in
        omega (arith, l, latest, least))
  ];
} where
  held : (m : ℕ) → held_by (state_after s (entry.Read session statement k)).snapshots m
      ≡ with_one (held_by s.snapshots m) (session == m) (reader_up_to k)
  held m = held-by-append s.snapshots (record { session = session; bound = lce s; snapshot = reader_up_to k }) m
entry-blind s (entry.ReadEnd session statement) h order b =
    blind-less s (state_after s (entry.ReadEnd session statement)) session (held-by-without s.snapshots session) (λ e is. is) refl b
entry-blind s (entry.Committed session statement k) h order b =
    blind-less s (state_after s (entry.Committed session statement k)) session (held-by-without s.snapshots session)
    (λ e is. left-part (has_number s.pending e) (not (k == e)) (sym (has-without s.pending k e) ∙ is)) refl b
entry-blind s (entry.Aborted session statement k cause) h order b =
    blind-less s (state_after s (entry.Aborted session statement k cause)) session (held-by-without s.snapshots session)
    (λ e is. left-part (has_number s.pending e) (not (k == e)) (sym (has-without s.pending k e) ∙ is)) refl b
entry-blind s (entry.Cube session statement k) h order b =
    blind-same s (state_after s (entry.Cube session statement k)) refl refl (omega arith) b
entry-blind s e h order b = blind-same s (state_after s e) refl refl (omega arith) b

step-blind : (s : JournalState) (e : Option JournalEntry) → AllowsEntry s e → IsInOrder s → AreBlind s → AreBlind (state_with_entry e s)
step-blind s None h order b = b
step-blind s (Some e) h order b = entry-blind s e h order b

pub run-blind : (o : Opening) (es : List CoreEvent) → IsCoreRun o es → AreBlind (counters_of_run o es)
run-blind o [] run = record {
  low = λ e is. absurd (false≢true is);
  past = λ m e t is seen. absurd (none-some t is);
  blind = λ m e t is has other. absurd (none-some t is);
}
run-blind o (By b call ∷ es) run =
    coe 1 0 (i. AreBlind (run-step o b call es i))
    (step-blind (counters_of_run o es) (client_entry b call) (run-allowed o b call es run) (run-order o es run.0) (run-blind o es run.0))
run-blind o (At mail move ∷ es) run = run-blind o es run.0

-- A snapshot that is admissible for an epoch sees all up to it.

all-see : (at e : ℕ) (xs : List ℕ) → list_all (λ dep. nat_lt at dep) xs ≡ true → e ≤ at → list_any (λ dep. dep == e) xs ≡ false
all-see at e [] all le = refl
all-see at e (x ∷ xs) all le =
    let first = ltb-true at x (left-part (nat_lt at x) (list_all (λ dep. nat_lt at dep) xs) all) in
    let rest = all-see at e xs (right-part (nat_lt at x) (list_all (λ dep. nat_lt at dep) xs) all) le in
    λ i. ne_eqb x e (λ same. omega (arith, first, le, same)) i || rest i
  where
    right-part : (a c : Bool) → (a && c) ≡ true → c ≡ true
    right-part true c e = e
    right-part false c e = absurd (false≢true e)

none-deps : (e : ℕ) (deps : List ℕ) → (length deps == 0) ≡ true → list_any (λ dep. dep == e) deps ≡ false
none-deps e [] is = refl
none-deps e (d ∷ deps) is = absurd (let l = eqb-true (length (d ∷ deps)) 0 is in omega (arith, l))

admissible-sees : (own : Bool) (s : Snapshot) (at e : ℕ)
    → (if own then nat_lt at s.epoch && list_all (λ dep. nat_lt at dep) s.deps else nat_le at s.epoch && length s.deps == 0) ≡ true
    → e ≤ at → sees s e ≡ true
admissible-sees true s at e is le =
    let first = ltb-true at s.epoch (left-part (nat_lt at s.epoch) (list_all (λ dep. nat_lt at dep) s.deps) is) in
    let up : nat_le e s.epoch ≡ true = le-leb e s.epoch (omega (arith, first, le)) in
    let deps = all-see at e s.deps (right-of (nat_lt at s.epoch) (list_all (λ dep. nat_lt at dep) s.deps) is) le in
    λ i. up i && not (deps i)
  where
    right-of : (a c : Bool) → (a && c) ≡ true → c ≡ true
    right-of true c e = e
    right-of false c e = absurd (false≢true e)
admissible-sees false s at e is le =
    let first = leb-true at s.epoch (left-part (nat_le at s.epoch) (length s.deps == 0) is) in
    let up : nat_le e s.epoch ≡ true = le-leb e s.epoch (omega (arith, first, le)) in
    let deps = none-deps e s.deps (right-of (nat_le at s.epoch) (length s.deps == 0) is) in
    λ i. up i && not (deps i)
  where
    right-of : (a c : Bool) → (a && c) ≡ true → c ≡ true
    right-of true c e = e
    right-of false c e = absurd (false≢true e)

-- What holds of each open snapshot holds of one that is held.
held-at : (P : OpenSnapshot → Type 0) (x : OpenSnapshot) (xs : List OpenSnapshot) (m : ℕ) (t : Snapshot) (here : Bool) → P x
    → (if here then Some x.snapshot else held_by xs m) ≡ Some t
    → (held_by xs m ≡ Some t → (o : OpenSnapshot) × P o × (o.snapshot ≡ t)) → (o : OpenSnapshot) × P o × (o.snapshot ≡ t)
held-at P x xs m t true first e rest = (x, first, same_Some x.snapshot t e)
held-at P x xs m t false first e rest = rest e

held-all : (P : OpenSnapshot → Type 0) (xs : List OpenSnapshot) (m : ℕ) (t : Snapshot) → All P xs → held_by xs m ≡ Some t
    → (o : OpenSnapshot) × P o × (o.snapshot ≡ t)
held-all P [] m t all is = absurd (none-some t is)
held-all P (x ∷ xs) m t all is =
    held-at P x xs m t (x.session == m) (All-head P x xs all) is (held-all P xs m t (All-tail P x xs all))

record IsSafe (lse : ℕ) (o : OpenSnapshot) : Type 0 where
  bound : lse ≤ o.bound
  admissible : IsAdmissibleToBound o

both-all : (lse : ℕ) (xs : List OpenSnapshot) → All (λ (o : OpenSnapshot). lse ≤ o.bound) xs → All IsAdmissibleToBound xs
    → All (IsSafe lse) xs
both-all lse [] a b = All-nil (IsSafe lse)
both-all lse (x ∷ xs) a b =
    All-cons (IsSafe lse) x xs
    (record { bound = All-head (λ (o : OpenSnapshot). lse ≤ o.bound) x xs a; admissible = All-head IsAdmissibleToBound x xs b })
    (both-all lse xs (All-tail (λ (o : OpenSnapshot). lse ≤ o.bound) x xs a) (All-tail IsAdmissibleToBound x xs b))

-- An open snapshot sees all up to LSE.
pub sees-safe : (o : Opening) (es : List CoreEvent) (m e : ℕ) (t : Snapshot) → IsCoreRun o es
    → held_by (counters_of_run o es).snapshots m ≡ Some t → e ≤ (counters_of_run o es).lse → sees t e ≡ true
sees-safe o es m e t run is le =
    let s = counters_of_run o es in
    let x = held-all (IsSafe s.lse) s.snapshots m t
    (both-all s.lse s.snapshots (lse-below-bounds o es run) (run-order o es run).admissible) is
    in
    ap (λ (y : Snapshot). sees y e) (sym x.2)
    ∙ admissible-sees x.0.snapshot.own x.0.snapshot s.lse e
    (x.1.admissible s.lse ∙ le-leb s.lse x.0.bound x.1.bound) le
