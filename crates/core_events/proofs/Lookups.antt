-- The first item of a key in a list, with one more item and without those of a key.
use Rattle.std.proofs.Common.{◌≡◌, ◌∙◌, ℕ, ◌==◌, Bool, true, false, not, List, [], ◌∷◌, ◌++◌, filter, Option, Some, None, if◌then◌else◌, inl, inr, refl, sym, ap, eqb-true}
use Rattle.std.proofs.lemmas.Bool.Decides.{eqb_tells}
use Rattle.cube_journal.specs.declared.counters.OpenSnapshot.{OpenSnapshot}
use Rattle.cube_journal.specs.Counters.{held_by, snapshots_without}
use Rattle.core_events.specs.Clients.{Holding, held_under, holds_without}

abbrev pub lookup : {X V : Type 0} → (X → ℕ) → (X → V) → List X → ℕ → Option V
lookup key value [] k = None
lookup key value (x ∷ xs) k = if key x == k then Some (value x) else lookup key value xs k

-- What is found where an item stands behind the others, and where those of a key are left out.
abbrev pub with_one : {V : Type 0} → Option V → Bool → V → Option V
with_one (Some x) here v = Some x
with_one None true v = Some v
with_one None false v = None

abbrev pub without_one : {V : Type 0} → Bool → Option V → Option V
without_one true o = None
without_one false o = o

one-or-none : {V : Type 0} (here : Bool) (v : V) → (if here then Some v else None) ≡ with_one None here v
one-or-none true v = refl
one-or-none false v = refl

behind-first : {V : Type 0} (first here : Bool) (x v : V) (more old : Option V) → more ≡ with_one old here v
    → (if first then Some x else more) ≡ with_one (if first then Some x else old) here v
behind-first true here x v more old e = refl
behind-first false here x v more old e = e

pub lookup-append : {X V : Type 0} (key : X → ℕ) (value : X → V) (xs : List X) (y : X) (k : ℕ)
    → lookup key value (xs ++ y ∷ []) k ≡ with_one (lookup key value xs k) (key y == k) (value y)
lookup-append key value [] y k = one-or-none (key y == k) (value y)
lookup-append key value (x ∷ xs) y k =
    behind-first (key x == k) (key y == k) (value x) (value y) (lookup key value (xs ++ y ∷ []) k) (lookup key value xs k)
    (lookup-append key value xs y k)

none-without : {V : Type 0} (out : Bool) → ◌≡◌ {A = Option V} None (without_one out None)
none-without true = refl
none-without false = refl

same-out : {V : Type 0} (out : Bool) (v : V) (o : Option V)
    → without_one out o ≡ without_one out (if out then Some v else o)
same-out true v o = refl
same-out false v o = refl

apart-out : {V : Type 0} (first out : Bool) (v : V) (o : Option V) → (first ≡ true → out ≡ true → ⊥)
    → (if first then Some v else without_one out o) ≡ without_one out (if first then Some v else o)
apart-out true true v o apart = absurd (apart refl refl)
apart-out true false v o apart = refl
apart-out false out v o apart = refl

pub lookup-without : {X V : Type 0} (key : X → ℕ) (value : X → V) (xs : List X) (n k : ℕ)
    → lookup key value (filter (λ x. not (key x == n)) xs) k ≡ without_one (n == k) (lookup key value xs k)
lookup-without key value [] n k = none-without (n == k)
lookup-without key value (x ∷ xs) n k =
    let rest = filter (λ x. not (key x == n)) xs in
    let o = lookup key value xs k in
    elim (eqb_tells (key x) n) [
      | inl same ↦
          ap (λ (b : Bool). lookup key value (if not b then x ∷ rest else rest) k) same.0
          ∙ lookup-without key value xs n k
          ∙ same-out (n == k) (value x) o
          ∙ ap (λ (y : ℕ). without_one (n == k) (if y == k then Some (value x) else o)) (sym same.1)
      | inr other ↦
          ap (λ (b : Bool). lookup key value (if not b then x ∷ rest else rest) k) other.0
          ∙ ap (λ r. if key x == k then Some (value x) else r) (lookup-without key value xs n k)
          ∙ apart-out (key x == k) (n == k) (value x) o
          (λ first out. other.1 (eqb-true (key x) k first ∙ sym (eqb-true n k out)))
    ]

-- Both lists of snapshots are looked up so.
pub held-by-is : (xs : List OpenSnapshot) (m : ℕ) → held_by xs m ≡ lookup (λ o. o.session) (λ o. o.snapshot) xs m
held-by-is [] m = refl
held-by-is (x ∷ xs) m = ap (λ r. if x.session == m then Some x.snapshot else r) (held-by-is xs m)

pub held-under-is : (xs : List Holding) (m : ℕ) → held_under m xs ≡ lookup (λ h. h.number) (λ h. h.snapshot) xs m
held-under-is [] m = refl
held-under-is (x ∷ xs) m = ap (λ r. if x.number == m then Some x.snapshot else r) (held-under-is xs m)

pub held-by-append : (xs : List OpenSnapshot) (o : OpenSnapshot) (m : ℕ)
    → held_by (xs ++ o ∷ []) m ≡ with_one (held_by xs m) (o.session == m) o.snapshot
held-by-append xs o m =
    held-by-is (xs ++ o ∷ []) m
    ∙ lookup-append (λ (s : OpenSnapshot). s.session) (λ (s : OpenSnapshot). s.snapshot) xs o m
    ∙ ap (λ r. with_one r (o.session == m) o.snapshot) (sym (held-by-is xs m))

pub held-by-without : (xs : List OpenSnapshot) (n m : ℕ)
    → held_by (snapshots_without n xs) m ≡ without_one (n == m) (held_by xs m)
held-by-without xs n m =
    held-by-is (snapshots_without n xs) m
    ∙ lookup-without (λ (s : OpenSnapshot). s.session) (λ (s : OpenSnapshot). s.snapshot) xs n m
    ∙ ap (without_one (n == m)) (sym (held-by-is xs m))

pub held-under-append : (xs : List Holding) (h : Holding) (m : ℕ)
    → held_under m (xs ++ h ∷ []) ≡ with_one (held_under m xs) (h.number == m) h.snapshot
held-under-append xs h m =
    held-under-is (xs ++ h ∷ []) m
    ∙ lookup-append (λ (s : Holding). s.number) (λ (s : Holding). s.snapshot) xs h m
    ∙ ap (λ r. with_one r (h.number == m) h.snapshot) (sym (held-under-is xs m))

pub held-under-without : (xs : List Holding) (n m : ℕ)
    → held_under m (holds_without n xs) ≡ without_one (n == m) (held_under m xs)
held-under-without xs n m =
    held-under-is (holds_without n xs) m
    ∙ lookup-without (λ (s : Holding). s.number) (λ (s : Holding). s.snapshot) xs n m
    ∙ ap (without_one (n == m)) (sym (held-under-is xs m))
