-- Which of two files is the current one, by their headers.
use Rattle.std.proofs.Common.{◌≡◌, ℕ, ◌^◌, ◌<◌, ◌≤◌, ◌⊎◌, Bool, true, false, cond, List, Option, Some, None, Result, Ok, Err, inl, inr, refl, sym, ap, subst, ◌∙◌, arith}
use Rattle.std.specs.Prelude.{◌==◌, nat_lt, nat_le, IfSome}
use Rattle.std.proofs.lemmas.Bool.{ltb-true, ltb-false, lt-ltb, le-ltb, leb-true, le-leb, eqb-true, eq-eqb, cases_Bool}
use Rattle.round_fields.proofs.FieldLaws.{ok_is}
use Rattle.round_fields.proofs.DigestLaws.{passes}
use Rattle.round_text.specs.declared.header.Header.{Header}
use Rattle.store_reading.specs.declared.fault.PairFault.{PairFault}
use Rattle.store_reading.specs.declared.fault.PairFault.TheVariants.{TwoGenerations, GenerationsSpent}
use Rattle.store_reading.specs.Pairs.{CurrentHeader, unspent, newer_of, current_of}

-- One of two headers.
abbrev pub front_of : Bool → Option Header → Option Header → Option Header
front_of second a b = cond second b a

-- A file is closed, or its header is of a generation before this one.
abbrev pub IsBehind : ℕ → Option Header → Type 0
IsBehind generation None = Unit {0}
IsBehind generation (Some h) = h.generation < generation

-- The current header and the other one.
pub record IsNewer (a b : Option Header) (c : CurrentHeader) : Type 0 where
  pub mine : front_of c.0 a b ≡ Some c.1
  pub most : c.1.generation ≤ 2 ^ 61
  pub behind : IsBehind c.1.generation (front_of c.0 b a)

unspent_was : (second : Bool) (h : Header) (c : CurrentHeader) → unspent second h ≡ Ok c → ((second, h) ≡ c) × (h.generation ≤ 2 ^ 61)
unspent_was second h c e =
    let p = passes (nat_le h.generation (2 ^ 61)) (Ok (second, h)) (GenerationsSpent h.generation) c e in
    (ok_is PairFault (second, h) c p.1, leb-true _ _ p.0)

never_both : (b : Bool) → b ≡ false → b ≡ true → ⊥
never_both true e f = cc
never_both false e f = cc

not_equal : (n m : ℕ) → (n == m) ≡ false → n ≡ m → ⊥
not_equal n m e same = never_both (n == m) e (eq-eqb n m same)

newer_was : (a b : Header) (c : CurrentHeader) → newer_of a b ≡ Ok c → IsNewer (Some a) (Some b) c
newer_was a b c e =
    elim (a.generation == b.generation) as (λ t. (a.generation == b.generation) ≡ t
    → cond t (Err (TwoGenerations a.generation)) (cond (nat_lt a.generation b.generation) (unspent true b) (unspent false a)) ≡ Ok c → IsNewer (Some a) (Some b) c) [
      | true ↦ λ is r. absurd cc
      | false ↦ λ is r. (elim (nat_lt a.generation b.generation) as (λ t. nat_lt a.generation b.generation ≡ t → cond t (unspent true b) (unspent false a) ≡ Ok c → IsNewer (Some a) (Some b) c) [
        | true ↦ λ less q.
            let u = unspent_was true b c q in
            subst (IsNewer (Some a) (Some b)) u.0 (record { mine = refl; most = u.1; behind = ltb-true _ _ less })
        | false ↦ λ less q.
            let u = unspent_was false a c q in
            let le : b.generation ≤ a.generation = ltb-false _ _ less in
            let other = not_equal a.generation b.generation is in
            subst (IsNewer (Some a) (Some b)) u.0 (record { mine = refl; most = u.1; behind = omega (arith, le, other) })
      ]) refl r
    ] refl e

pub current_was : (a b : Option Header) (c : CurrentHeader) → current_of a b ≡ Ok c → IsNewer a b c
current_was None None c e = absurd cc
current_was None (Some b) c e =
    let u = unspent_was true b c e in
    subst (IsNewer None (Some b)) u.0 (record { mine = refl; most = u.1; behind = tt })
current_was (Some a) None c e =
    let u = unspent_was false a c e in
    subst (IsNewer (Some a) None) u.0 (record { mine = refl; most = u.1; behind = tt })
current_was (Some a) (Some b) c e = newer_was a b c e

unspent_again : (second : Bool) (h : Header) → h.generation ≤ 2 ^ 61 → unspent second h ≡ Ok (second, h)
unspent_again second h most = rw (le-leb h.generation (2 ^ 61) most) refl

differ : (n m : ℕ) → (n ≡ m → ⊥) → (n == m) ≡ false
differ n m other =
    elim (cases_Bool (n == m)) [
      | inl same ↦ absurd (other (eqb-true n m same))
      | inr is ↦ is
    ]

pub first_again : (a : Header) (b : Option Header) → a.generation ≤ 2 ^ 61 → IsBehind a.generation b → current_of (Some a) b ≡ Ok (false, a)
first_again a None most behind = unspent_again false a most
first_again a (Some b) most behind =
    let other : (a.generation == b.generation) ≡ false = differ a.generation b.generation (λ same. omega (arith, same, behind)) in
    let less : nat_lt a.generation b.generation ≡ false = le-ltb _ _ (omega (arith, behind)) in
    rw (other, less) (unspent_again false a most)

pub second_again : (a : Option Header) (b : Header) → b.generation ≤ 2 ^ 61 → IsBehind b.generation a → current_of a (Some b) ≡ Ok (true, b)
second_again None b most behind = unspent_again true b most
second_again (Some a) b most behind =
    let other : (a.generation == b.generation) ≡ false = differ a.generation b.generation (λ same. omega (arith, same, behind)) in
    let less : nat_lt a.generation b.generation ≡ true = lt-ltb _ _ behind in
    rw (other, less) (unspent_again true b most)
