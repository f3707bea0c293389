-- Different numbers below a bound are no more than the bound.
use Rattle.std.proofs.Common.{◌≡◌, ℕ, cond, eqb, eq-eqb, ne_eqb, zero, suc, ◌<◌, ◌≤◌, ◌≢◌, sym, ap, ◌∙◌, subst, arith}
use mathlib.Core.Logic.{dite}
use native.Mathlib.Decide.{ℕ_discrete}

-- numbers of which some may be the bound c, where the number m is given for that
abbrev moved : ℕ → ℕ → ℕ → ℕ
moved c m n = cond (eqb n c) m n

moved_hit : (c m n : ℕ) → n ≡ c → moved c m n ≡ m
moved_hit c m n e = ap (λ b. cond b m n) (eq-eqb n c e)

moved_miss : (c m n : ℕ) → n ≢ c → moved c m n ≡ n
moved_miss c m n e = ap (λ b. cond b m n) (ne_eqb n c e)

moved_below : (c m n : ℕ) → n < suc c → m < suc c → n ≢ m → moved c m n < c
moved_below c m n below last apart = dite (ℕ_discrete n c)
    (λ e. subst (λ t. t < c) (sym (moved_hit c m n e)) (omega (arith, λ (is : m ≡ c). apart (e ∙ sym is))))
    (λ ne. subst (λ t. t < c) (sym (moved_miss c m n ne)) (omega (arith, ne)))

moved_same : (c m a b : ℕ) → a ≢ m → b ≢ m → moved c m a ≡ moved c m b → a ≡ b
moved_same c m a b na nb e = dite (ℕ_discrete a c)
    (λ ea. dite (ℕ_discrete b c) (λ eb. ea ∙ sym eb)
    (λ neb. absurd (nb (sym (sym (moved_hit c m a ea) ∙ (e ∙ moved_miss c m b neb))))))
    (λ nea. dite (ℕ_discrete b c) (λ eb. absurd (na (sym (moved_miss c m a nea) ∙ (e ∙ moved_hit c m b eb))))
    (λ neb. sym (moved_miss c m a nea) ∙ (e ∙ moved_miss c m b neb)))

pub pigeons : (c n : ℕ) (f : (i : ℕ) → i < n → ℕ) → ((i : ℕ) (l : i < n) → f i l < c)
    → ((i j : ℕ) (l : i < n) (m : j < n) → f i l ≡ f j m → i ≡ j) → n ≤ c
pigeons zero zero f below apart = omega arith
pigeons zero (suc n) f below apart = let b = below 0 (omega arith) in absurd (omega arith)
pigeons (suc c) zero f below apart = omega arith
pigeons (suc c) (suc n) f below apart =
    let up : (i : ℕ) → i < n → i < suc n = λ i l. omega arith in
    let last : n < suc n = omega arith in
    let m : ℕ = f n last in
    let differs : (i : ℕ) (l : i < n) → f i (up i l) ≢ m = λ i l e. let is = apart i n (up i l) last e in omega arith in
    let r = pigeons c n (λ i l. moved c m (f i (up i l)))
    (λ i l. moved_below c m (f i (up i l)) (below i (up i l)) (below n last) (differs i l))
    (λ i j l k e. apart i j (up i l) (up j k)
    (moved_same c m (f i (up i l)) (f j (up j k)) (differs i l) (differs j k) e)) in
    omega arith
