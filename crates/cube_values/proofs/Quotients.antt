-- A number of ten-thousandths, divided: the whole part first, then the remainder.
use Rattle.std.proofs.Common.{◌≡◌, ℕ, ◌+◌, ◌*◌, ◌/◌, ◌%◌, ◌<◌, ◌==◌, ◌&&◌, not, ℤ, sym, ap, ◌∙◌, arith}
use Rattle.std.proofs.Math.Nat.{add-mul, mul_assoc, mul_comm}
use Rattle.std.proofs.lemmas.Nat.{div-add-mod', div-mul-add, mod-mul-add, div_below, mod_below}
use Rattle.std.proofs.lemmas.Bool.Decides.{nat_tests}
use Rattle.std.specs.Prelude.{unsigned_abs}
use Rattle.std.specs.Int.{is_negative}
use Rattle.cube_values.specs.declared.table.Field.TheVariants.{Decimal}
use Rattle.cube_values.specs.Answer.{average}

-- q times c and m are s, and t times c and u are m times k: so (q k + t) times c and u are s times k
spread : (q t c u m s k : ℕ) → q * c + m ≡ s → t * c + u ≡ m * k → (q * k + t) * c + u ≡ s * k
spread q t c u m s k a b =
    let turned : q * k * c ≡ q * c * k = mul_assoc q k c ∙ ap (λ n. q * n) (mul_comm k c) ∙ sym (mul_assoc q c k) in
    let left : (q * k + t) * c ≡ q * k * c + t * c = add-mul (q * k) t c in
    let right : s * k ≡ q * c * k + m * k = ap (λ n. n * k) (sym a) ∙ add-mul (q * c) m k in
    omega arith

-- what is cut off is a whole part and a rest
pub cut_is : (s c k : ℕ) → 0 < c → s * k / c ≡ s / c * k + s % c * k / c
cut_is s c k h =
    let e = spread (s / c) (s % c * k / c) c (s % c * k % c) (s % c) s k (div-add-mod' s c) (div-add-mod' (s % c * k) c) in
    ap (λ n. n / c) (sym e) ∙ div-mul-add (s / c * k + s % c * k / c) c (s % c * k % c) (mod_below (s % c * k) c h)

both_zero : (whole four cut : ℕ) → cut ≡ whole * 10000 + four → (whole == 0 && four == 0) ≡ (cut == 0)
both_zero whole four cut e = grind (arith, nat_tests)

-- so an average is known by its whole part and its ten-thousandths
pub average_is : (sum : ℤ) (count : ℕ) → 0 < count
    → Decimal (is_negative sum && not (unsigned_abs sum / count == 0 && unsigned_abs sum % count * 10000 / count == 0)) (unsigned_abs sum / count) (unsigned_abs sum % count * 10000 / count) ≡ average sum count
average_is sum count h =
    let s = unsigned_abs sum in
    let whole = s / count in
    let four = s % count * 10000 / count in
    let cut = s * 10000 / count in
    let e : cut ≡ whole * 10000 + four = cut_is s count 10000 h in
    let rest : s % count < count = mod_below s count h in
    let below : four < 10000 = div_below (s % count * 10000) count 10000 h (omega arith) in
    let high : cut / 10000 ≡ whole = ap (λ n. n / 10000) e ∙ div-mul-add whole 10000 four below in
    let low : cut % 10000 ≡ four = ap (λ n. n % 10000) e ∙ mod-mul-add whole 10000 four below in
    let zero_too : (whole == 0 && four == 0) ≡ (cut == 0) = both_zero whole four cut e in
    λ i. Decimal (is_negative sum && not (zero_too i)) (sym high i) (sym low i)
