-- A quotient to four decimals, without the product of the whole number.
use Rattle.std.proofs.Common.{◌≡◌, ℕ, ◌+◌, ◌*◌, ◌/◌, ◌%◌, ◌<◌, ◌∙◌, arith}
use Rattle.std.proofs.lemmas.Nat.{div-mul-add, div_below, div-add-mod'}

decimals : (a c : ℕ) → 0 < c → a * 10000 / c ≡ a / c * 10000 + a % c * 10000 / c
decimals a c h =
    let q = a / c in
    let r = a % c in
    let f = r * 10000 / c in
    let g = r * 10000 % c in
    let below : g < c = omega arith in
    let one : q * c + r ≡ a = div-add-mod' a c in
    let two : f * c + g ≡ r * 10000 = div-add-mod' (r * 10000) c in
    let all : a * 10000 ≡ (q * 10000 + f) * c + g = grind arith in
    (λ i. all i / c) ∙ div-mul-add (q * 10000 + f) c g below

four_below : (a c : ℕ) → 0 < c → a % c * 10000 / c < 10000
four_below a c h = let r : a % c < c = omega arith in div_below (a % c * 10000) c 10000 h (omega arith)

pub whole_is : (a c : ℕ) → 0 < c → a * 10000 / c / 10000 ≡ a / c
whole_is a c h = (λ i. decimals a c h i / 10000) ∙ div-mul-add (a / c) 10000 (a % c * 10000 / c) (four_below a c h)

pub four_is : (a c : ℕ) → 0 < c → a * 10000 / c % 10000 ≡ a % c * 10000 / c
four_is a c h =
    let e : a * 10000 / c ≡ a / c * 10000 + a % c * 10000 / c = decimals a c h in
    let w = whole_is a c h in
    let s = div-add-mod' (a * 10000 / c) 10000 in
    omega arith
