-- A filter of numbers that rise: what it has, and that it rises.
use Rattle.std.proofs.Common.{◌≡◌, ℕ, ◌<◌, Bool, true, false, cond, List, [], ◌∷◌, refl, sym, ap, ◌∙◌}
use Rattle.std.specs.Prelude.{◌||◌, ◌&&◌, ◌==◌, filter}
use Rattle.std.specs.List.{list_any, AllByRecursion}
use Rattle.std.proofs.lemmas.Bool.{eqb-true, and_right}
use Rattle.cube_values.specs.Spans.{Rises}

with_first : (s any px : Bool) → (s ≡ true → px ≡ true) → (s || (any && px)) ≡ ((s || any) && px)
with_first true any px passes = sym (passes refl)
with_first false any px passes = refl

without_first : (s any px : Bool) → (s ≡ true → px ≡ false) → (any && px) ≡ ((s || any) && px)
without_first true any px fails = and_right any px (fails refl) ∙ sym (fails refl)
without_first false any px fails = refl

one_more : (c x : ℕ) (pc px any : Bool) (rest : List ℕ) → (c ≡ x → pc ≡ px)
    → list_any (λ d. d == x) rest ≡ (any && px)
    → list_any (λ d. d == x) (cond pc (c ∷ rest) rest) ≡ (((c == x) || any) && px)
one_more c x true px any rest agree same =
    ap (λ (b : Bool). (c == x) || b) same ∙ with_first (c == x) any px (λ s. sym (agree (eqb-true c x s)))
one_more c x false px any rest agree same =
    same ∙ without_first (c == x) any px (λ s. sym (agree (eqb-true c x s)))

pub filter_has : (p : ℕ → Bool) (coords : List ℕ) (x : ℕ)
    → list_any (λ d. d == x) (filter p coords) ≡ (list_any (λ d. d == x) coords && p x)
filter_has p [] x = refl
filter_has p (c ∷ coords) x =
    one_more c x (p c) (p x) (list_any (λ d. d == x) coords) (filter p coords) (λ e. ap p e) (filter_has p coords x)

above_one : (low c : ℕ) (t : Bool) (rest : List ℕ) → low < c → AllByRecursion (λ m. low < m) rest
    → AllByRecursion (λ m. low < m) (cond t (c ∷ rest) rest)
above_one low c true rest lt above = (lt, above)
above_one low c false rest lt above = above

above_filter : (p : ℕ → Bool) (low : ℕ) (coords : List ℕ) → AllByRecursion (λ m. low < m) coords
    → AllByRecursion (λ m. low < m) (filter p coords)
above_filter p low [] above = tt
above_filter p low (c ∷ coords) above =
    above_one low c (p c) (filter p coords) above.0 (above_filter p low coords above.1)

rises_one : (c : ℕ) (t : Bool) (rest : List ℕ) → AllByRecursion (λ m. c < m) rest → Rises rest
    → Rises (cond t (c ∷ rest) rest)
rises_one c true rest above rises = (above, rises)
rises_one c false rest above rises = rises

pub rises_filter : (p : ℕ → Bool) (coords : List ℕ) → Rises coords → Rises (filter p coords)
rises_filter p [] rises = tt
rises_filter p (c ∷ coords) rises =
    rises_one c (p c) (filter p coords) (above_filter p c coords rises.0) (rises_filter p coords rises.1)

pub and_comm : (a b : Bool) → (a && b) ≡ (b && a)
and_comm true true = refl
and_comm true false = refl
and_comm false true = refl
and_comm false false = refl
