-- Parts that have what the conditions on each dimension pass make a span that has what all conditions hold for.
use Rattle.std.proofs.Common.{◌≡◌, ℕ, zero, suc, ◌+◌, ◌-◌, ◌<◌, ◌≤◌, Bool, true, false, List, [], ◌∷◌, ◌++◌, length, get_or, take, drop, Option, None, refl, sym, ap, subst, ◌∙◌, inl, inr, append_assoc, append-nil, arith}
use Rattle.std.specs.Prelude.{All, fold, pos, not, ◌||◌, ◌&&◌, ◌==◌, nat_lt, slice_get}
use Rattle.std.specs.List.{list_all}
use Rattle.std.specs.Option.{option_map_or}
use Rattle.std.proofs.lemmas.Bool.{cases_order, eq-eqb, ne_eqb, lt-ltb, le-ltb}
use Rattle.std.proofs.lemmas.List.{take_all}
use Rattle.std.proofs.lemmas.List.Elements.{All-nil, All-cons, All-head, All-tail, All-weaker}
use Rattle.cube_values.specs.Regions.{holds_of, passes}
use Rattle.cube_values.specs.Spans.{part_has, parts_have}
use Rattle.cube_values.specs.declared.operation.Condition.{Condition}
use Rattle.cube_values.specs.declared.operation.ValueTest.{ValueTest}
use Rattle.cube_values.specs.declared.shape.Size.{Size}
use Rattle.cube_values.specs.declared.span.Part.{Part}
use Rattle.cube_values.specs.declared.span.Span.{Span}
use Rattle.cube_values.specs.declared.value.Value.TheVariants.{Int}
use Rattle.brick_address.specs.Addresses.{AreCoords}
use Rattle.condition_spans.specs.CodedConditions.{coded_condition, coded_conditions, codes_behind, values_of_test}
use Rattle.condition_spans.specs.Spans.{ArePartsOf, IsPartOf, IsSpanOf, coord_values, passes_here, passes_at}

-- A test passes the coordinate, where there is one.
abbrev tells : (ℕ → Bool) → Option ℕ → Bool
tells test coord = option_map_or test coord false

-- A test on the coordinate at a place passes it, where the coordinates from k on are these; before k nothing is asked.
abbrev tells_from : ℕ → ℕ → (ℕ → Bool) → List ℕ → Bool
tells_from k place test coords = nat_lt place k || tells test (slice_get coords (place - k))

abbrev tests_here : ℕ → ℕ → (ℕ → Bool) → ℕ → Bool
tests_here k place test x = not (place == k) || test x

and_true : (b : Bool) → (b && true) ≡ b
and_true true = refl
and_true false = refl

tells_at : (k x : ℕ) (test : ℕ → Bool) (coords : List ℕ)
    → tells_from k k test (x ∷ coords) ≡ (tests_here k k test x && tells_from (k + 1) k test coords)
tells_at k x test coords =
    let before : nat_lt k k ≡ false = le-ltb k k (omega arith) in
    let none : k - k ≡ 0 = omega arith in
    let here : (k == k) ≡ true = eq-eqb k k refl in
    let after : nat_lt k (k + 1) ≡ true = lt-ltb k (k + 1) (omega arith) in
    (λ i. before i || tells test (slice_get (x ∷ coords) (none i)))
    ∙ sym (and_true (test x))
    ∙ (λ i. (not (sym here i) || test x) && (sym after i || tells test (slice_get coords (k - (k + 1)))))

tells_step : (k place x : ℕ) (test : ℕ → Bool) (coords : List ℕ)
    → tells_from k place test (x ∷ coords) ≡ (tests_here k place test x && tells_from (k + 1) place test coords)
tells_step k place x test coords = elim (cases_order place k) [
  | inl same ↦ subst (λ (p : ℕ). tells_from k p test (x ∷ coords)
      ≡ (tests_here k p test x && tells_from (k + 1) p test coords)) (sym same) (tells_at k x test coords)
  | inr apart ↦ elim apart [
    | inl below ↦
        let before : nat_lt place k ≡ true = lt-ltb place k below in
        let here : (place == k) ≡ false = ne_eqb place k (λ e. absurd (omega arith)) in
        let after : nat_lt place (k + 1) ≡ true = lt-ltb place (k + 1) (omega arith) in
        (λ i. before i || tells test (slice_get (x ∷ coords) (place - k)))
        ∙ (λ i. (not (sym here i) || test x) && (sym after i || tells test (slice_get coords (place - (k + 1)))))
    | inr above ↦
        let before : nat_lt place k ≡ false = le-ltb place k (omega arith) in
        let here : (place == k) ≡ false = ne_eqb place k (λ e. absurd (omega arith)) in
        let after : nat_lt place (k + 1) ≡ false = le-ltb place (k + 1) (omega arith) in
        let less : place - k ≡ suc (place - (k + 1)) = omega arith in
        (λ i. before i || tells test (slice_get (x ∷ coords) (less i)))
        ∙ (λ i. (not (sym here i) || test x) && (sym after i || tells test (slice_get coords (place - (k + 1)))))
  ]
]

-- What a condition asks of coordinates from k on.
abbrev asks_from : ℕ → List ℕ → Condition → Bool
asks_from k coords c = tells_from k c.place (λ x. passes c.test (Int (pos x))) coords

four : (a b c d : Bool) → ((a && b) && (c && d)) ≡ ((a && c) && (b && d))
four false b c d = refl
four true true c d = refl
four true false true d = refl
four true false false d = refl

all_and : (p q : Condition → Bool) (conditions : List Condition)
    → list_all (λ c. p c && q c) conditions ≡ (list_all p conditions && list_all q conditions)
all_and p q [] = refl
all_and p q (c ∷ conditions) =
    ap (λ (b : Bool). (p c && q c) && b) (all_and p q conditions)
    ∙ four (p c) (q c) (list_all p conditions) (list_all q conditions)

all_step : (k x : ℕ) (coords : List ℕ) (conditions : List Condition)
    → list_all (asks_from k (x ∷ coords)) conditions
    ≡ (passes_at k conditions x && list_all (asks_from (k + 1) coords) conditions)
all_step k x coords conditions =
    (λ i. list_all (λ c. tells_step k c.place x (λ y. passes c.test (Int (pos y))) coords i) conditions)
    ∙ all_and (λ c. passes_here k c x) (asks_from (k + 1) coords) conditions

asks_nothing : (k : ℕ) (conditions : List Condition) → All (λ c. c.place < k) conditions
    → list_all (asks_from k []) conditions ≡ true
asks_nothing k [] below = refl
asks_nothing k (c ∷ conditions) below =
    let P = λ (d : Condition). d.place < k in
    let lt : c.place < k = All-head P c conditions below in
    let yes : nat_lt c.place k ≡ true = lt-ltb c.place k lt in
    let others = asks_nothing k conditions (All-tail P c conditions below) in
    λ i. (yes i || tells (λ x. passes c.test (Int (pos x))) None) && others i

have_from : (conditions : List Condition) (k : ℕ) (sizes : List Size) (parts : List Part) (coords : List ℕ)
    → ArePartsOf conditions k sizes parts → AreCoords sizes coords → All (λ c. c.place < k + length sizes) conditions
    → parts_have parts coords ≡ list_all (asks_from k coords) conditions
have_from conditions k [] [] [] are of below =
    sym (asks_nothing k conditions
    (All-weaker (λ (c : Condition). c.place < k + 0) (λ (c : Condition). c.place < k)
    (λ (c : Condition) (h : c.place < k + 0). omega arith) conditions below))
have_from conditions k [] [] (x ∷ coords) are of below = absurd of
have_from conditions k [] (part ∷ parts) coords are of below = absurd are
have_from conditions k (s ∷ sizes) [] coords are of below = absurd are
have_from conditions k (s ∷ sizes) (part ∷ parts) [] are of below = absurd of
have_from conditions k (s ∷ sizes) (part ∷ parts) (x ∷ coords) are of below =
    let behind = All-weaker (λ (c : Condition). c.place < k + length (s ∷ sizes))
    (λ (c : Condition). c.place < (k + 1) + length sizes)
    (λ (c : Condition) (h : c.place < k + length (s ∷ sizes)). omega arith) conditions below in
    (λ i. are.0 x of.0 i && have_from conditions (k + 1) sizes parts coords are.1 of.1 behind i)
    ∙ sym (all_step k x coords conditions)

-- What a condition asks of all coordinates is that it holds of them.
asks_all : (place : ℕ) (test : ValueTest) (coords : List ℕ)
    → tells (λ x. passes test (Int (pos x))) (slice_get coords place)
    ≡ option_map_or (passes test) (slice_get (coord_values coords) place) false
asks_all place test [] = refl
asks_all zero test (x ∷ coords) = refl
asks_all (suc place) test (x ∷ coords) = asks_all place test coords

asks_holds : (coords : List ℕ) (c : Condition) → asks_from 0 coords c ≡ holds_of (coord_values coords) c
asks_holds coords c =
    let none : nat_lt c.place 0 ≡ false = le-ltb c.place 0 (omega arith) in
    let same : c.place - 0 ≡ c.place = omega arith in
    (λ i. none i || tells (λ x. passes c.test (Int (pos x))) (slice_get coords (same i)))
    ∙ asks_all c.place c.test coords

pub span_from_parts : (sizes : List Size) (conditions : List Condition) (span : Span)
    → ArePartsOf conditions 0 sizes span.parts → All (λ c. c.place < length sizes) conditions
    → IsSpanOf sizes conditions span
span_from_parts sizes conditions span are below coords of =
    have_from conditions 0 sizes span.parts coords are of
    (All-weaker (λ (c : Condition). c.place < length sizes) (λ (c : Condition). c.place < 0 + length sizes)
    (λ (c : Condition) (h : c.place < length sizes). omega arith) conditions below)
    ∙ (λ i. list_all (λ c. asks_holds coords c i) conditions)

pub as_many_parts : (conditions : List Condition) (k : ℕ) (sizes : List Size) (parts : List Part)
    → ArePartsOf conditions k sizes parts → length parts ≡ length sizes
as_many_parts conditions k [] [] are = refl
as_many_parts conditions k [] (part ∷ parts) are = absurd are
as_many_parts conditions k (s ∷ sizes) [] are = absurd are
as_many_parts conditions k (s ∷ sizes) (part ∷ parts) are =
    ap suc (as_many_parts conditions (k + 1) sizes parts are.1)

-- One step of a loop that makes a part for each dimension.
pub parts_more : (conditions : List Condition) (place : ℕ) (all left : List Size) (before after : List Part) (part : Part)
    (d : Size) → 1 ≤ length left → IsPartOf (get_or left 0 d).cardinality (passes_at place conditions) part
    → after ≡ before ++ part ∷ []
    → ((tail : List Part) → ArePartsOf conditions place left tail → ArePartsOf conditions 0 all (before ++ tail))
    → (tail : List Part) → ArePartsOf conditions (place + 1) (take (length left - 1) (drop 1 left)) tail
    → ArePartsOf conditions 0 all (after ++ tail)
parts_more conditions place all [] before after part d some is after_is so_far tail are = absurd (omega arith)
parts_more conditions place all (s ∷ left) before after part d some is after_is so_far tail are =
    let rest : take (length (s ∷ left) - 1) left ≡ left = take_all (length (s ∷ left) - 1) left (omega arith) in
    let behind = subst (λ (sizes : List Size). ArePartsOf conditions (place + 1) sizes tail) rest are in
    subst (λ (parts : List Part). ArePartsOf conditions 0 all parts)
    (sym (ap (λ (parts : List Part). parts ++ tail) after_is ∙ append_assoc before (part ∷ []) tail))
    (so_far (part ∷ tail) (is, behind))

pub parts_all : (conditions : List Condition) (place : ℕ) (all left : List Size) (before : List Part) → length left < 1
    → ((tail : List Part) → ArePartsOf conditions place left tail → ArePartsOf conditions 0 all (before ++ tail))
    → ArePartsOf conditions 0 all before
parts_all conditions place all [] before none so_far =
    subst (λ (parts : List Part). ArePartsOf conditions 0 all parts) (append-nil before) (so_far [] tt)
parts_all conditions place all (s ∷ left) before none so_far = absurd (omega arith)

pub one_fewer : (left : List Size) → 1 ≤ length left → length (take (length left - 1) (drop 1 left)) + 1 ≡ length left
one_fewer [] some = absurd (omega arith)
one_fewer (s ∷ left) some =
    let rest : take (length (s ∷ left) - 1) left ≡ left = take_all (length (s ∷ left) - 1) left (omega arith) in
    let same : length (take (length (s ∷ left) - 1) left) ≡ length left = ap length rest in
    omega arith

-- Conditions on coordinates have the places of the conditions.
pub coded_within : (n : ℕ) (codes : List (Option ℕ)) (conditions : List Condition) → All (λ c. c.place < n) conditions
    → All (λ c. c.place < n) (coded_conditions codes conditions)
coded_within n codes [] within = All-nil (λ (c : Condition). c.place < n)
coded_within n codes (c ∷ conditions) within =
    let P = λ (d : Condition). d.place < n in
    let behind = fold codes_behind codes (values_of_test c.test) in
    All-cons P (coded_condition codes c) (coded_conditions behind conditions)
    (All-head P c conditions within) (coded_within n behind conditions (All-tail P c conditions within))
