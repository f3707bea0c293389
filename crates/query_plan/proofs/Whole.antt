-- Parts that agree within each range cut no brick.
use Rattle.std.proofs.Common.{◌≡◌, ℕ, suc, ◌+◌, ◌/◌, ◌%◌, ◌<◌, List, [], ◌∷◌, length, get_or, refl, sym, ap, subst, ◌∙◌, arith}
use Rattle.std.specs.Prelude.{All, ◌&&◌}
use Rattle.std.proofs.lemmas.List.Elements.{All-tail}
use Rattle.cube_values.specs.Shapes.{bricks_of, IsSoundSize}
use Rattle.cube_values.specs.declared.operation.Condition.{Condition}
use Rattle.cube_values.specs.declared.shape.Size.{Size}
use Rattle.cube_values.specs.declared.span.Part.{Part}
use Rattle.cube_language.specs.Cubes.{size_of, sizes_of}
use Rattle.cube_language.specs.declared.decl.DimDecl.{DimDecl}
use Rattle.brick_address.specs.Addresses.{brick_of}
use Rattle.brick_address.proofs.Bricks.{first_range, other_brick}
use Rattle.condition_spans.specs.Spans.{ArePartsOf, CutNoBrick, passes_at}

-- Conditions on a dimension pass both or neither of two coordinates of one range.
abbrev pub AgreeIn : List Condition → ℕ → Size → Type 0
AgreeIn conditions place s =
    (x y : ℕ) → x < s.cardinality → y < s.cardinality → x / s.range ≡ y / s.range
    → passes_at place conditions x ≡ passes_at place conditions y

abbrev AgreeFrom : List Condition → ℕ → List Size → Type 0
AgreeFrom conditions place [] = Unit {0}
AgreeFrom conditions place (s ∷ sizes) = AgreeIn conditions place s × AgreeFrom conditions (place + 1) sizes

agree_from : (conditions : List Condition) (place : ℕ) (dims : List DimDecl)
    → ((i : ℕ) (e : DimDecl) → i < length dims → AgreeIn conditions (place + i) (size_of (get_or dims i e)))
    → AgreeFrom conditions place (sizes_of dims)
agree_from conditions place [] each = tt
agree_from conditions place (dim ∷ dims) each =
    let first : place + 0 ≡ place = omega arith in (
      subst (λ (p : ℕ). AgreeIn conditions p (size_of dim)) first (each 0 dim (omega arith)),
      agree_from conditions (place + 1) dims (λ i e lt.
          let next : place + suc i ≡ (place + 1) + i = omega arith in
          subst (λ (p : ℕ). AgreeIn conditions p (size_of (get_or dims i e))) next (each (suc i) e (omega arith))),
    )

cuts_none : (conditions : List Condition) (place : ℕ) (sizes : List Size) (parts : List Part)
    → All IsSoundSize sizes → ArePartsOf conditions place sizes parts → AgreeFrom conditions place sizes
    → CutNoBrick sizes parts
cuts_none conditions place [] [] sound are agree [] [] of_a of_b same = refl
cuts_none conditions place [] [] sound are agree (x ∷ a) b of_a of_b same = absurd of_a
cuts_none conditions place [] [] sound are agree [] (y ∷ b) of_a of_b same = absurd of_b
cuts_none conditions place [] (part ∷ parts) sound are agree a b of_a of_b same = absurd are
cuts_none conditions place (s ∷ sizes) [] sound are agree a b of_a of_b same = absurd are
cuts_none conditions place (s ∷ sizes) (part ∷ parts) sound are agree [] b of_a of_b same = absurd of_a
cuts_none conditions place (s ∷ sizes) (part ∷ parts) sound are agree (x ∷ a) [] of_a of_b same = absurd of_b
cuts_none conditions place (s ∷ sizes) (part ∷ parts) sound are agree (x ∷ a) (y ∷ b) of_a of_b same =
    let rest = All-tail IsSoundSize s sizes sound in
    let range : x / s.range ≡ y / s.range =
    sym (first_range s sizes x a rest of_a.1) ∙ ap (λ (n : ℕ). n / bricks_of sizes) same
    ∙ first_range s sizes y b rest of_b.1 in
    let others : brick_of sizes a ≡ brick_of sizes b =
    sym (other_brick s sizes x a rest of_a.1) ∙ ap (λ (n : ℕ). n % bricks_of sizes) same
    ∙ other_brick s sizes y b rest of_b.1 in
    let here = are.0 x of_a.0 ∙ agree.0 x y of_a.0 of_b.0 range ∙ sym (are.0 y of_b.0) in
    λ i. here i && cuts_none conditions (place + 1) sizes parts rest are.1 agree.1 a b of_a.1 of_b.1 others i

pub cut_no_brick : (conditions : List Condition) (dims : List DimDecl) (parts : List Part)
    → All IsSoundSize (sizes_of dims) → ArePartsOf conditions 0 (sizes_of dims) parts
    → ((i : ℕ) (e : DimDecl) → i < length dims → AgreeIn conditions i (size_of (get_or dims i e)))
    → CutNoBrick (sizes_of dims) parts
cut_no_brick conditions dims parts sound are each =
    cuts_none conditions 0 (sizes_of dims) parts sound are
    (agree_from conditions 0 dims (λ i e lt.
    let same : i ≡ 0 + i = omega arith in
    subst (λ (p : ℕ). AgreeIn conditions p (size_of (get_or dims i e))) same (each i e lt)))
