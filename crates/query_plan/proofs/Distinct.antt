-- The dimensions of a cube that can be stored have distinct names, so the place of each is that of its name.
use Rattle.std.proofs.Common.{◌≡◌, ℕ, zero, suc, ◌+◌, ◌-◌, ◌<◌, Bool, true, false, List, [], ◌∷◌, ◌++◌, length, get_or, Some, None, refl, sym, ap, ◌∙◌, inl, inr, arith}
use Rattle.std.specs.List.{list_any}
use Rattle.std.specs.Str.{bytes_eq}
use Rattle.std.proofs.lemmas.Bool.{cases_Bool, or_parts, false_from_ne_true, true≢false}
use Rattle.std.proofs.lemmas.Slice.Eq.{bytes_eq-Decides}
use Rattle.cube_language.specs.Cubes.{repeated_after, dim_names, IsStorable}
use Rattle.cube_language.specs.ColumnUses.{dim_named}
use Rattle.cube_language.specs.ResolvedNames.{dim_place}
use Rattle.cube_language.specs.declared.decl.Decl.{Decl}
use Rattle.cube_language.specs.declared.decl.DimDecl.{DimDecl}
use Rattle.cube_schema.proofs.Sound.{parts_of}
use Rattle.query_plan.proofs.FirstPlaces.{found, finds}

pub names_same : (a b : List ℕ) → bytes_eq a b ≡ true → a ≡ b
names_same a b = (bytes_eq-Decides a b).0

pub name_is : (a : List ℕ) → bytes_eq a a ≡ true
name_is a = (bytes_eq-Decides a a).1 refl

pub turned : (a b : List ℕ) → bytes_eq a b ≡ false → bytes_eq b a ≡ false
turned a b apart =
    false_from_ne_true (bytes_eq b a)
    (λ t. true≢false (sym ((bytes_eq-Decides a b).1 (sym (names_same b a t))) ∙ apart))

apart_front : (before names more : List (List ℕ)) → repeated_after before (names ++ more) ≡ None
    → repeated_after before names ≡ None
apart_front before [] more apart = refl
apart_front before (name ∷ names) more apart = elim (cases_Bool (list_any (bytes_eq name) before)) [
  | inl there ↦ let some = rw there at apart in absurd cc
  | inr new ↦ rw new (apart_front (name ∷ before) names more (rw new at apart))
]

-- A name is among none of these, nor that of an earlier dimension.
record IsApart (before : List (List ℕ)) (dims : List DimDecl) (k : ℕ) (e : DimDecl) : Type 0 where
  pub outside : list_any (bytes_eq (get_or dims k e).name) before ≡ false
  pub earlier : (j : ℕ) → j < k → bytes_eq (get_or dims k e).name (get_or dims j e).name ≡ false

behind_first : (dim : DimDecl) (dims : List DimDecl) (k : ℕ) (e : DimDecl)
    → bytes_eq (get_or dims k e).name dim.name ≡ false
    → ((j : ℕ) → j < k → bytes_eq (get_or dims k e).name (get_or dims j e).name ≡ false)
    → (j : ℕ) → j < suc k → bytes_eq (get_or dims k e).name (get_or (dim ∷ dims) j e).name ≡ false
behind_first dim dims k e first rest zero lt = first
behind_first dim dims k e first rest (suc j) lt = rest j (omega arith)

apart_at : (before : List (List ℕ)) (dims : List DimDecl) (k : ℕ) (e : DimDecl)
    → repeated_after before (dim_names dims) ≡ None → k < length dims → IsApart before dims k e
apart_at before [] k e apart lt = absurd (omega arith)
apart_at before (dim ∷ dims) zero e apart lt = elim (cases_Bool (list_any (bytes_eq dim.name) before)) [
  | inl there ↦ let some = rw there at apart in absurd cc
  | inr new ↦ record { outside = new; earlier = λ j none. absurd (omega arith) }
]
apart_at before (dim ∷ dims) (suc k) e apart lt = elim (cases_Bool (list_any (bytes_eq dim.name) before)) [
  | inl there ↦ let some = rw there at apart in absurd cc
  | inr new ↦
      let rest = apart_at (dim.name ∷ before) dims k e (rw new at apart) (omega arith) in
      let parts = or_parts (bytes_eq (get_or dims k e).name dim.name)
      (list_any (bytes_eq (get_or dims k e).name) before) rest.outside in
      record { outside = parts.1; earlier = behind_first dim dims k e parts.0 rest.earlier }
]

-- A dimension at a place is the one of its name.
pub record IsAt (d : Decl) (k : ℕ) (dim : DimDecl) : Type 0 where
  pub place : dim_place d dim.name ≡ Some k
  pub named : dim_named d dim.name ≡ Some dim
  pub alone : (name : List ℕ) → dim_place d name ≡ Some k → name ≡ dim.name

pub dim_at : (d : Decl) (k : ℕ) (e : DimDecl) → IsStorable d → k < length d.dims → IsAt d k (get_or d.dims k e)
dim_at d k e storable lt =
    let dim = get_or d.dims k e in
    let apart = apart_at [] d.dims k e
    (apart_front [] (dim_names d.dims) d.metrics (parts_of d storable).distinct) lt in
    let t : DimDecl → Bool = λ other. bytes_eq other.name dim.name in
    let there = finds t 0 d.dims k e lt (name_is dim.name)
    (λ j before. turned dim.name (get_or d.dims j e).name (apart.earlier j before)) in
    let sum : 0 + k ≡ k = omega arith in
    record {
      place = there.0 ∙ ap Some sum;
      named = there.1;
      alone = λ name is.
          let passes = (found (λ (other : DimDecl). bytes_eq other.name name) 0 d.dims k is).passes e in
          let none : k ≡ k - 0 = omega arith in
          sym (names_same dim.name name ((λ j. bytes_eq (get_or d.dims (none j) e).name name) ∙ passes));
    }
