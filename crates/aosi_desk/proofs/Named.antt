-- Which cube has a name.
use Rattle.std.proofs.Common.{◌≡◌, ℕ, zero, suc, ◌<◌, Bool, true, false, ◌||◌, List, [], ◌∷◌, length, Option, None, Some, is_some, refl, sym, ap, ◌∙◌}
use Rattle.std.specs.List.{list_any, slice_get}
use Rattle.std.specs.Option.{IsSomeAnd}
use Rattle.std.specs.Str.{bytes_eq}
use Rattle.std.proofs.lemmas.Slice.Eq.{bytes_eq-Decides}
use Rattle.std.proofs.lemmas.Option.{slice_get_within}
use Rattle.cube_language.specs.declared.decl.Decl.{Decl}
use Rattle.cube_journal.specs.Legal.{has_cube}
use Rattle.aosi_desk.specs.declared.cube.CubeAnswer.TheVariants.{Exists}
use Rattle.aosi_desk.specs.Desks.{DeskState, decl_names, IsCubePlace, cube_answer}

pub same_name : (a b : List ℕ) → a ≡ b → bytes_eq a b ≡ true
same_name a b same = (bytes_eq-Decides a b).1 same

-- A cube of these has the name.
abbrev pub has_named : List Decl → List ℕ → Bool
has_named cubes name = list_any (λ d. bytes_eq d.name name) cubes

pub has_named-is : (cubes : List Decl) (name : List ℕ) → has_cube (decl_names cubes) name ≡ has_named cubes name
has_named-is [] name = refl
has_named-is (d ∷ cubes) name = ap (λ b. bytes_eq d.name name || b) (has_named-is cubes name)

pub has_named-at : (cubes : List Decl) (place : ℕ) (name : List ℕ)
    → IsSomeAnd (slice_get cubes place) (λ d. d.name ≡ name) → has_cube (decl_names cubes) name ≡ true
has_named-at [] place name at = absurd at
has_named-at (d ∷ cubes) zero name at =
    ap (λ b. b || has_cube (decl_names cubes) name) (same_name d.name name at)
has_named-at (d ∷ cubes) (suc place) name at =
    ap (λ b. bytes_eq d.name name || b) (has_named-at cubes place name at) ∙ or_true (bytes_eq d.name name)
  where
    or_true : (b : Bool) → (b || true) ≡ true
    or_true true = refl
    or_true false = refl

pub has_place : (cubes : List Decl) (name : List ℕ) (place : Option ℕ) → IsCubePlace cubes name place
    → has_cube (decl_names cubes) name ≡ is_some place
has_place cubes name None none = none
has_place cubes name (Some place) at = has_named-at cubes place name at

-- The cube at the place of a name.
pub record CubeAt (cubes : List Decl) (name : List ℕ) (place : ℕ) : Type 0 where
  pub decl : Decl
  pub at : slice_get cubes place ≡ Some decl
  pub named : decl.name ≡ name
  pub within : place < length cubes

pub cube_at : (cubes : List Decl) (name : List ℕ) (place : ℕ) → IsCubePlace cubes name (Some place)
    → CubeAt cubes name place
cube_at cubes name place at = go (slice_get cubes place) refl at
  where
    go : (x : Option Decl) → slice_get cubes place ≡ x → IsSomeAnd x (λ d. d.name ≡ name) → CubeAt cubes name place
    go None is at = absurd at
    go (Some d) is at = record { decl = d; at = is; named = at; within = slice_get_within cubes place d is }

pub answer_exists : (desk : DeskState) (name : List ℕ) → has_cube (decl_names desk.cubes) name ≡ true
    → Exists ≡ cube_answer desk name
answer_exists desk name has = rw has refl

-- Where the lists and names that were lent are these.
pub has_found : (lent cubes : List Decl) (bytes name : List ℕ) (place : Option ℕ) (found : Bool) → lent ≡ cubes
    → bytes ≡ name → IsCubePlace lent bytes place → found ≡ is_some place → has_cube (decl_names cubes) name ≡ found
has_found lent cubes bytes name place found lent_is bytes_is at found_is =
    (λ i. has_cube (decl_names (sym lent_is i)) (sym bytes_is i)) ∙ has_place lent bytes place at ∙ sym found_is

pub none_found : (lent cubes : List Decl) (bytes name : List ℕ) → lent ≡ cubes → bytes ≡ name
    → has_cube (decl_names lent) bytes ≡ false → has_cube (decl_names cubes) name ≡ false
none_found lent cubes bytes name lent_is bytes_is none =
    (λ i. has_cube (decl_names (sym lent_is i)) (sym bytes_is i)) ∙ none
