-- Where among names the first stands that stands before already.
use Rattle.std.specs.Prelude.{◌≡◌, ℕ, ◌<◌, List, [], length, map, take, slice_index_or, IsTrue, Option, Some, None}
use Rattle.std.specs.Borrow.{Bor}
use Rattle.std.specs.List.{list_any}
use Rattle.std.specs.Str.{bytes_eq}
use Rattle.cube_language.specs.Cubes.{first_repeated}

-- The names that are lent.
abbrev pub names_lent : List (Bor (List ℕ)) → List (List ℕ)
names_lent names = map (λ name. name.now) names

-- The name at this place stands before it already, and none of those before it does so.
pub record RepeatsAt (names : List (List ℕ)) (place : ℕ) : Type 0 where
  pub within : place < length names
  pub apart : first_repeated (take place names) ≡ None
  pub again : IsTrue (list_any (bytes_eq (slice_index_or names place [])) (take place names))

-- The place of the first name that stands before already, or None where each stands once.
abbrev pub IsFirstRepeat : List (List ℕ) → Option ℕ → Type 0
IsFirstRepeat names None = first_repeated names ≡ None
IsFirstRepeat names (Some place) = RepeatsAt names place
