-- Where the groups of a partial stand: each key of a list at its place.
use Rattle.std.specs.Prelude.{◌≡◌, ℕ, Bool, false, List, [], Option, Some, MatchOption, slice_get, get_or}
use Rattle.std.specs.List.{list_any}
use Rattle.std.specs.Str.{bytes_eq}

-- A key is among keys.
abbrev pub is_among : List (List ℕ) → List ℕ → Bool
is_among keys key = list_any (bytes_eq key) keys

-- The place of a key, None where it is not among the keys.
abbrev pub IsPlaceOf : List (List ℕ) → List ℕ → Option ℕ → Type 0
IsPlaceOf keys key place = MatchOption place (is_among keys key ≡ false) (λ p. slice_get keys p ≡ Some key)

-- A key stands at a place.
abbrev pub IsKeyAt : List (List ℕ) → ℕ → List ℕ → Type 0
IsKeyAt keys place key = slice_get keys place ≡ Some key

-- What stands at a place stands there still.
abbrev pub PlacesStay : List (List ℕ) → List (List ℕ) → Type 0
PlacesStay old new = (p : ℕ) (key : List ℕ) → IsKeyAt old p key → IsKeyAt new p key

-- The key at a place.
abbrev pub group_key : List (List ℕ) → ℕ → List ℕ
group_key keys place = get_or keys place []
