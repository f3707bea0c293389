-- Where the tokens of a text stand in it.
use Rattle.std.specs.Prelude.{ℕ, ◌<◌, ◌≤◌, List, [], ◌∷◌, length, drop, All}
use Rattle.cube_language.specs.declared.token.Token.{Token}
use Rattle.cube_language.specs.Tokens.{IsToken, token_bytes}

-- A token stands in a text: it has its kind, and what follows does not prolong it.
pub record StandsIn (text : List ℕ) (t : Token) : Type 0 where
  pub some : t.start < t.end
  pub within : t.end ≤ length text
  pub token : IsToken (token_bytes text t) (drop t.end text) t.kind

-- Each token begins behind the one before, the first at this place or behind it.
abbrev pub RiseFrom : ℕ → List Token → Type 0
RiseFrom at [] = Unit {0}
RiseFrom at (t ∷ tokens) = (at ≤ t.start) × RiseFrom t.end tokens

-- The tokens stand in the text, one behind the other.
pub record StandInOrder (text : List ℕ) (tokens : List Token) : Type 0 where
  pub stand : All (StandsIn text) tokens
  pub rise : RiseFrom 0 tokens
