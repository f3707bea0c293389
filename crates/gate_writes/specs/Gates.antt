-- Files up to a gate, and files behind their first gate.
-- Source: this project's own.
use Rattle.std.specs.Prelude.{◌≡◌, ◌≢◌, ◌⊎◌, ◌≤◌, ℕ, Bool, false, not, ◌==◌, List, [], ◌∷◌, ◌++◌, length, drop}
use Rattle.cube_rounds.specs.Headers.{open_gate, shut_gate}
use Rattle.cube_rounds.specs.Stands.{IsClosed}

-- Behind this front stands a gate that is shut, and then anything.
pub record EndsShut (front file : List ℕ) : Type 0 where
  pub gate : ℕ
  pub rest : List ℕ
  pub shut : gate ≢ open_gate
  pub whole : file ≡ front ++ gate ∷ rest

-- Behind this front stands an open gate with these bytes, and then anything.
pub record EndsOpen (front bytes file : List ℕ) : Type 0 where
  pub rest : List ℕ
  pub whole : file ≡ front ++ open_gate ∷ (bytes ++ rest)

-- While bytes are put behind a gate, it is shut, or it is open with these bytes behind it.
abbrev pub Appending : List ℕ → List ℕ → List ℕ → Type 0
Appending front bytes file = EndsShut front file ⊎ EndsOpen front bytes file

-- A file that is not empty, and whose first byte is not that of an open gate.
abbrev pub has_shut_gate : List ℕ → Bool
has_shut_gate [] = false
has_shut_gate (gate ∷ rest) = not (gate == open_gate)

-- While a file behind a gate that is shut is filled with these bytes, it is closed, or has just them behind an open
-- gate.
abbrev pub Filling : List ℕ → List ℕ → Type 0
Filling bytes file = IsClosed file ⊎ (file ≡ open_gate ∷ bytes)

-- An old file with any byte at its front, or with none where it had none.
pub record HasAnyFront (old file : List ℕ) : Type 0 where
  pub long : length old ≤ length file
  pub rest : drop 1 file ≡ drop 1 old

-- A file with a shut gate for its first byte.
abbrev pub with_shut_front : List ℕ → List ℕ
with_shut_front file = shut_gate ∷ drop 1 file

-- While a file is replaced by these bytes behind an open gate, it is as it was, or closed, or it is that.
abbrev pub Replacing : List ℕ → List ℕ → List ℕ → Type 0
Replacing old bytes file = (file ≡ old) ⊎ Filling bytes file
