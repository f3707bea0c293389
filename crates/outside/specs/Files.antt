-- The files of a shelf, as (name, bytes) pairs, and what a shelf that tells them answers.
use Rattle.std.specs.Prelude.{◌≡◌, ◌≢◌, ℕ, ◌-◌, ◌≤◌, ◌⊎◌, List, [], ◌∷◌, length, take, drop, min, Option, Some, None, if◌then◌else◌, nat_eq}
use Rattle.std.specs.Cmp.Lexicographic.{pointwise}
use Rattle.outside.specs.declared.answers.SizeAnswer.{SizeAnswer}
use Rattle.outside.specs.declared.answers.SizeAnswer.TheVariants.{Size, Absent, Failed as NoSize}
use Rattle.outside.specs.declared.answers.ReadAnswer.{ReadAnswer}
use Rattle.outside.specs.declared.answers.ReadAnswer.TheVariants.{Got}

-- the bytes of the first pair with this name
abbrev pub content_of : List (List ℕ × List ℕ) → List ℕ → Option (List ℕ)
content_of [] name = None
content_of ((own, bytes) ∷ files) name = if pointwise nat_eq own name then Some bytes else content_of files name

-- the answer to `size` for a file with these bytes, or for none
abbrev pub size_answer : Option (List ℕ) → SizeAnswer
size_answer None = Absent
size_answer (Some bytes) = Size (length bytes)

-- an answer to `size` that is right where the files are told, unless it is Failed
abbrev pub TellsSize : Option (List (List ℕ × List ℕ)) → List ℕ → SizeAnswer → Type 0
TellsSize told name answer =
    (files : List (List ℕ × List ℕ)) → told ≡ Some files → answer ≢ NoSize →
    answer ≡ size_answer (content_of files name)

-- the first n bytes of the piece are those of the file from `at` on, and there are none only at its
-- end or for an empty piece
pub record IsPiece (bytes : List ℕ) (at n : ℕ) (piece : List ℕ) : Type 0 where
  pub same : take n piece ≡ take n (drop at bytes)
  pub within : n ≤ length bytes - at
  pub ended : n ≡ 0 → (length piece ≡ 0) ⊎ (length bytes ≤ at)

-- an answer to `read` that is right where the files are told and this one is there
abbrev pub TellsPiece : Option (List (List ℕ × List ℕ)) → List ℕ → ℕ → List ℕ → ReadAnswer → Type 0
TellsPiece told name at piece answer =
    (files : List (List ℕ × List ℕ)) (bytes : List ℕ) (n : ℕ) →
    told ≡ Some files → content_of files name ≡ Some bytes → answer ≡ Got n → IsPiece bytes at n piece

-- an answer that says how many bytes of a file begin a piece, where the files are told
-- and this one is there: all of them, or as many as the piece holds
abbrev pub TellsPrefix : Option (List (List ℕ × List ℕ)) → List ℕ → List ℕ → ReadAnswer → Type 0
TellsPrefix told name piece answer =
    (files : List (List ℕ × List ℕ)) (bytes : List ℕ) (n : ℕ) →
    told ≡ Some files → content_of files name ≡ Some bytes → answer ≡ Got n →
    (n ≡ min (length piece) (length bytes)) × (take n piece ≡ take n bytes)
