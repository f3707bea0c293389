-- What a sink gains, where it tells the bytes that it has taken.
use Rattle.std.specs.Prelude.{◌≡◌, ℕ, ◌<◌, ◌≤◌, List, [], ◌++◌, length, take, Option, Some}
use Rattle.outside.specs.declared.answers.PutAnswer.{PutAnswer}
use Rattle.outside.specs.declared.answers.PutAnswer.TheVariants.{Took, Failed}

-- the bytes that are told afterwards are those told before, and then these
abbrev pub Gained : Option (List ℕ) → List ℕ → Option (List ℕ) → Type 0
Gained before bytes after = (taken : List ℕ) → before ≡ Some taken → after ≡ Some (taken ++ bytes)

-- a prefix of the bytes was gained, and not all of them
abbrev pub GainedPrefix : Option (List ℕ) → List ℕ → Option (List ℕ) → Type 0
GainedPrefix before bytes after = (n : ℕ) × (n < length bytes) × Gained before (take n bytes) after

-- which bytes of a piece an answer to `put` takes
abbrev pub taken_by : PutAnswer → List ℕ → List ℕ
taken_by (Took n) bytes = take n bytes
taken_by Failed bytes = []

-- what is taken of a piece is no more than it has, and something where it has anything
abbrev pub TakesSome : PutAnswer → List ℕ → Type 0
TakesSome answer bytes =
    (n : ℕ) → answer ≡ Took n → (n ≤ length bytes) × (0 < length bytes → 0 < n)
