-- Texts that are known, each with its code.
-- Source: association lists, of which this one has each text once.
use Rattle.std.specs.Prelude.{ℕ, List, [], ◌∷◌, ◌++◌, Option, is_some, bytes_eq, map, if◌then◌else◌}
use Rattle.std.specs.List.{IsDistinct}
use Rattle.std.specs.Map.{keys_of, lookup}

-- The code of a text, where the text is known.
abbrev pub code_of_known : List (List ℕ × ℕ) → List ℕ → Option ℕ
code_of_known known text = lookup (bytes_eq text) known

-- A text that is not known yet goes last, with its code. What is known stays.
abbrev pub with_text : List (List ℕ × ℕ) → List ℕ → ℕ → List (List ℕ × ℕ)
with_text known text code = if is_some (code_of_known known text) then known else known ++ (text, code) ∷ []

-- No text is known twice.
abbrev pub HasDistinctTexts : List (List ℕ × ℕ) → Type 0
HasDistinctTexts known = IsDistinct bytes_eq (keys_of known)

-- The texts and codes of entries that hold each text in another form.
abbrev pub texts_of : {X : Type 0} → (X → List ℕ) → List (X × ℕ) → List (List ℕ × ℕ)
texts_of text entries = map (λ e. (text e.0, e.1)) entries
