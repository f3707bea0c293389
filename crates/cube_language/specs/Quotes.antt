-- Texts in quotes.
-- Source: SQL (ISO/IEC 9075), where a quote in a text is written twice.
use Rattle.std.specs.Prelude.{ℕ, ◌==◌, List, [], ◌∷◌, ◌++◌, codes, if◌then◌else◌}
use Rattle.std.specs.List.{flat_map}

-- The bytes of a text, each quote among them twice.
abbrev pub doubled : List ℕ → List ℕ
doubled text = flat_map (λ byte. if byte == 39 then codes "''" else byte ∷ []) text

-- A text behind its first quote.
abbrev pub opened : List ℕ → List ℕ
opened text = codes "'" ++ doubled text

-- A text in quotes.
abbrev pub quoted : List ℕ → List ℕ
quoted text = codes "'" ++ (doubled text ++ codes "'")
