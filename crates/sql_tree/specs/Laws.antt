-- What holds of every text and its statement, and of every statement and its printed form.
use Rattle.std.specs.Prelude.{◌≡◌, ◌⊎◌, ℕ, List}
use Rattle.cube_language.specs.declared.statement.Statement.{Statement}
use Rattle.cube_language.specs.Grammar.{Spells, IsSpelled}
use Rattle.cube_language.specs.Printed.{printed}
use Rattle.cube_language.specs.Syntax.{IsSyntaxFault}

-- The text spells some statement.
abbrev pub AnyStatement : List ℕ → Type 0
AnyStatement text = (statement : Statement) × Spells text statement

-- The text has a fault at some place.
abbrev pub AnySyntaxFault : List ℕ → Type 0
AnySyntaxFault text = (at : ℕ) × IsSyntaxFault text at

-- Each text spells a statement or has a fault.
abbrev pub TextsSpellOrHaveFault : Type 0
TextsSpellOrHaveFault = (text : List ℕ) → AnyStatement text ⊎ AnySyntaxFault text

-- A text spells one statement at most.
abbrev pub TextsSpellOneStatement : Type 0
TextsSpellOneStatement = (text : List ℕ) (a b : Statement) → Spells text a → Spells text b → a ≡ b

-- A text that spells a statement has no fault.
abbrev pub SpellingTextsHaveNoFault : Type 0
SpellingTextsHaveNoFault = (text : List ℕ) (s : Statement) (at : ℕ) → Spells text s → IsSyntaxFault text at → ⊥

-- A text has a fault at one place at most.
abbrev pub TextsHaveOneSyntaxFault : Type 0
TextsHaveOneSyntaxFault = (text : List ℕ) (a b : ℕ) → IsSyntaxFault text a → IsSyntaxFault text b → a ≡ b

-- The printed form of a statement that some text spells spells it too.
abbrev pub PrintedFormsSpell : Type 0
PrintedFormsSpell = (s : Statement) → IsSpelled s → Spells (printed s) s
