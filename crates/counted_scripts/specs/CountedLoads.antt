-- How the counts of a shelf go on by the LOADs of a script.
-- Source: this project's own.
use Rattle.std.specs.Prelude.{◌≡◌, ℕ, List, [], ◌∷◌}
use Rattle.cube_journal.specs.declared.reply.Reply.{Reply}
use Rattle.cube_language.specs.declared.statement.Statement.TheVariants.{Load}
use Rattle.cube_run.specs.RunRecords.{Says, Sentence}

-- With a LOAD a count goes on as its reply shows it, and with no other statement.
abbrev pub CountsFor : (Reply → ℕ → ℕ → Type 0) → Sentence → Reply → ℕ → ℕ → Type 0
CountsFor Counts (Says (Load cube path reject)) said before now = Counts said before now
CountsFor Counts sentence said before now = now ≡ before

-- So it goes on statement by statement, with their replies.
abbrev pub CountsInTurn : (Reply → ℕ → ℕ → Type 0) → List Sentence → List Reply → ℕ → ℕ → Type 0
CountsInTurn Counts [] [] before now = now ≡ before
CountsInTurn Counts (sentence ∷ script) (said ∷ replies) before now =
    (between : ℕ) × CountsFor Counts sentence said before between × CountsInTurn Counts script replies between now
CountsInTurn Counts script replies before now = ⊥
