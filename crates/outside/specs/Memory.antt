-- The memory forms as contracts see them, and what each call does to them.
use Rattle.std.specs.Prelude.{ℕ, ◌-◌, ◌<◌, ◌≤◌, List, ◌++◌, length, unwrap_or, []}
use Rattle.outside.specs.declared.answers.SizeAnswer.{SizeAnswer}
use Rattle.outside.specs.declared.answers.SizeAnswer.TheVariants.{Size, Absent, Failed as NoSize}
use Rattle.outside.specs.declared.answers.ReadAnswer.{ReadAnswer}
use Rattle.outside.specs.declared.answers.ReadAnswer.TheVariants.{Got, Failed as NoPiece}
use Rattle.outside.specs.declared.answers.PutAnswer.{PutAnswer}
use Rattle.outside.specs.declared.answers.PutAnswer.TheVariants.{Took, Failed as NoTaking}
use Rattle.outside.specs.Counts.{next}
use Rattle.outside.specs.Files.{content_of}
use Rattle.outside.specs.Output.{taken_by}

-- a ShelfMemory: its files, the numbers of the calls that fail, how many calls it has answered, and
-- how many of them failed or found no file
pub record ShelfState : Type 0 where
  pub files : List (List ℕ × List ℕ)
  pub failing : List ℕ
  pub calls : ℕ
  pub faults : ℕ
  pub absences : ℕ

-- the shelf after a call of `size` with this answer
abbrev pub after_size : SizeAnswer → ShelfState → ShelfState
after_size (Size n) shelf = record shelf { calls = next shelf.calls }
after_size Absent shelf = record shelf { calls = next shelf.calls; absences = next shelf.absences }
after_size NoSize shelf = record shelf { calls = next shelf.calls; faults = next shelf.faults }

-- the shelf after a call of `read` with this answer
abbrev pub shelf_after_read : ReadAnswer → ShelfState → ShelfState
shelf_after_read (Got n) shelf = record shelf { calls = next shelf.calls }
shelf_after_read NoPiece shelf = record shelf { calls = next shelf.calls; faults = next shelf.faults }

-- how many bytes of a file there are from `at` on; none of a file that is absent
abbrev pub bytes_left : List (List ℕ × List ℕ) → List ℕ → ℕ → ℕ
bytes_left files name at = length (unwrap_or (content_of files name) []) - at

-- a SinkMemory: the bytes it has taken, how many it takes in all, the numbers of the calls that
-- fail, how many calls it has answered, and how many of them failed
pub record SinkState : Type 0 where
  pub taken : List ℕ
  pub room : ℕ
  pub failing : List ℕ
  pub calls : ℕ
  pub faults : ℕ

-- no byte of this piece has room
abbrev pub LacksRoom : SinkState → List ℕ → Type 0
LacksRoom sink piece = (0 < length piece) × (sink.room ≤ length sink.taken)

-- the sink after a call of `put` with this piece and this answer
abbrev pub after_put : PutAnswer → List ℕ → SinkState → SinkState
after_put (Took n) piece sink = record sink { taken = sink.taken ++ taken_by (Took n) piece; calls = next sink.calls }
after_put NoTaking piece sink = record sink { calls = next sink.calls; faults = next sink.faults }
