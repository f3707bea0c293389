-- What stored rounds are for each of the cubes that are kept behind them.
-- Source: this project's own.
use Rattle.std.specs.Prelude.{◌≡◌, ◌⊎◌, ℕ, ◌<◌, ◌≤◌, List, [], slice_get, Some, None}
use Rattle.std.specs.List.{AllByRecursion}
use Rattle.cube_language.specs.declared.decl.Decl.{Decl}
use Rattle.cube_schema.specs.Schemas.{cube_of}
use Rattle.cube_rounds.specs.declared.round.Round.{Round}
use Rattle.cube_rounds.specs.KeptRows.{parts_of_brick}
use Rattle.cube_rounds.specs.Stands.{FileStands, Kept, kept_of_cubes, kept_with_all, RoundsMayFollow}
use Rattle.kept_batches.specs.RoundsFit.{RoundsFit}

-- The rounds are those that are kept. They fit the shape of each kept cube, have nothing of other cubes, and end by the
-- kept epoch, which is above 0 where there is a round.
pub record AreRoundsOf (kept : Kept) (rounds : List Round) : Type 0 where
  pub same : kept.rounds ≡ rounds
  pub fit : (place : ℕ) (cube : Decl) → slice_get kept.cubes place ≡ Some cube
      → RoundsFit (cube_of cube) place 0 rounds
  pub others : (place number : ℕ) → slice_get kept.cubes place ≡ None → parts_of_brick place number rounds ≡ []
  pub end : AllByRecursion (λ round. round.epoch ≤ kept.epoch) rounds
  pub begun : (rounds ≡ []) ⊎ (0 < kept.epoch)

-- So it is of rounds that were stored one after the other behind some cubes.
abbrev pub StoredRoundsFit : Type 0
StoredRoundsFit = (cubes : List Decl) (rounds : List Round) → RoundsMayFollow (kept_of_cubes cubes) rounds
    → AreRoundsOf (kept_with_all (kept_of_cubes cubes) rounds) rounds

-- So it is of the rounds of a file that stands for what is kept.
abbrev pub FilesHaveFittingRounds : Type 0
FilesHaveFittingRounds = (digest : List ℕ → List ℕ) (generation : ℕ) (kept : Kept) (file : List ℕ)
    → FileStands digest generation kept file → AreRoundsOf kept kept.rounds
