-- What a store keeps of a run, by the run's record.
-- Source: AOSI (ICDE 2018), LSE and recovery; Cubrick (VLDB 2016), rows by coordinates.
use Rattle.std.specs.Prelude.{ℕ, List}
use Rattle.std.specs.List.Sorted.{IsPermutation}
use Rattle.cube_values.specs.declared.row.CodedRow.{CodedRow}
use Rattle.cube_values.specs.declared.row.StoredRow.{StoredRow}
use Rattle.cube_language.specs.declared.decl.Decl.{Decl}
use Rattle.cube_rounds.specs.KeptRows.{kept_rows_of_brick}
use Rattle.cube_rounds.specs.Stands.{Kept}
use Rattle.core_events.specs.Cells.{rows_of_brick}
use Rattle.core_events.specs.Clients.{reader_up_to}
use Rattle.core_events.specs.Events.{Opening}
use Rattle.core_agreements.specs.PostsForOperations.{StandForAll}

-- The rounds keep rows of a cube that stand for these rows of values, each as often: of each brick those of its
-- coordinates.
pub record KeepRowsFor (o : Opening) (d : Decl) (lists : List (List (List ℕ))) (cube : ℕ) (kept : Kept)
    (stored : List StoredRow) : Type 0 where
  pub rows : List CodedRow
  pub stand : StandForAll d lists rows stored
  pub each : (brick : ℕ)
      → IsPermutation (kept_rows_of_brick (reader_up_to kept.epoch) cube brick kept.rounds)
      (rows_of_brick o cube brick rows)
