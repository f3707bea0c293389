-- The end of a run: all shards have purged up to LSE, and what they then hold.
-- Source: AOSI (ICDE 2018), LSE and purge; that main has the shards purge at the end of a run is this project's own.
use Rattle.std.specs.Prelude.{◌≡◌, ℕ, ◌+◌, List}
use Rattle.std.specs.List.Sorted.{IsPermutation}
use Rattle.cube_values.specs.declared.row.CodedRow.{CodedRow}
use Rattle.cube_values.specs.declared.row.StoredRow.{StoredRow}
use Rattle.cube_language.specs.declared.decl.Decl.{Decl}
use Rattle.core_events.specs.Events.{Opening, CoreEvent}
use Rattle.core_events.specs.ShardView.{ShardView}
use Rattle.core_events.specs.Clients.{client_state}
use Rattle.core_events.specs.Cells.{counters_of_run, rows_of_brick}
use Rattle.core_agreements.specs.PostsForOperations.{StandForAll}
use Rattle.final_shards.specs.PurgedBricks.{HasPurgedShards, rows_held_up_to}

-- The LSE of a run.
abbrev pub lse_of : Opening → List CoreEvent → ℕ
lse_of o es = (counters_of_run o es).lse

-- A client has had all shards purge up to the LSE at which the run ends.
abbrev pub HasPurgedToLse : Opening → List CoreEvent → ℕ → Type 0
HasPurgedToLse o es client = HasPurgedShards o.shards (lse_of o es) (client_state o client es).group

-- Nothing is above LSE: the next epoch is the one after it.
abbrev pub AllIsSafe : Opening → List CoreEvent → Type 0
AllIsSafe o es = (counters_of_run o es).ec ≡ lse_of o es + 1

-- The bricks of a cube hold, of the epochs up to one, rows that stand for these rows of values, each as often: each
-- brick those of its coordinates.
pub record HoldRowsFor (o : Opening) (d : Decl) (lists : List (List (List ℕ))) (cube epoch : ℕ) (view : ShardView)
    (stored : List StoredRow) : Type 0 where
  pub rows : List CodedRow
  pub stand : StandForAll d lists rows stored
  pub each : (brick : ℕ)
      → IsPermutation (rows_held_up_to epoch (view cube brick)) (rows_of_brick o cube brick rows)
