-- Rows by coordinates that stand for rows of values in any order, and posts of a transaction that stand for its
-- operations.
-- Source: Cubrick (VLDB 2016), rows by coordinates; AOSI (ICDE 2018), appends and deletions of a transaction.
use Rattle.std.specs.Prelude.{◌≡◌, ◌≢◌, ℕ, List, [], ◌∷◌, ◌++◌, map}
use Rattle.std.specs.List.{flat_map}
use Rattle.std.specs.List.Sorted.{IsPermutation}
use Rattle.cube_values.specs.declared.operation.Operation.{Operation}
use Rattle.cube_values.specs.declared.operation.Operation.TheVariants.{Put, Drop}
use Rattle.cube_values.specs.declared.operation.Region.{Region}
use Rattle.cube_values.specs.declared.row.CodedRow.{CodedRow}
use Rattle.cube_values.specs.declared.row.StoredRow.{StoredRow}
use Rattle.cube_values.specs.declared.span.Span.{Span}
use Rattle.cube_language.specs.declared.decl.Decl.{Decl}
use Rattle.query_plan.specs.Ties.{TakesRegion}
use Rattle.one_session.specs.Changes.{ComeFor, rows_in_cube}
use Rattle.core_events.specs.Serial.{CubeOperation, PutRows, DropRows}

-- Rows by coordinates stand, each once, for all of these rows of values, in whatever order.
pub record StandForAll (d : Decl) (lists : List (List (List ℕ))) (rows : List CodedRow) (stored : List StoredRow)
    : Type 0 where
  pub ordered : List CodedRow
  pub moved : IsPermutation rows ordered
  pub come : ComeFor d lists ordered stored

-- Batches of rows as posts, and the rows of all of them.
abbrev pub batches_posted : List (List CodedRow) → List CubeOperation
batches_posted batches = map (λ rows. PutRows rows) batches

abbrev pub rows_of_batches : List (List CodedRow) → List CodedRow
rows_of_batches batches = flat_map (λ rows. rows) batches

-- What was posted of a cube, the newest first, stands for operations, the oldest first: batches for the rows of the
-- cube that an operation put, one box for a region of the cube that one dropped. For a region of another cube there is
-- none.
pub data PostsStandFor (d : Decl) (lists : List (List (List ℕ))) : List CubeOperation → List Operation → Type 0 where
  no_posts : PostsStandFor d lists [] []
  rows_put : (batches : List (List CodedRow)) (posts : List CubeOperation) (stored : List StoredRow)
      (done : List Operation) → StandForAll d lists (rows_of_batches batches) (rows_in_cube d.name stored)
      → PostsStandFor d lists posts done
      → PostsStandFor d lists (batches_posted batches ++ posts) (done ++ Put stored ∷ [])
  region_dropped : (box : Span) (posts : List CubeOperation) (region : Region) (done : List Operation)
      → TakesRegion d lists region box → region.cube ≡ d.name → PostsStandFor d lists posts done
      → PostsStandFor d lists (DropRows box ∷ posts) (done ++ Drop region ∷ [])
  other_dropped : (posts : List CubeOperation) (region : Region) (done : List Operation) → region.cube ≢ d.name
      → PostsStandFor d lists posts done → PostsStandFor d lists posts (done ++ Drop region ∷ [])
