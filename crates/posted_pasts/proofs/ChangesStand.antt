-- A statement that puts rows of a cube or drops a region, and its posts: for each cube they go on standing for what was
-- done.
use Rattle.std.proofs.Common.{◌≡◌, ◌≢◌, ◌∙◌, ℕ, List, [], ◌∷◌, ◌++◌, slice_get, Some, refl, sym, subst}
use Rattle.std.proofs.lemmas.List.Sorted.{IsPermutation-refl}
use Rattle.condition_spans.specs.Codes.{lists_at}
use Rattle.core_agreements.specs.PostsForOperations.{PostsStandFor, StandForAll, batches_posted, other_dropped, region_dropped, rows_of_batches, rows_put}
use Rattle.core_events.specs.Serial.{CubeOperation, DropRows}
use Rattle.cube_language.specs.declared.decl.Decl.{Decl}
use Rattle.cube_run.specs.RunRecords.{RunRecord, catalog_of}
use Rattle.cube_run.specs.RunTransactions.{rows_of_cube}
use Rattle.cube_run.specs.SessionSteps.{SessionStep}
use Rattle.cube_values.specs.declared.operation.Operation.{Operation}
use Rattle.cube_values.specs.declared.operation.Operation.TheVariants.{Put, Drop}
use Rattle.cube_values.specs.declared.row.CodedRow.{CodedRow}
use Rattle.cube_values.specs.declared.row.StoredRow.{StoredRow}
use Rattle.cube_values.specs.declared.span.Span.{Span}
use Rattle.one_session.specs.Changes.{AreNamedApart}
use Rattle.posted_pasts.proofs.DoneSteps.{no-rows, own-rows}
use Rattle.posted_pasts.specs.DoneChanges.{DoesOperation, HasDroppedRegion, HasPutRows}

-- A step does an operation at an epoch, for which the posts of the cube at a place stand, and no post of another.
pub record IsChangeAt (run : RunRecord) (step : SessionStep) (cube epoch : ℕ) (posted : List CubeOperation)
    : Type 0 where
  pub decl : Decl
  pub cube_is : slice_get (catalog_of run).cubes cube ≡ Some decl
  pub operation : Operation
  pub done : DoesOperation run step epoch operation
  pub here : (posts : List CubeOperation) (behind : List Operation)
      → PostsStandFor decl (lists_at run.names cube) posts behind
      → PostsStandFor decl (lists_at run.names cube) (posted ++ posts) (behind ++ operation ∷ [])
  pub other : (place : ℕ) (d : Decl) → place ≢ cube → slice_get (catalog_of run).cubes place ≡ Some d
      → (posts : List CubeOperation) (behind : List Operation) → PostsStandFor d (lists_at run.names place) posts behind
      → PostsStandFor d (lists_at run.names place) posts (behind ++ operation ∷ [])

-- No batch stands for no rows.
none-for-none : (d : Decl) (lists : List (List (List ℕ))) → StandForAll d lists [] []
none-for-none d lists = record {
  ordered = [];
  moved = IsPermutation-refl [];
  come = record { are = refl; each = tt };
}

pub put-change : (run : RunRecord) (step : SessionStep) (cube epoch : ℕ) (batches : List (List CodedRow))
    → AreNamedApart (catalog_of run).cubes → HasPutRows run step cube epoch batches
    → IsChangeAt run step cube epoch (batches_posted batches)
put-change run step cube epoch batches apart h = record {
  decl = h.decl;
  cube_is = h.cube_is;
  operation = Put (rows_of_cube h.decl.name h.rows);
  done = h.done;
  here = λ posts behind stood.
      rows_put batches posts (rows_of_cube h.decl.name h.rows) behind
      (subst (λ (stored : List StoredRow). StandForAll h.decl (lists_at run.names cube) (rows_of_batches batches) stored)
      (sym (own-rows h.decl.name h.rows)) h.stand) stood;
  other = λ place d away is posts behind stood.
      rows_put [] posts (rows_of_cube h.decl.name h.rows) behind
      (subst (λ (stored : List StoredRow). StandForAll d (lists_at run.names place) [] stored)
      (sym (no-rows h.decl.name d.name (λ same. away (apart place cube d h.decl is h.cube_is same)) h.rows))
      (none-for-none d (lists_at run.names place))) stood;
}

pub drop-change : (run : RunRecord) (step : SessionStep) (cube epoch : ℕ) (box : Span)
    → AreNamedApart (catalog_of run).cubes → HasDroppedRegion run step cube epoch box
    → IsChangeAt run step cube epoch (DropRows box ∷ [])
drop-change run step cube epoch box apart h = record {
  decl = h.decl;
  cube_is = h.cube_is;
  operation = Drop h.region;
  done = h.done;
  here = λ posts behind stood. region_dropped box posts h.region behind h.takes h.named stood;
  other = λ place d away is posts behind stood.
      other_dropped posts h.region behind
      (λ same. away (apart place cube d h.decl is h.cube_is (sym same ∙ h.named))) stood;
}
