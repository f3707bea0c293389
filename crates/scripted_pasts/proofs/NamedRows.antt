-- The rows of the record have their names in the dictionaries in the end.
use Rattle.std.proofs.Common.{◌≡◌, ℕ, All, Bool, true, false, List, [], ◌∷◌, if◌then◌else◌, refl}
use Rattle.std.specs.List.{AllByRecursion, list_any}
use Rattle.std.specs.Str.{bytes_eq}
use Rattle.std.proofs.lemmas.Bool.{both_ways}
use Rattle.std.proofs.lemmas.List.Elements.{All-from_recursion, All-nil, All-push, recursion_from_All}
use Rattle.std.proofs.lemmas.Slice.Eq.{bytes_eq-Decides}
use Rattle.cube_values.specs.Visible.{rows_put}
use Rattle.cube_values.specs.declared.operation.Operation.{Operation}
use Rattle.cube_values.specs.declared.operation.Operation.TheVariants.{Put}
use Rattle.cube_values.specs.declared.row.CodedRow.{CodedRow}
use Rattle.cube_values.specs.declared.row.StoredRow.{StoredRow}
use Rattle.cube_language.specs.declared.decl.Decl.{Decl}
use Rattle.cube_language.specs.declared.decl.DimDecl.{DimDecl}
use Rattle.condition_spans.specs.Codes.{lists_at}
use Rattle.cube_run.specs.FinalNames.{HasDimension, HasItsName, names_at}
use Rattle.cube_run.specs.RunRecords.{script_of}
use Rattle.cube_run.specs.RunTransactions.{is_commit_of, operations_at, session_operations}
use Rattle.one_session.specs.Changes.{Come, rows_in_cube}
use Rattle.scripted_pasts.proofs.FittingNames.{put_named}
use Rattle.core_events.specs.Clients.{calls_of}
use Rattle.core_events.specs.Events.{Opening, IsSession, CoreEvent}
use Rattle.core_events.specs.Serial.{CubeOperation}
use Rattle.core_records.specs.CoreRecords.{RunScripts, record_of}
use Rattle.core_records.specs.OwnEntries.{entries_by_calls}
use Rattle.core_records.proofs.NamesOnRecord.{cube-of-desk}
use Rattle.core_agreements.specs.PostsForOperations.{PostsStandFor, StandForAll, no_posts, other_dropped, region_dropped, rows_put as batches_put}
use Rattle.core_agreements.specs.ScriptedRuns.{IsScriptedRun}
use Rattle.core_agreements.proofs.KeptStood.{kept-stands}

-- ---- rows

-- Rows of other cubes need no names of this one.
of-cube : (name : List ℕ) (place : ℕ) (names : List (List ℕ)) (rows : List StoredRow)
    → AllByRecursion (HasItsName name place names) (rows_in_cube name rows)
    → AllByRecursion (HasItsName name place names) rows
of-cube name place names [] h = tt
of-cube name place names (row ∷ rows) h = at (bytes_eq row.cube name) refl h (of-cube name place names rows)
  where
    at : (own : Bool) → bytes_eq row.cube name ≡ own
        → AllByRecursion (HasItsName name place names)
        (if own then row ∷ rows_in_cube name rows else rows_in_cube name rows)
        → (AllByRecursion (HasItsName name place names) (rows_in_cube name rows)
        → AllByRecursion (HasItsName name place names) rows)
        → AllByRecursion (HasItsName name place names) (row ∷ rows)
    at true is h rest = (h.0, rest h.1)
    at false is h rest =
        let other = both_ways (bytes_eq row.cube name) is in
        (λ text its here. absurd (other ((bytes_eq-Decides row.cube name).1 its)), rest h)

pub stand-named : (d : Decl) (names : List (List (List (List ℕ)))) (cube place : ℕ) (rows : List CodedRow)
    (stored : List StoredRow) → StandForAll d (lists_at names cube) rows (rows_in_cube d.name stored)
    → All (HasItsName d.name place (names_at names cube place)) stored
stand-named d names cube place rows stored stand =
    let Has = HasItsName d.name place (names_at names cube place) in
    All-from_recursion Has stored
    (of-cube d.name place (names_at names cube place) stored
    (recursion_from_All Has (rows_in_cube d.name stored)
    (put_named d d.name cube cube place names (Come stand.ordered) (Put (rows_in_cube d.name stored)) (λ same. refl)
    stand.come)))

-- ---- operations

abbrev PutNamed : Decl → List (List (List (List ℕ))) → ℕ → ℕ → Operation → Type 0
PutNamed d names cube place operation = All (HasItsName d.name place (names_at names cube place)) (rows_put operation)

posts-named : (d : Decl) (names : List (List (List (List ℕ)))) (cube place : ℕ) (posts : List CubeOperation)
    (done : List Operation) → PostsStandFor d (lists_at names cube) posts done → All (PutNamed d names cube place) done
posts-named d names cube place posts done no_posts = All-nil (PutNamed d names cube place)
posts-named d names cube place posts done (batches_put batches older stored before stand rest) =
    All-push (PutNamed d names cube place) before (Put stored)
    (posts-named d names cube place older before rest)
    (stand-named d names cube place _ stored stand)
posts-named d names cube place posts done (region_dropped box older region before takes of_cube rest) =
    All-push (PutNamed d names cube place) before _ (posts-named d names cube place older before rest)
    (All-nil (HasItsName d.name place (names_at names cube place)))
posts-named d names cube place posts done (other_dropped older region before other rest) =
    All-push (PutNamed d names cube place) before _ (posts-named d names cube place older before rest)
    (All-nil (HasItsName d.name place (names_at names cube place)))

-- ---- on record

module _ (o : Opening) (given : RunScripts) (es : List CoreEvent) (cube place : ℕ) (d : Decl) (dim : DimDecl)
    (r : IsScriptedRun o given es) (has : HasDimension (record_of o given es) cube place d dim) where
  pub kept-named : All (HasItsName d.name place (names_at (record_of o given es).names cube place))
      (record_of o given es).kept
  kept-named =
      stand-named d (record_of o given es).names cube place (o.rows cube) (record_of o given es).kept
      (kept-stands o es cube d r.run r.opens (cube-of-desk o given es cube place d dim r.run r.follow has))

  pub committed-named : (session epoch : ℕ) → IsSession o session
      → list_any (is_commit_of epoch) (entries_by_calls o session (calls_of session es)) ≡ true
      → All (PutNamed d (record_of o given es).names cube place)
      (operations_at epoch
      (session_operations (record_of o given es) session (script_of (record_of o given es) session)))
  committed-named session epoch is committed =
      posts-named d (record_of o given es).names cube place _ _
      ((r.commits session is).each epoch cube d committed has.cube_is)
