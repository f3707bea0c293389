-- A cube that is not made has no rows.
use Rattle.std.proofs.Common.{◌≡◌, ◌∙◌, ℕ, zero, suc, ◌+◌, ◌<◌, ◌≤◌, ◌==◌, Bool, true, false, ◌&&◌, List, [], ◌∷◌, length, if◌then◌else◌, refl, ap, arith, ne_eqb, length-append}
use Rattle.cube_values.specs.declared.row.CodedRow.{CodedRow}
use Rattle.cube_language.specs.declared.decl.Decl.{Decl}
use Rattle.core_events.specs.Cells.{desk_of}
use Rattle.core_events.specs.Clients.{client_state, reader_up_to}
use Rattle.core_events.specs.Events.{Opening, ClientCall, OnDesk, OnNames, Post, Fetch, CloseMail, NoChange, CoreEvent, By, At}
use Rattle.core_events.specs.Fitting.{FitsCall}
use Rattle.core_events.specs.Groups.{has_ended}
use Rattle.core_events.specs.Jobs.{CoreJob, Append, DropBox, Scan, Delta, Rollback, Purge, CopyRound, Flush}
use Rattle.core_events.specs.Runs.{IsCoreRun}
use Rattle.core_events.specs.Serial.{CubeOperation, PutRows, DropRows, counts_for, operations_of, operations_with, rows_after_transaction, rows_left_below}
use Rattle.core_events.specs.ShardView.{EpochSet}
use Rattle.core_events.proofs.KnownCubes.{known-cubes}
use Rattle.core_serial.specs.Copies.{rows_committed_up_to}
use Rattle.following_rounds.proofs.MadeCubes.{cubes-grow}

-- A job on another cube.
abbrev IsOnOther : ℕ → CoreJob → Type 0
IsOnOther cube (Append other epoch rows) = (other == cube) ≡ false
IsOnOther cube (DropBox other epoch box) = (other == cube) ≡ false
IsOnOther cube job = Unit {0}

other-keeps : (cube e : ℕ) (begins : Bool) (job : CoreJob) (operations : List CubeOperation) → IsOnOther cube job
    → operations_with cube e begins job operations ≡ operations
other-keeps cube e begins (Append other epoch rows) operations is =
    ap (λ (b : Bool). if b && epoch == e then PutRows rows ∷ operations else operations) is
other-keeps cube e true (DropBox other epoch box) operations is =
    ap (λ (b : Bool). if b && epoch == e then DropRows box ∷ operations else operations) is
other-keeps cube e false (DropBox other epoch box) operations is = refl
other-keeps cube e begins (Scan query snapshot) operations is = refl
other-keeps cube e begins (Delta query from to) operations is = refl
other-keeps cube e begins (Rollback epoch) operations is = refl
other-keeps cube e begins (Purge epoch) operations is = refl
other-keeps cube e begins (CopyRound from to) operations is = refl
other-keeps cube e begins Flush operations is = refl

job-on-other : (o : Opening) (es : List CoreEvent) (cube b mail : ℕ) (job : CoreJob) → IsCoreRun o es
    → length (desk_of o es).cubes ≤ cube → FitsCall o b (Post mail job) (client_state o b es) → IsOnOther cube job
job-on-other o es cube b mail (Append other epoch rows) run past f =
    let there = f.bears.there in
    let known = known-cubes o es b run in
    ne_eqb other cube (λ same. absurd (omega (arith, there, known, past, same)))
job-on-other o es cube b mail (DropBox other epoch box) run past f =
    let there = f.bears.there in
    let known = known-cubes o es b run in
    ne_eqb other cube (λ same. absurd (omega (arith, there, known, past, same)))
job-on-other o es cube b mail (Scan query snapshot) run past f = tt
job-on-other o es cube b mail (Delta query from to) run past f = tt
job-on-other o es cube b mail (Rollback epoch) run past f = tt
job-on-other o es cube b mail (Purge epoch) run past f = tt
job-on-other o es cube b mail (CopyRound from to) run past f = tt
job-on-other o es cube b mail Flush run past f = tt

past-before : (o : Opening) (cube b : ℕ) (call : ClientCall) (es : List CoreEvent)
    → length (desk_of o (By b call ∷ es)).cubes ≤ cube → length (desk_of o es).cubes ≤ cube
past-before o cube b call es past =
    let grows = cubes-grow o (By b call ∷ []) es in
    let long =
    ap (λ (l : List Decl). length l) grows.1 ∙ length-append (desk_of o es).cubes grows.0
    in
    omega (arith, past, long)

module _ (o : Opening) (cube e : ℕ) (none : (cube : ℕ) → length o.cubes ≤ cube → o.rows cube ≡ []) where
  at-opening : (here : Bool) → length o.cubes ≤ cube
      → rows_after_transaction (if here then PutRows (o.rows cube) ∷ [] else []) [] ≡ []
  at-opening true past = none cube past
  at-opening false past = refl

  nothing-put : (es : List CoreEvent) → IsCoreRun o es → length (desk_of o es).cubes ≤ cube
      → rows_after_transaction (operations_of o cube es e) [] ≡ []
  nothing-put [] run past = at-opening (e == o.safe) past
  nothing-put (By b (Post mail job) ∷ es) run past =
      let before = past-before o cube b (Post mail job) es past in
      ap (λ (operations : List CubeOperation). rows_after_transaction operations [])
      (other-keeps cube e (has_ended o.shards (client_state o b es).group) job (operations_of o cube es e)
      (job-on-other o es cube b mail job run.0 before run.1.fits))
      ∙ nothing-put es run.0 before
  nothing-put (By b (OnDesk call) ∷ es) run past = nothing-put es run.0 (past-before o cube b (OnDesk call) es past)
  nothing-put (By b (OnNames call) ∷ es) run past = nothing-put es run.0 (past-before o cube b (OnNames call) es past)
  nothing-put (By b (Fetch mail answer) ∷ es) run past =
      nothing-put es run.0 (past-before o cube b (Fetch mail answer) es past)
  nothing-put (By b (CloseMail mail) ∷ es) run past =
      nothing-put es run.0 (past-before o cube b (CloseMail mail) es past)
  nothing-put (By b NoChange ∷ es) run past = nothing-put es run.0 (past-before o cube b NoChange es past)
  nothing-put (At mail move ∷ es) run past = nothing-put es run.0 past

nothing-left : (m : ℕ) (epochs : EpochSet) (operations : ℕ → List CubeOperation)
    → ((e : ℕ) → rows_after_transaction (operations e) [] ≡ []) → rows_left_below m epochs operations ≡ []
nothing-left zero epochs operations none = refl
nothing-left (suc m) epochs operations none = at (epochs m) (nothing-left m epochs operations none)
  where
    at : (counts : Bool) → rows_left_below m epochs operations ≡ []
        → (if counts then rows_after_transaction (operations m) (rows_left_below m epochs operations)
        else rows_left_below m epochs operations)
        ≡ []
    at true rest = ap (rows_after_transaction (operations m)) rest ∙ none m
    at false rest = rest

pub nothing-committed : (o : Opening) (es : List CoreEvent) (cube e : ℕ) → IsCoreRun o es
    → ((cube : ℕ) → length o.cubes ≤ cube → o.rows cube ≡ []) → length (desk_of o es).cubes ≤ cube
    → rows_committed_up_to o es cube e ≡ []
nothing-committed o es cube e run none past =
    nothing-left (e + 1) (counts_for o es (reader_up_to e)) (operations_of o cube es)
    (λ k. nothing-put o cube k none es run past)
