-- What calls add to the operations of a session's transactions.
use Rattle.std.proofs.Common.{◌≡◌, ◌≢◌, ◌⊎◌, ◌∙◌, ℕ, ◌==◌, Bool, true, false, ◌&&◌, cond, List, [], ◌∷◌, ◌++◌, if◌then◌else◌, inl, inr, refl, sym, ap, eq-eqb, ne_eqb}
use Rattle.std.specs.List.{AllByRecursion}
use Rattle.core_agreements.specs.PostsForOperations.{batches_posted}
use Rattle.core_events.specs.Clients.{calls_of, state_from_calls}
use Rattle.core_events.specs.Events.{Opening, ClientCall, OnDesk, OnNames, Post, Fetch, CloseMail, NoChange}
use Rattle.core_events.specs.Groups.{has_ended}
use Rattle.core_events.specs.Jobs.{CoreJob, Append, DropBox, Scan, Delta, Rollback, Purge, CopyRound, Flush, JobOutcome}
use Rattle.core_events.specs.Serial.{CubeOperation, PutRows, DropRows, operations_with}
use Rattle.core_events.specs.ShardView.{ShardView}
use Rattle.core_program.specs.CoreFits.{CoreEntry}
use Rattle.core_serial.specs.OwnOperations.{operations_by_calls}
use Rattle.core_states.proofs.PlainCalls.{adds-no-operation}
use Rattle.core_states.specs.LeftBehind.{AddsCalls, GoOnByCalls, IsPlainCall}
use Rattle.cube_core.specs.declared.cell.CoreCell.{CoreCell}
use Rattle.cube_core.specs.declared.shard.ShardAnswer.{ShardAnswer}
use Rattle.cube_core.specs.declared.shard.ShardCall.{ShardCall}
use Rattle.cube_values.specs.declared.row.CodedRow.{CodedRow}
use Rattle.cube_values.specs.declared.span.Span.{Span}
use Rattle.posted_pasts.specs.PostsAdded.{AddsAtEpoch, AddsNoOperation, AddsOperations, LearnsThat, PostsAtEpoch, PostsNoChange, PostsRowsAt, batches_among}

pub without-changes : (o : Opening) (session : ℕ) (added past : List ClientCall) → AllByRecursion PostsNoChange added
    → AddsNoOperation session o past (added ++ past)
without-changes o session [] past each = λ cube epoch. refl
without-changes o session (OnDesk c ∷ added) past each = without-changes o session added past each.1
without-changes o session (OnNames c ∷ added) past each = without-changes o session added past each.1
without-changes o session (Fetch mail said ∷ added) past each = without-changes o session added past each.1
without-changes o session (CloseMail mail ∷ added) past each = without-changes o session added past each.1
without-changes o session (NoChange ∷ added) past each = without-changes o session added past each.1
without-changes o session (Post mail (Append other at rows) ∷ added) past each = absurd each.0
without-changes o session (Post mail (DropBox other at box) ∷ added) past each = absurd each.0
without-changes o session (Post mail (Scan query s) ∷ added) past each = without-changes o session added past each.1
without-changes o session (Post mail (Delta query from to) ∷ added) past each =
    without-changes o session added past each.1
without-changes o session (Post mail (Rollback at) ∷ added) past each = without-changes o session added past each.1
without-changes o session (Post mail (Purge at) ∷ added) past each = without-changes o session added past each.1
without-changes o session (Post mail (CopyRound from to) ∷ added) past each =
    without-changes o session added past each.1
without-changes o session (Post mail Flush ∷ added) past each = without-changes o session added past each.1

pub by-plain : (o : Opening) (session : ℕ) (added past : List ClientCall) → AllByRecursion IsPlainCall added
    → AddsNoOperation session o past (added ++ past)
by-plain o session added past each = λ cube epoch. adds-no-operation o session cube epoch added past each

-- A post of another cube or at another epoch adds nothing there.
and-false : (b : Bool) → (b && false) ≡ false
and-false true = refl
and-false false = refl

not-there : (cube epoch c e : ℕ) (b : Bool) (operation : CubeOperation) (posts : List CubeOperation)
    → (c ≢ cube) ⊎ (e ≢ epoch) → (if b && (cube == c && epoch == e) then operation ∷ posts else posts) ≡ posts
not-there cube epoch c e b operation posts (inl differ) =
    ap (λ (t : Bool). cond (b && (t && epoch == e)) (operation ∷ posts) posts) (ne_eqb cube c (λ same. differ (sym same)))
    ∙ ap (λ (t : Bool). cond t (operation ∷ posts) posts) (and-false b)
not-there cube epoch c e b operation posts (inr differ) =
    ap (λ (t : Bool). cond (b && (cube == c && t)) (operation ∷ posts) posts)
    (ne_eqb epoch e (λ same. differ (sym same)))
    ∙ ap (λ (t : Bool). cond (b && t) (operation ∷ posts) posts) (and-false (cube == c))
    ∙ ap (λ (t : Bool). cond t (operation ∷ posts) posts) (and-false b)

-- ---- changes at one epoch

pub at-epoch : (o : Opening) (session epoch : ℕ) (added past : List ClientCall) → AllByRecursion (PostsAtEpoch epoch) added
    → AddsAtEpoch epoch session o past (added ++ past)
at-epoch o session epoch [] past each = λ cube other differ. refl
at-epoch o session epoch (Post mail (Append place at rows) ∷ added) past each = λ cube other differ.
    not-there place at cube other true (PutRows rows) (operations_by_calls o session cube (added ++ past) other)
    (inr (λ same. differ (same ∙ each.0)))
    ∙ at-epoch o session epoch added past each.1 cube other differ
at-epoch o session epoch (Post mail (DropBox place at box) ∷ added) past each = λ cube other differ.
    not-there place at cube other (has_ended o.shards (state_from_calls o session (added ++ past)).group) (DropRows box)
    (operations_by_calls o session cube (added ++ past) other) (inr (λ same. differ (same ∙ each.0)))
    ∙ at-epoch o session epoch added past each.1 cube other differ
at-epoch o session epoch (OnDesk c ∷ added) past each =
    at-epoch o session epoch added past each.1
at-epoch o session epoch (OnNames c ∷ added) past each =
    at-epoch o session epoch added past each.1
at-epoch o session epoch (Fetch mail said ∷ added) past each =
    at-epoch o session epoch added past each.1
at-epoch o session epoch (CloseMail mail ∷ added) past each =
    at-epoch o session epoch added past each.1
at-epoch o session epoch (NoChange ∷ added) past each =
    at-epoch o session epoch added past each.1
at-epoch o session epoch (Post mail (Scan query s) ∷ added) past each =
    at-epoch o session epoch added past each.1
at-epoch o session epoch (Post mail (Delta query from to) ∷ added) past each =
    at-epoch o session epoch added past each.1
at-epoch o session epoch (Post mail (Rollback at) ∷ added) past each =
    at-epoch o session epoch added past each.1
at-epoch o session epoch (Post mail (Purge at) ∷ added) past each =
    at-epoch o session epoch added past each.1
at-epoch o session epoch (Post mail (CopyRound from to) ∷ added) past each =
    at-epoch o session epoch added past each.1
at-epoch o session epoch (Post mail Flush ∷ added) past each =
    at-epoch o session epoch added past each.1

-- ---- rows of a cube

one-batch : (o : Opening) (session cube epoch mail place at : ℕ) (rows : List CodedRow) (added past : List ClientCall)
    → place ≡ cube → at ≡ epoch
    → AddsOperations cube epoch (batches_posted (batches_among added)) session o past (added ++ past)
    → AddsOperations cube epoch (batches_posted (rows ∷ batches_among added)) session o past
    (Post mail (Append place at rows) ∷ (added ++ past))
one-batch o session cube epoch mail place at rows added past same now rest = record {
  here =
      let posts = operations_by_calls o session cube (added ++ past) epoch in
      (λ i. cond (eq-eqb place cube same i && eq-eqb at epoch now i) (PutRows rows ∷ posts) posts)
      ∙ ap (λ (operations : List CubeOperation). PutRows rows ∷ operations) rest.here;
  elsewhere = λ c e away.
      not-there place at c e true (PutRows rows) (operations_by_calls o session c (added ++ past) e)
      (coe 1 0 (i. (c ≢ same i) ⊎ (e ≢ now i)) away)
      ∙ rest.elsewhere c e away;
}

same-posts : (o : Opening) (session cube epoch : ℕ) (posted : List CubeOperation) (before after more : List ClientCall)
    → ((c e : ℕ) → operations_by_calls o session c more e ≡ operations_by_calls o session c after e)
    → AddsOperations cube epoch posted session o before after → AddsOperations cube epoch posted session o before more
same-posts o session cube epoch posted before after more same a =
    record { here = same cube epoch ∙ a.here; elsewhere = λ c e away. same c e ∙ a.elsewhere c e away }

pub only-rows : (o : Opening) (session cube epoch : ℕ) (added past : List ClientCall)
    → AllByRecursion (PostsRowsAt cube epoch) added
    → AddsOperations cube epoch (batches_posted (batches_among added)) session o past (added ++ past)
only-rows o session cube epoch [] past each = record { here = refl; elsewhere = λ c e away. refl }
only-rows o session cube epoch (Post mail (Append place at rows) ∷ added) past each =
    one-batch o session cube epoch mail place at rows added past each.0.0 each.0.1
    (only-rows o session cube epoch added past each.1)
only-rows o session cube epoch (Post mail (DropBox place at box) ∷ added) past each = absurd each.0
only-rows o session cube epoch (OnDesk c ∷ added) past each =
    same-posts o session cube epoch (batches_posted (batches_among added)) past (added ++ past)
    (OnDesk c ∷ (added ++ past)) (λ c e. refl) (only-rows o session cube epoch added past each.1)
only-rows o session cube epoch (OnNames c ∷ added) past each =
    same-posts o session cube epoch (batches_posted (batches_among added)) past (added ++ past)
    (OnNames c ∷ (added ++ past)) (λ c e. refl) (only-rows o session cube epoch added past each.1)
only-rows o session cube epoch (Fetch mail said ∷ added) past each =
    same-posts o session cube epoch (batches_posted (batches_among added)) past (added ++ past)
    (Fetch mail said ∷ (added ++ past)) (λ c e. refl) (only-rows o session cube epoch added past each.1)
only-rows o session cube epoch (CloseMail mail ∷ added) past each =
    same-posts o session cube epoch (batches_posted (batches_among added)) past (added ++ past)
    (CloseMail mail ∷ (added ++ past)) (λ c e. refl) (only-rows o session cube epoch added past each.1)
only-rows o session cube epoch (NoChange ∷ added) past each =
    same-posts o session cube epoch (batches_posted (batches_among added)) past (added ++ past)
    (NoChange ∷ (added ++ past)) (λ c e. refl) (only-rows o session cube epoch added past each.1)
only-rows o session cube epoch (Post mail (Scan query s) ∷ added) past each =
    same-posts o session cube epoch (batches_posted (batches_among added)) past (added ++ past)
    (Post mail (Scan query s) ∷ (added ++ past)) (λ c e. refl) (only-rows o session cube epoch added past each.1)
only-rows o session cube epoch (Post mail (Delta query from to) ∷ added) past each =
    same-posts o session cube epoch (batches_posted (batches_among added)) past (added ++ past)
    (Post mail (Delta query from to) ∷ (added ++ past)) (λ c e. refl) (only-rows o session cube epoch added past each.1)
only-rows o session cube epoch (Post mail (Rollback at) ∷ added) past each =
    same-posts o session cube epoch (batches_posted (batches_among added)) past (added ++ past)
    (Post mail (Rollback at) ∷ (added ++ past)) (λ c e. refl) (only-rows o session cube epoch added past each.1)
only-rows o session cube epoch (Post mail (Purge at) ∷ added) past each =
    same-posts o session cube epoch (batches_posted (batches_among added)) past (added ++ past)
    (Post mail (Purge at) ∷ (added ++ past)) (λ c e. refl) (only-rows o session cube epoch added past each.1)
only-rows o session cube epoch (Post mail (CopyRound from to) ∷ added) past each =
    same-posts o session cube epoch (batches_posted (batches_among added)) past (added ++ past)
    (Post mail (CopyRound from to) ∷ (added ++ past)) (λ c e. refl) (only-rows o session cube epoch added past each.1)
only-rows o session cube epoch (Post mail Flush ∷ added) past each =
    same-posts o session cube epoch (batches_posted (batches_among added)) past (added ++ past)
    (Post mail Flush ∷ (added ++ past)) (λ c e. refl) (only-rows o session cube epoch added past each.1)

-- ---- one box

pub one-box : (o : Opening) (session cube epoch : ℕ) (box : Span) (before after : List ClientCall)
    → ((c e : ℕ) → operations_by_calls o session c after e
    ≡ operations_with c e true (DropBox cube epoch box) (operations_by_calls o session c before e))
    → AddsOperations cube epoch (DropRows box ∷ []) session o before after
one-box o session cube epoch box before after h = record {
  here =
      let posts = operations_by_calls o session cube before epoch in
      h cube epoch
      ∙ (λ i. cond (eq-eqb cube cube refl i && eq-eqb epoch epoch refl i) (DropRows box ∷ posts) posts);
  elsewhere = λ c e away.
      h c e ∙ not-there cube epoch c e true (DropRows box) (operations_by_calls o session c before e) away;
}

module _ {S : Type 0} (fits : Opening → ℕ → ShardCall → Type 0) (stands : Opening → ℕ → ℕ → S → ShardView → Type 0)
    (says : CoreJob → ShardAnswer → JobOutcome → Type 0) (cells : List (CoreCell S)) (caller session : ℕ) where
  pub plain-learns : (own now : List CoreEntry)
      → GoOnByCalls fits stands says cells caller session IsPlainCall own now
      → LearnsThat fits stands says AddsNoOperation cells caller session own now
  plain-learns own now goes = λ o log run es later are.
      let a : AddsCalls fits stands says IsPlainCall o session own es = goes o log run es later are in
      record {
        before = a.before;
        events = a.events;
        adds = λ cube epoch.
            ap (λ (calls : List ClientCall). operations_by_calls o session cube calls epoch) a.calls
            ∙ adds-no-operation o session cube epoch a.added (calls_of session a.before) a.each;
      }
