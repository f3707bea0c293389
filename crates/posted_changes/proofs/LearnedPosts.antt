-- What a session's calls with its shards add to the operations of its transactions.
use Rattle.std.proofs.Common.{◌≡◌, ◌∙◌, ℕ, List, [], ◌∷◌, ◌++◌, inr, refl, sym, ap, subst}
use Rattle.std.specs.List.{AllByRecursion}
use Rattle.core_agreements.specs.PostsForOperations.{batches_posted}
use Rattle.core_events.specs.Clients.{calls_of}
use Rattle.core_events.specs.Events.{Opening, CoreEvent, ClientCall, OnDesk, OnNames, Post, Fetch, CloseMail, NoChange}
use Rattle.core_events.specs.Jobs.{Append, DropBox, Scan, Delta, Rollback, Purge, CopyRound, Flush}
use Rattle.core_program.specs.CoreFits.{CoreEntry}
use Rattle.cube_core.specs.Links.{AreEventsOf}
use Rattle.cube_core.specs.BoardCells.{IsEntryEvent}
use Rattle.cube_core.specs.declared.cell.CoreCell.{CoreCell}
use Rattle.cube_values.specs.declared.row.CodedRow.{CodedRow}
use Rattle.cube_values.specs.declared.shape.CubeShape.{CubeShape}
use Rattle.job_groups.specs.AskedSome.{posts_among}
use Rattle.linked_shards.specs.CellShards.{CoreShardStands}
use Rattle.linked_shards.specs.declared.cell.CoreShard.{CoreShard}
use Rattle.posted_changes.proofs.ShardedRows.{rows-at}
use Rattle.posted_pasts.proofs.AddedCalls.{only-rows}
use Rattle.posted_pasts.specs.PostsAdded.{AddsAtEpoch, AddsOperations, GoesOnWith, LearnsThat, PostsRowsAt, batches_among}
use Rattle.session_batches.specs.PutRows.{LearnsOfRows}
use Rattle.session_batches.specs.RowPosts.{row_posts}
use Rattle.session_batches.specs.RowsOut.{LearnsOfPostedRows}
use Rattle.session_batches.specs.declared.answers.PutEnd.{PutEnd}
use Rattle.shard_events.specs.ShardsInRuns.{FitsShard, ShardAnswerSays}

-- What holds of the posts among calls holds of all, where it asks nothing of others.
posts-suffice : (cube epoch : ℕ) (calls : List ClientCall) → AllByRecursion (PostsRowsAt cube epoch) (posts_among calls)
    → AllByRecursion (PostsRowsAt cube epoch) calls
posts-suffice cube epoch [] each = tt
posts-suffice cube epoch (Post mail job ∷ calls) each = (each.0, posts-suffice cube epoch calls each.1)
posts-suffice cube epoch (OnDesk c ∷ calls) each = (tt, posts-suffice cube epoch calls each)
posts-suffice cube epoch (OnNames c ∷ calls) each = (tt, posts-suffice cube epoch calls each)
posts-suffice cube epoch (Fetch mail said ∷ calls) each = (tt, posts-suffice cube epoch calls each)
posts-suffice cube epoch (CloseMail mail ∷ calls) each = (tt, posts-suffice cube epoch calls each)
posts-suffice cube epoch (NoChange ∷ calls) each = (tt, posts-suffice cube epoch calls each)

same-batches : (calls : List ClientCall) → batches_among calls ≡ batches_among (posts_among calls)
same-batches [] = refl
same-batches (Post mail (Append cube epoch rows) ∷ calls) =
    ap (λ (batches : List (List CodedRow)). rows ∷ batches) (same-batches calls)
same-batches (Post mail (DropBox cube epoch box) ∷ calls) = same-batches calls
same-batches (OnDesk c ∷ calls) = same-batches calls
same-batches (OnNames c ∷ calls) = same-batches calls
same-batches (Fetch mail said ∷ calls) = same-batches calls
same-batches (CloseMail mail ∷ calls) = same-batches calls
same-batches (NoChange ∷ calls) = same-batches calls
same-batches (Post mail (Scan query s) ∷ calls) = same-batches calls
same-batches (Post mail (Delta query from to) ∷ calls) = same-batches calls
same-batches (Post mail (Rollback at) ∷ calls) = same-batches calls
same-batches (Post mail (Purge at) ∷ calls) = same-batches calls
same-batches (Post mail (CopyRound from to) ∷ calls) = same-batches calls
same-batches (Post mail Flush ∷ calls) = same-batches calls

-- By calls that post just the rows of a cube, each to the shard of its brick, and nothing else.
posts-add : (o : Opening) (session shards cube epoch : ℕ) (shape : CubeShape) (rows : List CodedRow)
    (own : List CoreEntry) (before es : List CoreEvent) (added : List ClientCall)
    → AreEventsOf (IsEntryEvent FitsShard CoreShardStands ShardAnswerSays o) own before
    → calls_of session es ≡ added ++ calls_of session before
    → posts_among added ≡ row_posts shape.shape.sizes shards cube epoch rows
    → GoesOnWith FitsShard CoreShardStands ShardAnswerSays
    (AddsOperations cube epoch (batches_posted (batches_among (row_posts shape.shape.sizes shards cube epoch rows)))) o
    session own es
posts-add o session shards cube epoch shape rows own before es added events is posted =
    let posts = row_posts shape.shape.sizes shards cube epoch rows in
    let past = calls_of session before in
    let each : AllByRecursion (PostsRowsAt cube epoch) added =
    posts-suffice cube epoch added
    (subst (λ (calls : List ClientCall). AllByRecursion (PostsRowsAt cube epoch) calls) (sym posted)
    (rows-at shape.shape.sizes shards cube epoch rows))
    in
    let same : batches_among added ≡ batches_among posts = same-batches added ∙ ap batches_among posted in
    record {
      before = before;
      events = events;
      adds =
          coe 1 0 (i. AddsOperations cube epoch (batches_posted (batches_among posts)) session o past (is i))
          (coe 0 1 (i. AddsOperations cube epoch (batches_posted (same i)) session o past (added ++ past))
          (only-rows o session cube epoch added past each));
    }

module _ (cells : List (CoreCell CoreShard)) (caller session : ℕ) where
  pub rows-learned : (shards cube epoch : ℕ) (shape : CubeShape) (rows : List CodedRow) (told : PutEnd)
      (own now : List CoreEntry) → LearnsOfRows cells caller session shards cube shape epoch rows told own now
      → LearnsThat FitsShard CoreShardStands ShardAnswerSays
      (AddsOperations cube epoch
      (batches_posted (batches_among (row_posts shape.shape.sizes shards cube epoch rows)))) cells caller session own now
  rows-learned shards cube epoch shape rows told own now learns = λ o log run es later are.
      let h = learns o log run es later are in
      posts-add o session shards cube epoch shape rows own h.before es h.added h.events h.past h.posted

  pub posts-learned : (shards cube epoch : ℕ) (shape : CubeShape) (rows : List CodedRow) (own now : List CoreEntry)
      → LearnsOfPostedRows cells caller session shards cube shape epoch rows own now
      → LearnsThat FitsShard CoreShardStands ShardAnswerSays
      (AddsOperations cube epoch
      (batches_posted (batches_among (row_posts shape.shape.sizes shards cube epoch rows)))) cells caller session own now
  posts-learned shards cube epoch shape rows own now learns = λ o log run es later are.
      let h = learns o log run es later are in
      posts-add o session shards cube epoch shape rows own h.before es h.added h.events h.past h.posted

  pub nothing-elsewhere : (shards cube epoch : ℕ) (shape : CubeShape) (rows : List CodedRow) (told : PutEnd)
      (own now : List CoreEntry) → LearnsOfRows cells caller session shards cube shape epoch rows told own now
      → LearnsThat FitsShard CoreShardStands ShardAnswerSays (AddsAtEpoch epoch) cells caller session own now
  nothing-elsewhere shards cube epoch shape rows told own now learns = λ o log run es later are.
      let g = rows-learned shards cube epoch shape rows told own now learns o log run es later are in
      record { before = g.before; events = g.events; adds = λ c e differ. g.adds.elsewhere c e (inr differ) }
