-- What the posts of a group add to a session's operations.
use Rattle.std.proofs.Common.{◌≡◌, ◌∙◌, ℕ, zero, suc, ◌+◌, ◌≤◌, Bool, true, false, not, List, [], ◌∷◌, ◌++◌, append_assoc, length, replicate, refl, sym, ap, subst, arith, if◌then◌else◌}
use Rattle.std.proofs.lemmas.Bool.{and_parts}
use Rattle.cube_core.specs.BoardCells.{call_job}
use Rattle.core_program.proofs.KnownCalls.{earlier-run}
use Rattle.core_program.specs.Knowing.{IsLaterRun}
use Rattle.core_events.specs.Clients.{calls_of, state_from_calls}
use Rattle.core_events.specs.Events.{Opening, OnDesk, OnNames, Post, Fetch, CloseMail, NoChange, ClientCall, CoreEvent}
use Rattle.core_events.specs.Groups.{JobGroup, has_ended, has_refusal, is_spoiled, kind_of}
use Rattle.core_events.specs.Jobs.{CoreJob}
use Rattle.core_events.specs.Serial.{CubeOperation, operations_with}
use Rattle.core_program.specs.CoreFits.{CoreEntry}
use Rattle.core_serial.specs.OwnOperations.{operations_by_calls}
use Rattle.cube_core.specs.declared.cell.CoreCell.{CoreCell}
use Rattle.cube_core.specs.declared.jobs.JobAnswer.{JobAnswer}
use Rattle.cube_core.specs.declared.shard.ShardCall.{ShardCall}
use Rattle.cube_core.specs.declared.shard.ShardCall.TheVariants as call
use Rattle.cube_values.specs.declared.query.BoundQuery.{BoundQuery}
use Rattle.cube_values.specs.declared.shape.CubeShape.{CubeShape}
use Rattle.cube_values.specs.declared.snapshot.Snapshot.{Snapshot}
use Rattle.cube_values.specs.declared.span.Span.{Span}
use Rattle.job_groups.specs.AskedSome.{posts_among}
use Rattle.job_groups.specs.EachPosted.{HasPostedEach, posts_from}
use Rattle.session_snapshots.specs.KnownHolds.{HoldsWriter}
use Rattle.linked_shards.specs.CellShards.{CoreShardStands}
use Rattle.linked_shards.specs.declared.cell.CoreShard.{CoreShard}
use Rattle.session_groups.specs.GroupOperations.{LearnsOfOperations}
use Rattle.session_groups.specs.ShardGroups.{HasAskedAll}
use Rattle.shard_events.specs.ShardsInRuns.{FitsShard, ShardAnswerSays}

module _ (o : Opening) (session cube epoch : ℕ) where
  abbrev operations : List ClientCall → List CubeOperation
  operations calls = operations_by_calls o session cube calls epoch

  abbrev group : List ClientCall → JobGroup
  group calls = (state_from_calls o session calls).group

  -- Calls that are no posts add none.
  quiet : (later past : List ClientCall) → posts_among later ≡ [] → operations (later ++ past) ≡ operations past
  quiet [] past none = refl
  quiet (Post number job ∷ later) past none = let many = ap (λ (l : List ClientCall). length l) none in absurd (omega (arith, many))
  quiet (OnDesk c ∷ later) past none = quiet later past none
  quiet (OnNames c ∷ later) past none = quiet later past none
  quiet (Fetch number outcome ∷ later) past none = quiet later past none
  quiet (CloseMail number ∷ later) past none = quiet later past none
  quiet (NoChange ∷ later) past none = quiet later past none

  -- Nor do posts of a job that adds none.
  posts-still : (c : ShardCall) → ((begins : Bool) (l : List CubeOperation) → operations_with cube epoch begins (call_job c) l ≡ l)
      → (number n : ℕ) (past : List ClientCall) → operations (posts_from number (replicate n c) ++ past) ≡ operations past
  posts-still c same number zero past = refl
  posts-still c same number (suc n) past =
      ap (λ (l : List ClientCall). operations l) (append_assoc (posts_from (number + 1) (replicate n c)) (Post number (call_job c) ∷ []) past)
      ∙ posts-still c same (number + 1) n (Post number (call_job c) ∷ past)
      ∙ same (has_ended o.shards (group past)) (operations past)

  -- A group is under way once a job is posted.
  under-way : (number : ℕ) (job : CoreJob) (past : List ClientCall) → has_ended o.shards (group (Post number job ∷ past)) ≡ false
  under-way number job past = at (has_ended o.shards (group past))
    where
      at : (b : Bool) → has_ended o.shards (if b then record { kind = kind_of job; waits = number ∷ []; answers = [] }
          else record (group past) { waits = number ∷ (group past).waits }) ≡ false
      at true = refl
      at false = refl

  -- A deletion counts at its group's beginning.
  module _ (place at : ℕ) (shape : CubeShape) (box : Span) where
    abbrev drop : ShardCall
    drop = call.DropBox place shape at box

    later-posts : (number n : ℕ) (past : List ClientCall) → has_ended o.shards (group past) ≡ false
        → operations (posts_from number (replicate n drop) ++ past) ≡ operations past
    later-posts number zero past going = refl
    later-posts number (suc n) past going =
        ap (λ (l : List ClientCall). operations l) (append_assoc (posts_from (number + 1) (replicate n drop)) (Post number (call_job drop) ∷ []) past)
        ∙ later-posts (number + 1) n (Post number (call_job drop) ∷ past) (under-way number (call_job drop) past)
        ∙ ap (λ (b : Bool). operations_with cube epoch b (call_job drop) (operations past)) going

    first-post : (number n : ℕ) (past : List ClientCall) → 1 ≤ n → has_ended o.shards (group past) ≡ true
        → operations (posts_from number (replicate n drop) ++ past) ≡ operations_with cube epoch true (call_job drop) (operations past)
    first-post number zero past some ended = absurd (omega (arith, some))
    first-post number (suc n) past some ended =
        ap (λ (l : List ClientCall). operations l) (append_assoc (posts_from (number + 1) (replicate n drop)) (Post number (call_job drop) ∷ []) past)
        ∙ later-posts (number + 1) n (Post number (call_job drop) ∷ past) (under-way number (call_job drop) past)
        ∙ ap (λ (b : Bool). operations_with cube epoch b (call_job drop) (operations past)) ended

-- By the calls of a group.
by-group : (o : Opening) (session cube epoch : ℕ) (calls : List ShardCall) (answers : List JobAnswer) (own : List CoreEntry) (es : List CoreEvent)
    → (h : HasPostedEach FitsShard CoreShardStands ShardAnswerSays o session calls answers own es)
    → operations_by_calls o session cube (calls_of session es) epoch
    ≡ operations_by_calls o session cube (posts_from 0 calls ++ calls_of session h.asked.before) epoch
by-group o session cube epoch calls answers own es h =
    ap (λ (l : List ClientCall). operations_by_calls o session cube l epoch)
    (h.asked.past ∙ ap (λ (l : List ClientCall). l ++ calls_of session h.asked.before) h.order
    ∙ append_assoc h.later (posts_from 0 calls) (calls_of session h.asked.before))
    ∙ quiet o session cube epoch h.later (posts_from 0 calls ++ calls_of session h.asked.before) h.none

module _ (cells : List (CoreCell CoreShard)) (caller session shards : ℕ) (own now : List CoreEntry) where
  still-learns : (c : ShardCall) → ((cube epoch : ℕ) (begins : Bool) (l : List CubeOperation) → operations_with cube epoch begins (call_job c) l ≡ l)
      → HasAskedAll cells caller session shards c own now → LearnsOfOperations cells caller session (call_job c) own now
  still-learns c same asked o log run es later are =
      let h = asked.learns o log run es later are in record {
        before = h.asked.before;
        events = h.asked.events;
        once = λ cube epoch.
            by-group o session cube epoch (replicate shards c) asked.answers own es h
            ∙ posts-still o session cube epoch c (same cube epoch) 0 shards (calls_of session h.asked.before)
            ∙ sym (same cube epoch true (operations_by_calls o session cube (calls_of session h.asked.before) epoch));
      }

  pub scan-operations : (shape : CubeShape) (query : BoundQuery) (s : Snapshot) → HasAskedAll cells caller session shards (call.Scan shape query s) own now
      → LearnsOfOperations cells caller session (call_job (call.Scan shape query s)) own now
  scan-operations shape query s asked = still-learns (call.Scan shape query s) (λ cube epoch begins l. refl) asked

  pub rollback-operations : (epoch : ℕ) → HasAskedAll cells caller session shards (call.Rollback epoch) own now
      → LearnsOfOperations cells caller session (call_job (call.Rollback epoch)) own now
  rollback-operations epoch asked = still-learns (call.Rollback epoch) (λ cube at begins l. refl) asked

  pub drop-operations : (cube : ℕ) (shape : CubeShape) (box : Span) (s : Snapshot) → 1 ≤ shards
      → HoldsWriter FitsShard CoreShardStands ShardAnswerSays cells caller session own s
      → HasAskedAll cells caller session shards (call.DropBox cube shape s.epoch box) own now
      → LearnsOfOperations cells caller session (call_job (call.DropBox cube shape s.epoch box)) own now
  drop-operations place shape box s some holds asked o log run es later are =
      let h = asked.learns o log run es later are in
      let first =
      earlier-run FitsShard CoreShardStands ShardAnswerSays cells o caller own asked.more.more log run
      (subst (λ (l : List CoreEntry). IsLaterRun FitsShard CoreShardStands ShardAnswerSays cells o caller l log run) asked.more.whole later)
      in
      let w = holds o log run h.asked.before first h.asked.events in
      let g = (state_from_calls o session (calls_of session h.asked.before)).group in
      let ended = (and_parts (has_ended o.shards g) (not (is_spoiled g.kind (has_refusal g.answers))) w.ready.ready).0 in
      record {
        before = h.asked.before;
        events = h.asked.events;
        once = λ cube epoch.
            by-group o session cube epoch (replicate shards (call.DropBox place shape s.epoch box)) asked.answers own es h
            ∙ first-post o session cube epoch place s.epoch shape box 0 shards (calls_of session h.asked.before) some ended;
      }
