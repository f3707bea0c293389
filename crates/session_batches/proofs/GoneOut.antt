-- Rows that are posted are out, and what comes of them once their answers are fetched.
use Rattle.std.proofs.Common.{◌≡◌, ◌∙◌, ℕ, ◌<◌, ◌≤◌, nat_eq, All, List, [], ◌∷◌, length, Some, refl, sym, ap, subst, arith}
use Rattle.std.proofs.lemmas.Option.{none-some, slice_get_within}
use Rattle.std.specs.List.{IsDistinct}
use Rattle.cube_core.specs.Links.{AreEventsOf}
use Rattle.cube_core.specs.BoardCells.{IsEntryEvent, call_job}
use Rattle.cube_core.specs.HoldStates.{IsWriting}
use Rattle.cube_core.specs.declared.jobs.JobAnswer.{JobAnswer}
use Rattle.cube_core.specs.declared.shard.ShardCall.{ShardCall}
use Rattle.cube_core.specs.declared.shard.ShardCall.TheVariants as shard
use Rattle.cube_values.specs.declared.snapshot.Snapshot.{Snapshot}
use Rattle.core_events.specs.Clients.{ClientState, calls_of, state_from_calls}
use Rattle.core_events.specs.Events.{Opening, ClientCall, CoreEvent}
use Rattle.core_events.specs.Groups.{GroupKind, JobGroup}
use Rattle.core_events.specs.Jobs.{Append, JobOutcome}
use Rattle.core_program.specs.CoreFits.{CoreEntry}
use Rattle.core_program.specs.Knowing.{last_posted}
use Rattle.job_groups.proofs.GroupLoops.{some-at}
use Rattle.job_groups.specs.AskedEach.{with_group}
use Rattle.job_groups.specs.AskedSome.{posts_to}
use Rattle.job_groups.specs.PostedSome.{AwaitsSome, HasFetchedSome, HasPostedSome, group_out, group_with, waits_of}
use Rattle.linked_shards.specs.CellShards.{CoreShardStands}
use Rattle.shard_events.specs.ShardsInRuns.{FitsShard, ShardAnswerSays}
use Rattle.session_batches.proofs.Appending.{append-at, kind-of-all}
use Rattle.session_batches.proofs.Putting.{IsLeftBy, RefusedLaw, SpoiledLaw, WrittenLaw, left-with}
use Rattle.session_batches.proofs.Refusing.{refusals-same, told-append}
use Rattle.session_batches.specs.BatchCalls.{AreAppends, IsAppend}
use Rattle.session_batches.specs.PutRows.{with_answers}
use Rattle.session_batches.specs.Refusals.{first_refusal, put_by_answer}
use Rattle.session_batches.specs.RowsOut.{HasAppendLast, HasFetchedRows, HasPostedRows, HasRowsOut, MayBeFetched, rows_group, with_rows_out}
use Rattle.session_batches.specs.declared.rows_out.RowsOut.{RowsOut}
use Rattle.session_batches.specs.declared.answers.PutEnd.{PutEnd}
use Rattle.session_batches.specs.declared.answers.PutEnd.TheVariants as put

append-last : (calls : List ClientCall) (number : ℕ) (c : ShardCall) → IsAppend c
    → last_posted number calls ≡ Some (call_job c) → HasAppendLast number calls
append-last calls number (shard.Append cube shape epoch rows) is last =
    record { cube = cube; epoch = epoch; rows = rows.rows; is = last }
append-last calls number c is last = absurd is

out-by-kind : (numbers : List ℕ) (calls : List ShardCall) (k : ClientState) → 1 ≤ length numbers
    → length calls ≡ length numbers → AreAppends calls
    → with_group (group_out numbers calls) k ≡ with_rows_out numbers k
out-by-kind [] calls k some each are = absurd (omega (arith, some))
out-by-kind (n ∷ numbers) calls k some each are =
    ap (λ (kind : GroupKind). with_group (record { kind = kind; waits = waits_of (n ∷ numbers); answers = [] }) k)
    (kind-of-all calls (omega (arith, each)) are)

group-of-out : (numbers : List ℕ) (k : ClientState) → 1 ≤ length numbers
    → (with_rows_out numbers k).group ≡ rows_group numbers
group-of-out [] k some = absurd (omega (arith, some))
group-of-out (n ∷ numbers) k some = refl

answers-of-out : (numbers : List ℕ) (outcomes : List JobOutcome) (k : ClientState) → 1 ≤ length numbers
    → with_group (group_with numbers outcomes (rows_group numbers)) k ≡ with_answers numbers outcomes k
answers-of-out [] outcomes k some = absurd (omega (arith, some))
answers-of-out (n ∷ numbers) outcomes k some = refl

answers-behind : (numbers : List ℕ) (outcomes : List JobOutcome) (k : ClientState)
    → with_answers numbers outcomes (with_rows_out numbers k) ≡ with_answers numbers outcomes k
answers-behind [] outcomes k = refl
answers-behind (n ∷ numbers) outcomes k = refl

pub none-once : IsDistinct nat_eq []
unfolding IsDistinct
none-once = tt

pub none-to-fetch : (shards : ℕ) (out : RowsOut) → out.shards.items ≡ [] → out.answers.items ≡ [] → MayBeFetched shards out
none-to-fetch shards out none empty = record {
  below = subst (All (λ (shard : ℕ). shard < shards)) (sym none) (λ k number low. absurd (omega (arith, low)));
  once = subst (IsDistinct nat_eq) (sym none) none-once;
  empty = empty;
  room = let long = ap (λ (l : List ℕ). length l) none in omega (arith, long);
}

module _ (o : Opening) (session : ℕ) where
  abbrev state : List ClientCall → ClientState
  state calls = state_from_calls o session calls

  -- ---- posted

  pub none-posted-rows : (numbers : List ℕ) (calls : List ShardCall) (own : List CoreEntry) (es : List CoreEvent)
      → length numbers ≡ 0 → AreEventsOf (IsEntryEvent FitsShard CoreShardStands ShardAnswerSays o) own es
      → HasPostedRows numbers (posts_to numbers calls) o session own es
  none-posted-rows (n ∷ numbers) calls own es none events = absurd (omega (arith, none))
  none-posted-rows [] calls own es none events = record {
    before = es;
    events = events;
    added = [];
    whole = refl;
    past = refl;
    only = tt;
    posted = refl;
    group = refl;
    appends = λ place number at. absurd (none-some number at);
  }

  pub some-posted-rows : (numbers : List ℕ) (calls : List ShardCall) (own : List CoreEntry) (es : List CoreEvent)
      → 1 ≤ length numbers → length calls ≡ length numbers → AreAppends calls
      → HasPostedSome FitsShard CoreShardStands ShardAnswerSays numbers calls o session own es
      → HasPostedRows numbers (posts_to numbers calls) o session own es
  some-posted-rows numbers calls own es some each are p = record {
    before = p.before;
    events = p.events;
    added = p.added;
    whole = p.whole;
    past = p.past;
    only = p.only;
    posted = p.posts;
    group = p.group ∙ out-by-kind numbers calls (state (calls_of session p.before)) some each are;
    appends = λ place number at.
        let low = slice_get_within numbers place number at in
        let c = some-at calls place (omega (arith, low, each)) in
        append-last (calls_of session es) number c.0 (append-at calls place c.0 are c.1) (p.last place number c.0 at c.1);
  }

  pub rows-out : (writer : Snapshot) (numbers : List ℕ) (posts : List ClientCall) (own : List CoreEntry)
      (es : List CoreEvent) → (h : HasPostedRows numbers posts o session own es)
      → IsWriting o session writer (state (calls_of session h.before))
      → HasRowsOut session writer numbers o (calls_of session es)
  rows-out writer numbers posts own es h writes = record {
    before = state (calls_of session h.before);
    writes = writes;
    state = h.group;
    appends = h.appends;
  }

  -- ---- out

  -- A session that writes has none out.
  pub none-out : (writer : Snapshot) (calls : List ClientCall) → IsWriting o session writer (state calls)
      → HasRowsOut session writer [] o calls
  none-out writer calls writes = record {
    before = state calls;
    writes = writes;
    state = refl;
    appends = λ place number at. absurd (none-some number at);
  }

  group-waits : (writer : Snapshot) (numbers : List ℕ) (calls : List ClientCall) → 1 ≤ length numbers
      → HasRowsOut session writer numbers o calls → (state calls).group ≡ rows_group numbers
  group-waits writer numbers calls some h =
      ap (λ (k : ClientState). k.group) h.state ∙ group-of-out numbers h.before some

  pub awaits-rows : (writer : Snapshot) (numbers : List ℕ) (calls : List ClientCall) → 1 ≤ length numbers
      → HasRowsOut session writer numbers o calls → AwaitsSome session numbers o calls
  awaits-rows writer numbers calls some h = record {
    waits = ap (λ (g : JobGroup). g.waits) (group-waits writer numbers calls some h);
    jobs = λ same. absurd (let e = sym (ap (λ (g : JobGroup). g.kind) (group-waits writer numbers calls some h)) ∙ same in cc);
  }

  -- ---- fetched

  pub none-fetched-rows : (numbers : List ℕ) (own : List CoreEntry) (es : List CoreEvent) → length numbers ≡ 0
      → AreEventsOf (IsEntryEvent FitsShard CoreShardStands ShardAnswerSays o) own es
      → HasFetchedRows numbers put.Done o session own es
  none-fetched-rows (n ∷ numbers) own es none events = absurd (omega (arith, none))
  none-fetched-rows [] own es none events = record {
    before = es;
    events = events;
    added = [];
    whole = refl;
    past = refl;
    only = tt;
    outcomes = [];
    each = refl;
    tells = refl;
    group = refl;
  }

  pub some-fetched-rows : (writer : Snapshot) (numbers : List ℕ) (answers : List JobAnswer) (own : List CoreEntry) (es : List CoreEvent)
      → 1 ≤ length numbers → length answers ≡ length numbers
      → (f : HasFetchedSome FitsShard CoreShardStands ShardAnswerSays numbers o session answers own es)
      → HasRowsOut session writer numbers o (calls_of session f.before)
      → HasFetchedRows numbers (first_refusal put_by_answer numbers answers) o session own es
  some-fetched-rows writer numbers answers own es some said_all f h = record {
    before = f.before;
    events = f.events;
    added = f.added;
    whole = f.whole;
    past = f.past;
    only = f.only;
    outcomes = f.outcomes;
    each = f.each;
    tells =
        refusals-same numbers answers f.outcomes said_all f.each
        (λ place n said outcome at told there.
        let a = h.appends place n at in
        told-append a.cube a.epoch a.rows said outcome n
        (f.stand place n (Append a.cube a.epoch a.rows) said outcome at a.is told there));
    group =
        f.group
        ∙ ap (λ (g : JobGroup). with_group (group_with numbers f.outcomes g) (state (calls_of session f.before)))
        (group-waits writer numbers (calls_of session f.before) some h)
        ∙ answers-of-out numbers f.outcomes (state (calls_of session f.before)) some;
  }

  pub left-by-fetches : (writer : Snapshot) (refused : RefusedLaw)
      (written : WrittenLaw) (spoiled : SpoiledLaw) (numbers : List ℕ)
      (told : PutEnd) (own : List CoreEntry) (es : List CoreEvent)
      → (f : HasFetchedRows numbers told o session own es)
      → HasRowsOut session writer numbers o (calls_of session f.before)
      → IsLeftBy told o session writer (state (calls_of session es))
  left-by-fetches writer refused written spoiled numbers told own es f h =
      subst (λ (k : ClientState). IsLeftBy told o session writer k)
      (sym (f.group ∙ ap (λ (k : ClientState). with_answers numbers f.outcomes k) h.state
      ∙ answers-behind numbers f.outcomes h.before))
      (left-with o session writer refused written spoiled numbers f.outcomes told h.before f.each f.tells h.writes)
