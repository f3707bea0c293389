-- What is so of a session's calls from one moment to the next is so over both.
use Rattle.std.proofs.Common.{◌≡◌, ◌∙◌, ℕ, List, [], ◌∷◌, ◌++◌, map, Result, Ok, Err, IfOk, OnErr, refl, sym, ap, subst, append_assoc, append-nil, reverse}
use Rattle.std.specs.List.{AllByRecursion}
use Rattle.std.proofs.lemmas.Grind.{reverse_onto}
use mathlib.Core.List.{IsPrefix}
use Rattle.core_program.specs.ClientCalls.{names_entry}
use Rattle.core_cells.specs.declared.names.NamesAnswer.{NamesAnswer}
use Rattle.core_cells.specs.declared.names.NamesAnswer.TheVariants as told
use Rattle.core_cells.specs.declared.names.NamesCall.{NamesCall}
use Rattle.core_cells.specs.declared.names.NamesCall.TheVariants as names
use Rattle.core_events.specs.Clients.{calls_of}
use Rattle.core_events.specs.Events.{Opening, OnDesk, OnNames, Post, Fetch, CloseMail, NoChange, ClientCall, CoreEvent}
use Rattle.core_events.specs.Jobs.{JobOutcome}
use Rattle.cube_core.specs.NamesEvents.{names_event}
use Rattle.core_names.specs.AskedNames.{GoOnByNames}
use Rattle.core_names.proofs.HeldOn.{by-names}
use Rattle.core_program.proofs.KnownCalls.{earlier-run, names-learn}
use Rattle.core_program.specs.CoreFits.{CoreEntry}
use Rattle.core_program.specs.Knowing.{IsClientOf, IsLaterRun}
use Rattle.core_states.proofs.LeftCalls.{all-of-both, longer-front}
use Rattle.core_states.specs.LeftBehind.{AddsCalls, AsksForNone, GoOnByCalls}
use Rattle.cube_core.specs.declared.cell.CoreCell.{CoreCell}
use Rattle.cube_values.specs.declared.row.CodedRow.{CodedRow}
use Rattle.cube_values.specs.declared.shape.CubeShape.{CubeShape}
use Rattle.cube_values.specs.declared.shape.Size.{Size}
use Rattle.job_groups.specs.AskedEach.{HasMore, IsGroupCall}
use Rattle.job_groups.specs.AskedSome.{posts_among}
use Rattle.job_groups.specs.PostedSome.{IsFetchCall}
use Rattle.linked_shards.specs.CellShards.{CoreShardStands}
use Rattle.shard_events.specs.ShardsInRuns.{FitsShard, ShardAnswerSays}
use Rattle.linked_shards.specs.declared.cell.CoreShard.{CoreShard}
use Rattle.posted_pasts.proofs.AddedCalls.{without-changes}
use Rattle.posted_pasts.specs.PostsAdded.{AddsNoOperation, GoesOnWith, LearnsThat, PostsNoChange}
use Rattle.session_batches.specs.RowPosts.{row_post, shards_with_rows}
use Rattle.session_batches.specs.RowsOut.{LearnsOfFetchedRows, LearnsOfPostedRows}
use Rattle.session_batches.specs.declared.answers.PutEnd.{PutEnd}
use Rattle.loaded_batches.specs.LoadingCalls.{GoesOnLoading, IsLoadCall}

-- ---- which calls are made

-- Calls of a group are such where its posts are.
group-loads : (cube epoch : ℕ) (calls : List ClientCall) → AllByRecursion IsGroupCall calls
    → AllByRecursion (IsLoadCall cube epoch) (posts_among calls) → AllByRecursion (IsLoadCall cube epoch) calls
group-loads cube epoch [] only posts = tt
group-loads cube epoch (Post mail job ∷ calls) only posts = (posts.0, group-loads cube epoch calls only.1 posts.1)
group-loads cube epoch (Fetch mail outcome ∷ calls) only posts = (tt, group-loads cube epoch calls only.1 posts)
group-loads cube epoch (NoChange ∷ calls) only posts = (tt, group-loads cube epoch calls only.1 posts)
group-loads cube epoch (OnDesk c ∷ calls) only posts = absurd only.0
group-loads cube epoch (OnNames c ∷ calls) only posts = absurd only.0
group-loads cube epoch (CloseMail mail ∷ calls) only posts = absurd only.0

group-asks-none : (calls : List ClientCall) → AllByRecursion IsGroupCall calls → AllByRecursion AsksForNone calls
group-asks-none [] only = tt
group-asks-none (Post mail job ∷ calls) only = (tt, group-asks-none calls only.1)
group-asks-none (Fetch mail outcome ∷ calls) only = (tt, group-asks-none calls only.1)
group-asks-none (NoChange ∷ calls) only = (tt, group-asks-none calls only.1)
group-asks-none (OnDesk c ∷ calls) only = absurd only.0
group-asks-none (OnNames c ∷ calls) only = absurd only.0
group-asks-none (CloseMail mail ∷ calls) only = absurd only.0

-- The posts of rows are.
posts-load : (sizes : List Size) (shards cube epoch : ℕ) (rows : List CodedRow) (ks : List ℕ)
    → AllByRecursion (IsLoadCall cube epoch) (reverse (map (row_post sizes shards cube epoch rows) ks))
posts-load sizes shards cube epoch rows [] = tt
posts-load sizes shards cube epoch rows (k ∷ ks) =
    let post : ℕ → ClientCall = row_post sizes shards cube epoch rows in
    coe 1 0 (i. AllByRecursion (IsLoadCall cube epoch) (reverse_onto (map post ks) (post k) [] i))
    (all-of-both (IsLoadCall cube epoch) (reverse (map post ks)) (post k ∷ [])
    (posts-load sizes shards cube epoch rows ks) ((refl, refl), tt))

names-load : (cube epoch : ℕ) (c : NamesCall) (said : NamesAnswer) → IsLoadCall cube epoch (names_event c said)
names-load cube epoch (names.Encode place dim shape name) (told.Coded code) = tt
names-load cube epoch (names.Find place dim name) (told.Found number) = tt
names-load cube epoch (names.CopyFrom place dim from) (told.Copied copied) = tt
names-load cube epoch c said = tt

-- Fetches are whatever a fetch is, and a call that changes nothing.
fetches-are : (Is : ClientCall → Type 0) → ((mail : ℕ) (outcome : JobOutcome) → Is (Fetch mail outcome)) → Is NoChange
    → (calls : List ClientCall) → AllByRecursion IsFetchCall calls → AllByRecursion Is calls
fetches-are Is fetch none [] only = tt
fetches-are Is fetch none (Fetch mail outcome ∷ calls) only =
    (fetch mail outcome, fetches-are Is fetch none calls only.1)
fetches-are Is fetch none (NoChange ∷ calls) only = (none, fetches-are Is fetch none calls only.1)
fetches-are Is fetch none (Post mail job ∷ calls) only = absurd only.0
fetches-are Is fetch none (OnDesk c ∷ calls) only = absurd only.0
fetches-are Is fetch none (OnNames c ∷ calls) only = absurd only.0
fetches-are Is fetch none (CloseMail mail ∷ calls) only = absurd only.0

-- ---- moments

-- What holds by two values holds by those that they are.
pub moved : {A B : Type 0} (P : A → B → Type 0) {a x : A} {b y : B} → a ≡ x → b ≡ y → P a b → P x y
moved P e f h = coe 0 1 (i. P (e i) (f i)) h

module _ (cells : List (CoreCell CoreShard)) (caller session : ℕ) where
  abbrev Later : Opening → List CoreEntry → List CoreEntry → List CoreEvent → Type 0
  Later o own log run = IsLaterRun FitsShard CoreShardStands ShardAnswerSays cells o caller own log run

  pub later-before : (o : Opening) (own now log : List CoreEntry) (run : List CoreEvent) → IsPrefix own now
      → Later o now log run → Later o own log run
  later-before o own now log run more later =
      earlier-run FitsShard CoreShardStands ShardAnswerSays cells o caller own more.0 log run
      (subst (λ (l : List CoreEntry). Later o l log run) (sym more.1) later)

  abbrev GoOn : (ClientCall → Type 0) → List CoreEntry → List CoreEntry → Type 0
  GoOn Is own now = GoOnByCalls FitsShard CoreShardStands ShardAnswerSays cells caller session Is own now

  pub calls-both : (Is : ClientCall → Type 0) (own mid now : List CoreEntry) → IsPrefix mid now → GoOn Is own mid
      → GoOn Is mid now → GoOn Is own now
  calls-both Is own mid now more one two = λ o log run es later are.
      let last : AddsCalls FitsShard CoreShardStands ShardAnswerSays Is o session mid es = two o log run es later are in
      let first : AddsCalls FitsShard CoreShardStands ShardAnswerSays Is o session own last.before =
      one o log run last.before (later-before o mid now log run more later) last.events
      in
      record {
        before = first.before;
        events = first.events;
        added = last.added ++ first.added;
        calls =
            last.calls
            ∙ ap (λ (l : List ClientCall). last.added ++ l) first.calls
            ∙ sym (append_assoc last.added first.added (calls_of session first.before));
        each = all-of-both Is last.added first.added last.each first.each;
      }

  abbrev Adding : Type 1
  Adding = ℕ → Opening → List ClientCall → List ClientCall → Type 0

  abbrev Learns : Adding → List CoreEntry → List CoreEntry → Type 0
  Learns Adds own now = LearnsThat FitsShard CoreShardStands ShardAnswerSays Adds cells caller session own now

  pub learns-both : (First Second Both : Adding)
      → ((o : Opening) (a b c : List ClientCall) → First session o a b → Second session o b c → Both session o a c)
      → (own mid now : List CoreEntry) → IsPrefix mid now → Learns First own mid → Learns Second mid now
      → Learns Both own now
  learns-both First Second Both join own mid now more one two = λ o log run es later are.
      let last : GoesOnWith FitsShard CoreShardStands ShardAnswerSays Second o session mid es =
      two o log run es later are
      in
      let first : GoesOnWith FitsShard CoreShardStands ShardAnswerSays First o session own last.before =
      one o log run last.before (later-before o mid now log run more later) last.events
      in
      record {
        before = first.before;
        events = first.events;
        adds =
            join o (calls_of session first.before) (calls_of session last.before) (calls_of session es) first.adds
            last.adds;
      }

  module _ (cube epoch : ℕ) where
    abbrev Loading : List CoreEntry → List CoreEntry → Type 0
    Loading own now = GoesOnLoading cells caller session cube epoch own now

    pub loading-none : (own : List CoreEntry) → Loading own own
    loading-none own = record {
      more = ([], append-nil own);
      calls = λ o log run es later are. record { before = es; events = are; added = []; calls = refl; each = tt };
    }

    pub loading-both : (own mid now : List CoreEntry) → Loading own mid → Loading mid now → Loading own now
    loading-both own mid now one two = record {
      more = longer-front own mid now one.more two.more;
      calls = calls-both (IsLoadCall cube epoch) own mid now two.more one.calls two.calls;
    }

    -- By calls on the names.
    loading-by-one : IsClientOf FitsShard CoreShardStands ShardAnswerSays cells caller session
        → (own : List CoreEntry) (c : NamesCall) (said : NamesAnswer)
        → Loading own (own ++ names_entry caller c said ∷ [])
    loading-by-one acts own c said = record {
      more = (names_entry caller c said ∷ [], refl);
      calls = λ o log run es later are.
          let g =
          names-learn FitsShard CoreShardStands ShardAnswerSays cells caller session acts own c said o log es later.opens
          are
          in
          record {
            before = g.before;
            events = g.events;
            added = names_event c said ∷ [];
            calls = g.calls;
            each = (names-load cube epoch c said, tt);
          };
    }

    pub loading-by-names : IsClientOf FitsShard CoreShardStands ShardAnswerSays cells caller session
        → (own now : List CoreEntry) → GoOnByNames caller own now → Loading own now
    loading-by-names acts own now asks =
        by-names caller (λ l. Loading own l)
        (λ l c said h. loading-both own l (l ++ names_entry caller c said ∷ []) h (loading-by-one acts l c said))
        own now asks (loading-none own)

    -- By rows that are posted.
    loading-by-rows : (shards : ℕ) (shape : CubeShape) (rows : List CodedRow) (own now : List CoreEntry)
        → HasMore own now → LearnsOfPostedRows cells caller session shards cube shape epoch rows own now
        → Loading own now
    loading-by-rows shards shape rows own now more learns = record {
      more = (more.more, sym more.whole);
      calls = λ o log run es later are.
          let h = learns o log run es later are in
          record {
            before = h.before;
            events = h.events;
            added = h.added;
            calls = h.past;
            each =
                group-loads cube epoch h.added h.only
                (subst (λ (calls : List ClientCall). AllByRecursion (IsLoadCall cube epoch) calls) (sym h.posted)
                (posts-load shape.shape.sizes shards cube epoch rows (shards_with_rows shape.shape.sizes shards rows)));
          };
    }

    -- By a call that posts rows, or wants memory.
    pub loading-by-posts : {R E : Type 0} (shards : ℕ) (shape : CubeShape) (rows : List CodedRow)
        (own now : List CoreEntry) (result : Result R E) → HasMore own now
        → IfOk result (λ out. LearnsOfPostedRows cells caller session shards cube shape epoch rows own now)
        → OnErr result (now ≡ own) → Loading own now
    loading-by-posts shards shape rows own now (Ok out) more learns none =
        loading-by-rows shards shape rows own now more learns
    loading-by-posts shards shape rows own now (Err e) more learns none =
        subst (λ (l : List CoreEntry). Loading own l) (sym none) (loading-none own)

    -- Such a call asks for no text.
    pub none-by-posts : {R E : Type 0} (shards : ℕ) (shape : CubeShape) (rows : List CodedRow)
        (own now : List CoreEntry) (result : Result R E)
        → IfOk result (λ out. LearnsOfPostedRows cells caller session shards cube shape epoch rows own now)
        → OnErr result (now ≡ own) → GoOn AsksForNone own now
    none-by-posts shards shape rows own now (Ok out) learns none = λ o log run es later are.
        let h = learns o log run es later are in
        record {
          before = h.before;
          events = h.events;
          added = h.added;
          calls = h.past;
          each = group-asks-none h.added h.only;
        }
    none-by-posts shards shape rows own now (Err e) learns none =
        subst (λ (l : List CoreEntry). GoOn AsksForNone own l) (sym none)
        (λ o log run es later are. record { before = es; events = are; added = []; calls = refl; each = tt })

    -- By fetches.
    pub loading-by-fetches : (shards : List ℕ) (said : PutEnd) (own now : List CoreEntry) → HasMore own now
        → LearnsOfFetchedRows cells caller session shards said own now → Loading own now
    loading-by-fetches shards said own now more learns = record {
      more = (more.more, sym more.whole);
      calls = λ o log run es later are.
          let h = learns o log run es later are in
          record {
            before = h.before;
            events = h.events;
            added = h.added;
            calls = h.past;
            each = fetches-are (IsLoadCall cube epoch) (λ mail outcome. tt) tt h.added h.only;
          };
    }

  -- Fetches ask for no text, and post nothing.
  pub none-by-fetches : (shards : List ℕ) (said : PutEnd) (own now : List CoreEntry)
      → LearnsOfFetchedRows cells caller session shards said own now → GoOn AsksForNone own now
  none-by-fetches shards said own now learns = λ o log run es later are.
      let h = learns o log run es later are in
      record {
        before = h.before;
        events = h.events;
        added = h.added;
        calls = h.past;
        each = fetches-are AsksForNone (λ mail outcome. tt) tt h.added h.only;
      }

  pub fetches-add-none : (shards : List ℕ) (said : PutEnd) (own now : List CoreEntry)
      → LearnsOfFetchedRows cells caller session shards said own now → Learns AddsNoOperation own now
  fetches-add-none shards said own now learns = λ o log run es later are.
      let h = learns o log run es later are in
      record {
        before = h.before;
        events = h.events;
        adds =
            coe 1 0 (i. AddsNoOperation session o (calls_of session h.before) (h.past i))
            (without-changes o session h.added (calls_of session h.before)
            (fetches-are PostsNoChange (λ mail outcome. tt) tt h.added h.only));
      }
