-- Batches that calls add to the operations of a transaction, one part after the other.
use Rattle.std.proofs.Common.{◌≡◌, ◌∙◌, ℕ, List, [], ◌∷◌, ◌++◌, map, Result, Ok, Err, IfOk, refl, sym, ap, append_assoc}
use Rattle.std.specs.List.{AllByRecursion}
use Rattle.std.specs.List.Sorted.{IsPermutation}
use Rattle.std.proofs.lemmas.List.{map-append}
use Rattle.std.proofs.lemmas.List.Sorted.{IsPermutation-append, IsPermutation-append_comm, IsPermutation-refl, IsPermutation-trans}
use mathlib.Core.List.{IsPrefix}
use Rattle.core_agreements.specs.PostsForOperations.{batches_posted, rows_of_batches}
use Rattle.core_events.specs.Clients.{calls_of}
use Rattle.core_events.specs.Events.{Opening, OnNames, NoChange, ClientCall}
use Rattle.core_events.specs.Serial.{CubeOperation, PutRows}
use Rattle.core_names.specs.AskedNames.{GoOnByNames}
use Rattle.core_names.specs.CallsOnNames.{IsCallOnNames}
use Rattle.core_names.proofs.PlainNames.{left-by-names}
use Rattle.core_program.specs.CoreFits.{CoreEntry}
use Rattle.core_program.specs.Knowing.{IsClientOf}
use Rattle.core_serial.specs.OwnOperations.{operations_by_calls}
use Rattle.core_states.proofs.LeftCalls.{all-of-both}
use Rattle.core_states.specs.LeftBehind.{AddsCalls}
use Rattle.cube_core.specs.declared.cell.CoreCell.{CoreCell}
use Rattle.cube_values.specs.declared.row.CodedRow.{CodedRow}
use Rattle.cube_values.specs.declared.row.StoredRow.{StoredRow}
use Rattle.linked_shards.specs.CellShards.{CoreShardStands}
use Rattle.shard_events.specs.ShardsInRuns.{FitsShard, ShardAnswerSays}
use Rattle.linked_shards.specs.declared.cell.CoreShard.{CoreShard}
use Rattle.posted_pasts.proofs.AddedCalls.{without-changes}
use Rattle.posted_pasts.specs.PostsAdded.{AddsNoOperation, AddsOperations, LearnsThat, PostsNoChange, batches_among}
use Rattle.query_plan.specs.Ties.{StandForValues, stored_for}
use Rattle.cube_values.specs.declared.shape.CubeShape.{CubeShape}
use Rattle.session_batches.specs.RowPosts.{row_posts}
use Rattle.session_batches.specs.RowsOut.{LearnsOfPostedRows}
use Rattle.loaded_batches.specs.LoadingCalls.{ArePosted, StandAlike}
use Rattle.loaded_batches.proofs.LoadingMoments.{learns-both}

-- ---- operations

none-then : (session cube epoch : ℕ) (added : List CubeOperation) (o : Opening) (a b c : List ClientCall)
    → AddsNoOperation session o a b → AddsOperations cube epoch added session o b c
    → AddsOperations cube epoch added session o a c
none-then session cube epoch added o a b c none adds = record {
  here = adds.here ∙ ap (λ (l : List CubeOperation). added ++ l) (none cube epoch);
  elsewhere = λ x e away. adds.elsewhere x e away ∙ none x e;
}

then-none : (session cube epoch : ℕ) (added : List CubeOperation) (o : Opening) (a b c : List ClientCall)
    → AddsOperations cube epoch added session o a b → AddsNoOperation session o b c
    → AddsOperations cube epoch added session o a c
then-none session cube epoch added o a b c adds none = record {
  here = none cube epoch ∙ adds.here;
  elsewhere = λ x e away. none x e ∙ adds.elsewhere x e away;
}

none-both : (session : ℕ) (o : Opening) (a b c : List ClientCall) → AddsNoOperation session o a b
    → AddsNoOperation session o b c → AddsNoOperation session o a c
none-both session o a b c one two cube epoch = two cube epoch ∙ one cube epoch

then-more : (session cube epoch : ℕ) (first second : List CubeOperation) (o : Opening) (a b c : List ClientCall)
    → AddsOperations cube epoch first session o a b → AddsOperations cube epoch second session o b c
    → AddsOperations cube epoch (second ++ first) session o a c
then-more session cube epoch first second o a b c one two = record {
  here =
      two.here ∙ ap (λ (l : List CubeOperation). second ++ l) one.here
      ∙ sym (append_assoc second first (operations_by_calls o session cube a epoch));
  elsewhere = λ x e away. two.elsewhere x e away ∙ one.elsewhere x e away;
}

-- ---- rows

rows-both : (xs ys : List (List CodedRow)) → rows_of_batches (xs ++ ys) ≡ rows_of_batches xs ++ rows_of_batches ys
rows-both [] ys = refl
rows-both (batch ∷ xs) ys =
    ap (λ (rows : List CodedRow). batch ++ rows) (rows-both xs ys)
    ∙ sym (append_assoc batch (rows_of_batches xs) (rows_of_batches ys))

first-part : {X : Type 0} (P : X → Type 0) (xs ys : List X) → AllByRecursion P (xs ++ ys) → AllByRecursion P xs
first-part P [] ys all = tt
first-part P (x ∷ xs) ys all = (all.0, first-part P xs ys all.1)

last-part : {X : Type 0} (P : X → Type 0) (xs ys : List X) → AllByRecursion P (xs ++ ys) → AllByRecursion P ys
last-part P [] ys all = all
last-part P (x ∷ xs) ys all = last-part P xs ys all.1

alike-none : StandAlike [] []
alike-none = λ d lists stored come. record { ordered = []; moved = IsPermutation-refl []; come = come }

alike-both : (first second : List CodedRow) (one two : List (List CodedRow)) → StandAlike first one
    → StandAlike second two → StandAlike (first ++ second) (two ++ one)
alike-both first second one two h k = λ d lists stored come.
    let Stands : CodedRow → Type 0 = λ row. StandForValues d lists row.coords in
    let f : CodedRow → StoredRow = stored_for d.name lists in
    let a = h d lists (map f first) (record { are = refl; each = first-part Stands first second come.each }) in
    let b = k d lists (map f second) (record { are = refl; each = last-part Stands first second come.each }) in
    record {
      ordered = a.ordered ++ b.ordered;
      moved =
          coe 1 0 (i. IsPermutation (rows-both two one i) (a.ordered ++ b.ordered))
          (IsPermutation-trans (rows_of_batches two ++ rows_of_batches one) (b.ordered ++ a.ordered)
          (a.ordered ++ b.ordered)
          (IsPermutation-append (rows_of_batches two) b.ordered (rows_of_batches one) a.ordered b.moved a.moved)
          (IsPermutation-append_comm b.ordered a.ordered));
      come = record {
        are =
            come.are ∙ map-append f first second ∙ (λ i. a.come.are i ++ b.come.are i)
            ∙ sym (map-append f a.ordered b.ordered);
        each = all-of-both Stands a.ordered b.ordered a.come.each b.come.each;
      };
    }

-- ---- what is posted

names-post-none : (added : List ClientCall) → AllByRecursion IsCallOnNames added → AllByRecursion PostsNoChange added
names-post-none [] each = tt
names-post-none (OnNames event ∷ added) each = (tt, names-post-none added each.1)
names-post-none (NoChange ∷ added) each = (tt, names-post-none added each.1)
names-post-none (c ∷ added) each = absurd each.0

module _ (cells : List (CoreCell CoreShard)) (caller session cube epoch : ℕ) where
  abbrev Posted : List CodedRow → List CoreEntry → List CoreEntry → Type 0
  Posted rows own now = ArePosted cells caller session cube epoch rows own now

  pub posted-none : (own : List CoreEntry) → Posted [] own own
  posted-none own = record {
    batches = [];
    alike = alike-none;
    posted = λ o log run es later are.
        record { before = es; events = are; adds = record { here = refl; elsewhere = λ c e away. refl } };
  }

  pub posted-both : (rows more : List CodedRow) (own mid now : List CoreEntry) → IsPrefix mid now
      → Posted rows own mid → Posted more mid now → Posted (rows ++ more) own now
  posted-both rows more own mid now goes h k = record {
    batches = k.batches ++ h.batches;
    alike = alike-both rows more h.batches k.batches h.alike k.alike;
    posted =
        coe 1 0
        (i. LearnsThat FitsShard CoreShardStands ShardAnswerSays
        (AddsOperations cube epoch (map-append (λ (batch : List CodedRow). PutRows batch) k.batches h.batches i))
        cells caller session own now)
        (learns-both cells caller session (AddsOperations cube epoch (batches_posted h.batches))
        (AddsOperations cube epoch (batches_posted k.batches))
        (AddsOperations cube epoch (batches_posted k.batches ++ batches_posted h.batches))
        (then-more session cube epoch (batches_posted h.batches) (batches_posted k.batches)) own mid now goes h.posted
        k.posted);
  }

  -- Calls on the names add nothing.
  names-add-none : IsClientOf FitsShard CoreShardStands ShardAnswerSays cells caller session
      → (own mid : List CoreEntry)
      → GoOnByNames caller own mid
      → LearnsThat FitsShard CoreShardStands ShardAnswerSays AddsNoOperation cells caller session own mid
  names-add-none acts own mid asks = λ o log run es later are.
      let a : AddsCalls FitsShard CoreShardStands ShardAnswerSays IsCallOnNames o session own es =
      (left-by-names FitsShard CoreShardStands ShardAnswerSays cells caller session acts own mid asks).calls o log run
      es
      later are
      in
      record {
        before = a.before;
        events = a.events;
        adds =
            coe 1 0 (i. AddsNoOperation session o (calls_of session a.before) (a.calls i))
            (without-changes o session a.added (calls_of session a.before) (names-post-none a.added a.each));
      }

  -- Nor do calls before them or behind them that add nothing.
  pub posted-behind-none : (rows : List CodedRow) (own mid now : List CoreEntry) → IsPrefix mid now
      → LearnsThat FitsShard CoreShardStands ShardAnswerSays AddsNoOperation cells caller session own mid
      → Posted rows mid now → Posted rows own now
  posted-behind-none rows own mid now goes none h = record {
    batches = h.batches;
    alike = h.alike;
    posted =
        learns-both cells caller session AddsNoOperation (AddsOperations cube epoch (batches_posted h.batches))
        (AddsOperations cube epoch (batches_posted h.batches))
        (none-then session cube epoch (batches_posted h.batches)) own mid now goes none h.posted;
  }

  pub posted-before-none : (rows : List CodedRow) (own mid now : List CoreEntry) → IsPrefix mid now
      → Posted rows own mid
      → LearnsThat FitsShard CoreShardStands ShardAnswerSays AddsNoOperation cells caller session mid now
      → Posted rows own now
  posted-before-none rows own mid now goes h none = record {
    batches = h.batches;
    alike = h.alike;
    posted =
        learns-both cells caller session (AddsOperations cube epoch (batches_posted h.batches)) AddsNoOperation
        (AddsOperations cube epoch (batches_posted h.batches))
        (then-none session cube epoch (batches_posted h.batches)) own mid now goes h.posted none;
  }

  -- So are names, and then others.
  pub names-then-none : IsClientOf FitsShard CoreShardStands ShardAnswerSays cells caller session
      → (own mid now : List CoreEntry) → IsPrefix mid now → GoOnByNames caller own mid
      → LearnsThat FitsShard CoreShardStands ShardAnswerSays AddsNoOperation cells caller session mid now
      → LearnsThat FitsShard CoreShardStands ShardAnswerSays AddsNoOperation cells caller session own now
  names-then-none acts own mid now goes asks none =
      learns-both cells caller session AddsNoOperation AddsNoOperation AddsNoOperation (none-both session) own mid now
      goes (names-add-none acts own mid asks) none

  -- Rows that are put out are posted.
  pub posted-by-posts : {R E : Type 0} (shards : ℕ) (shape : CubeShape) (rows : List CodedRow) (own now : List CoreEntry)
      (result : Result R E)
      → IfOk result (λ out. LearnsOfPostedRows cells caller session shards cube shape epoch rows own now)
      → (LearnsOfPostedRows cells caller session shards cube shape epoch rows own now
      → LearnsThat FitsShard CoreShardStands ShardAnswerSays
      (AddsOperations cube epoch (batches_posted (batches_among (row_posts shape.shape.sizes shards cube epoch rows))))
      cells caller session own now)
      → StandAlike rows (batches_among (row_posts shape.shape.sizes shards cube epoch rows))
      → IfOk result (λ out. Posted rows own now)
  posted-by-posts shards shape rows own now (Ok out) learns posts alike = record {
    batches = batches_among (row_posts shape.shape.sizes shards cube epoch rows);
    alike = alike;
    posted = posts learns;
  }
  posted-by-posts shards shape rows own now (Err e) learns posts alike = tt
