-- What the flusher copied may follow what a store keeps, and with it as much is kept of each run.
use Rattle.std.proofs.Common.{◌≡◌, ◌∙◌, ℕ, zero, suc, ◌≤◌, Bool, true, false, List, [], ◌∷◌, length, map, take, get_or, if◌then◌else◌, refl, sym, ap, subst, arith}
use Rattle.std.specs.Prelude.{Result, Ok, Err, IsErrOf, OnOk}
use Rattle.std.proofs.lemmas.List.{length-map}
use Rattle.core_events.specs.Clients.{ClientState}
use Rattle.core_program.proofs.KnownCalls.{earlier-run}
use Rattle.core_program.specs.Flushing.{IsFlusherOf}
use Rattle.core_program.specs.Knowing.{IsLaterRun}
use Rattle.core_program.specs.CoreFits.{CoreEntry}
use Rattle.copied_rounds.proofs.RoundsOfRuns.{kept-with-copies, round-may-follow}
use Rattle.copied_rounds.specs.CopiedRounds.{HaveShapesAndCounts, names_of_dim}
use Rattle.cube_core.specs.declared.cell.CoreCell.{CoreCell}
use Rattle.cube_language.specs.declared.decl.Decl.{Decl}
use Rattle.cube_language.specs.declared.decl.DimDecl.{DimDecl}
use Rattle.cube_rounds.specs.Demands.{DimNames, no_names}
use Rattle.cube_rounds.specs.Stands.{Kept, kept_of_cubes}
use Rattle.cube_rounds.specs.declared.round.Round.{Round}
use Rattle.cube_schema.specs.Schemas.{cube_of}
use Rattle.cube_values.specs.declared.call_error.CallError.{CallError}
use Rattle.cube_values.specs.declared.call_error.CallError.TheVariants as error
use Rattle.cube_values.specs.declared.shape.CubeShape.{CubeShape}
use Rattle.flush_round.specs.KeptRounds.{HoldsAfterEnd, IsKeptOfRuns, IsToldOfKept, KeepsEither, end_of, TakesRound, counts_before, shapes_before}
use Rattle.flush_round.proofs.ToldCopies.{count-of, told-with-round}
use Rattle.following_rounds.specs.FollowingRounds.{IsStorableRound}
use Rattle.job_groups.specs.AskedEach.{HasMore}
use Rattle.linked_shards.specs.CellShards.{CoreShardStands}
use Rattle.linked_shards.specs.declared.cell.CoreShard.{CoreShard}
use Rattle.outside_disk.specs.Views.{View}
use Rattle.outside_disk.specs.declared.disk.Failed.{Failed}
use Rattle.round_copies.specs.RoundCopies.{IsCopiedRound, IsToldOf, count_at}
use Rattle.round_copies.specs.WithinRounds.{HasHistory, KnowsOfFlusher}
use Rattle.round_copies.specs.declared.span.RoundSpan.{RoundSpan}
use Rattle.round_store.specs.States.{IsAt, IsStoreOf, MayFollowKept, StoreState, header_cubes, kept_after, kept_before, wants_whole}
use Rattle.shard_events.specs.ShardsInRuns.{FitsShard, ShardAnswerSays}

-- The shapes and the numbers of names are those of what is kept.

abbrev no_list : DimDecl → List (List ℕ)
no_list d = []

no-name : (dims : List DimDecl) (dim : ℕ) → get_or (map no_list dims) dim [] ≡ []
no-name [] dim = refl
no-name (d ∷ dims) zero = refl
no-name (d ∷ dims) (suc dim) = no-name dims dim

none-at : (cubes : List Decl) (cube dim : ℕ) → names_of_dim (map no_names cubes) cube dim ≡ []
none-at [] cube dim = refl
none-at (d ∷ cubes) zero dim = no-name d.dims dim
none-at (d ∷ cubes) (suc cube) dim = none-at cubes cube dim

take-mapped : (n : ℕ) (cubes : List Decl) → take n (map cube_of cubes) ≡ map cube_of (take n cubes)
take-mapped zero [] = refl
take-mapped zero (d ∷ cubes) = refl
take-mapped (suc n) [] = refl
take-mapped (suc n) (d ∷ cubes) = ap (λ l. cube_of d ∷ l) (take-mapped n cubes)

pub have-by : (s : StoreState) (kept : Kept) → IsStoreOf s kept → (b : Bool)
    → HaveShapesAndCounts (if b then kept_of_cubes (header_cubes kept) else kept).cubes
    (if b then kept_of_cubes (header_cubes kept) else kept).names
    (if b then take s.declared (map cube_of s.cubes) else map cube_of s.cubes) (if b then [] else s.counts)
have-by s kept is true = record {
  shapes_are =
      (λ i. take (is.declared i) (map cube_of (is.cubes i))) ∙ take-mapped kept.declared kept.cubes;
  counts_are = λ cube dim. sym (ap (λ (l : List (List ℕ)). length l) (none-at (header_cubes kept) cube dim));
}
have-by s kept is false = record {
  shapes_are = ap (map cube_of) is.cubes;
  counts_are = λ cube dim.
      ap (λ (l : List (List ℕ)). count_at l cube dim) is.counts ∙ count-of kept.names cube dim;
}

module _ (cells : List (CoreCell CoreShard)) (caller client shards : ℕ)
    (flush : IsFlusherOf FitsShard CoreShardStands ShardAnswerSays cells caller client shards) (before now : List CoreEntry)
    (more : HasMore before now) (span : RoundSpan) (s : StoreState) (kept : Kept) (first second : View)
    (takes : TakesRound cells caller before s kept span first second) (round : Round)
    (copied : IsCopiedRound cells caller client before now span (shapes_before s) (counts_before s) round) where
  abbrev have : HaveShapesAndCounts (kept_before s kept).cubes (kept_before s kept).names (shapes_before s) (counts_before s)
  have = have-by s kept takes.at.store (wants_whole s)

  pub copies-may-follow : HasHistory cells caller now → IsStorableRound round → MayFollowKept (kept_before s kept) round
  copies-may-follow history storable = record {
    from = copied.begins ∙ takes.begins;
    fits =
        round-may-follow cells caller client shards flush before now span (shapes_before s) (counts_before s) round copied
        (kept_before s kept).cubes (kept_before s kept).names have takes.of_runs
        (λ o log run later.
        takes.open_for o log run
        (earlier-run FitsShard CoreShardStands ShardAnswerSays cells o caller before more.more log run
        (subst (λ (l : List CoreEntry). IsLaterRun FitsShard CoreShardStands ShardAnswerSays cells o caller l log run)
        more.whole later)))
        history storable;
  }

  pub kept-with-round-of : IsKeptOfRuns cells caller now (kept_after s kept round)
  kept-with-round-of o =
      kept-with-copies cells caller client shards flush before now span (shapes_before s) (counts_before s) round copied
      (kept_before s kept).cubes (kept_before s kept).names have o (takes.of_runs o)

  pub told-of-round : KnowsOfFlusher cells caller client before (λ o k. IsToldOf (length (shapes_before s)) (counts_before s) k)
      → KnowsOfFlusher cells caller client now (λ o k. IsToldOfKept (kept_after s kept round) k)
  told-of-round known o log run es later are =
      told-with-round cells caller client shards flush before now more span (shapes_before s) (counts_before s) round copied
      (kept_before s kept).cubes (kept_before s kept).names have known o log run es later are

-- Who was told of all that is kept was told of that behind which the next round comes.

first-cubes : (n : ℕ) (cubes : List Decl) → length (take n (map cube_of cubes)) ≤ length cubes
first-cubes zero [] = omega arith
first-cubes zero (d ∷ cubes) = omega arith
first-cubes (suc n) [] = omega arith
first-cubes (suc n) (d ∷ cubes) = let rest = first-cubes n cubes in omega (arith, rest)

told-by : (s : StoreState) (kept : Kept) → IsStoreOf s kept → (k : ClientState) → IsToldOfKept kept k → (b : Bool)
    → IsToldOf (length (if b then take s.declared (map cube_of s.cubes) else map cube_of s.cubes)) (if b then [] else s.counts) k
told-by s kept is k told true = record {
  listed =
      let first = first-cubes s.declared s.cubes in
      let same = ap (λ (l : List Decl). length l) is.cubes in
      let listed = told.listed in
      omega (arith, first, same, listed);
  names = λ cube dim. omega arith;
}
told-by s kept is k told false = record {
  listed =
      let many = length-map s.cubes cube_of in
      let same = ap (λ (l : List Decl). length l) is.cubes in
      let listed = told.listed in
      omega (arith, many, same, listed);
  names = λ cube dim. coe 1 0 (i. count_at (is.counts i) cube dim ≤ k.names cube dim) (told.names cube dim);
}

pub told-before : (s : StoreState) (kept : Kept) → IsStoreOf s kept → (k : ClientState) → IsToldOfKept kept k
    → IsToldOf (length (shapes_before s)) (counts_before s) k
told-before s kept is k told = told-by s kept is k told (wants_whole s)

pub declared-within : (s : StoreState) (kept : Kept) → IsStoreOf s kept → s.declared ≤ length s.cubes
declared-within s kept is = coe 1 0 (i. is.declared i ≤ length (is.cubes i)) is.within

-- So it is with the cells and the number that the caller has once it has copied, over what the store says of itself.
module _ (cells new_cells : List (CoreCell CoreShard)) (caller new_caller client shards : ℕ) (same_cells : new_cells ≡ cells)
    (same_caller : new_caller ≡ caller)
    (flush : IsFlusherOf FitsShard CoreShardStands ShardAnswerSays cells caller client shards) (before now : List CoreEntry)
    (more : HasMore before now) (span : RoundSpan) (s : StoreState) (kept : Kept) (first second : View)
    (takes : TakesRound cells caller before s kept span first second) (round : Round) (shapes : List CubeShape)
    (counts : List (List ℕ)) (shapes_are : shapes ≡ shapes_before s) (counts_are : counts ≡ counts_before s)
    (copied : IsCopiedRound new_cells new_caller client before now span shapes counts round)
    (known : KnowsOfFlusher cells caller client before (λ o k. IsToldOf (length (shapes_before s)) (counts_before s) k)) where
  flush-now : IsFlusherOf FitsShard CoreShardStands ShardAnswerSays new_cells new_caller client shards
  flush-now =
      coe 1 0 (i. IsFlusherOf FitsShard CoreShardStands ShardAnswerSays (same_cells i) (same_caller i) client shards) flush

  takes-now : TakesRound new_cells new_caller before s kept span first second
  takes-now = coe 1 0 (i. TakesRound (same_cells i) (same_caller i) before s kept span first second) takes

  copied-now : IsCopiedRound new_cells new_caller client before now span (shapes_before s) (counts_before s) round
  copied-now = coe 0 1 (i. IsCopiedRound new_cells new_caller client before now span (shapes_are i) (counts_are i) round) copied

  known-now : KnowsOfFlusher new_cells new_caller client before (λ o k. IsToldOf (length (shapes_before s)) (counts_before s) k)
  known-now =
      coe 1 0
      (i. KnowsOfFlusher (same_cells i) (same_caller i) client before (λ o k. IsToldOf (length (shapes_before s)) (counts_before s) k)) known

  pub follows-now : HasHistory new_cells new_caller now → IsStorableRound round → MayFollowKept (kept_before s kept) round
  follows-now =
      copies-may-follow new_cells new_caller client shards flush-now before now more span s kept first second takes-now round
      copied-now

  -- What holds once the round was added, or was not.
  pub holds-after-add : (new : StoreState) (new_first new_second : View) (added : Result Unit (CallError Failed))
      → ((IsErrOf added error.NoMemory → ⊥) → KeepsEither s kept round first second new_first new_second)
      → OnOk added (IsAt new (kept_after s kept round) new_first new_second)
      → HoldsAfterEnd new_cells new_caller client before now s new kept span first second new_first new_second (end_of added)
  holds-after-add new new_first new_second (Ok done) either at = record {
    adds = record {
      round = round;
      ends = copied.ends;
      copied = copied-now;
      of_runs = kept-with-round-of new_cells new_caller client shards flush-now before now more span s kept first second
          takes-now round copied-now;
      told = told-of-round new_cells new_caller client shards flush-now before now more span s kept first second takes-now round
          copied-now known-now;
      either = either (λ is. absurd cc);
    };
    at = at;
  }
  holds-after-add new new_first new_second (Err error.NoMemory) either at = tt
  holds-after-add new new_first new_second (Err (error.Fault failed)) either at = record {
    round = round;
    ends = copied.ends;
    copied = copied-now;
    of_runs = kept-with-round-of new_cells new_caller client shards flush-now before now more span s kept first second
        takes-now round copied-now;
    told = told-of-round new_cells new_caller client shards flush-now before now more span s kept first second takes-now round
        copied-now known-now;
    either = either (λ is. absurd cc);
  }
