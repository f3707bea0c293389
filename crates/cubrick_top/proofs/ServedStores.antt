-- A store that is in order is refused by a failing disk alone, and no shard is too full for what it keeps.
use Rattle.std.proofs.Common.{◌≡◌, ◌⊎◌, ◌∙◌, ℕ, ◌+◌, ◌-◌, ◌%◌, ◌≤◌, ◌^◌, ◌==◌, Bool, true, false, List, [], ◌∷◌, length, slice_get, Option, Some, None, Err, Ok, IfSome, inl, inr, refl, sym, ap, subst, arith}
use Rattle.std.proofs.lemmas.List.Sums.{sum_by-append, sum_by-cons}
use Rattle.std.specs.Bool.{OnFalse}
use Rattle.std.specs.List.{flat_map, range_with_len, sum_by}
use Rattle.std.specs.Option.{option_map_or}
use Rattle.core_events.specs.ShardView.{rows_where}
use Rattle.cube_language.specs.Cubes.{sizes_of}
use Rattle.cube_language.specs.declared.decl.Decl.{Decl}
use Rattle.cube_rounds.specs.Stands.{Kept, Stands, kept_of_cubes}
use Rattle.cube_values.specs.Shapes.{bricks_of}
use Rattle.cube_values.specs.declared.call_error.CallError.TheVariants as call
use Rattle.cube_values.specs.declared.row.CodedRow.{CodedRow}
use Rattle.opened_core.proofs.RowsByBrick.{none-joined}
use Rattle.opened_core.specs.KeptShards.{IsTooFull, TakeAllKept, kept_count, kept_in_brick, kept_in_shard}
use Rattle.opened_core.specs.declared.full.FullShard.{FullShard}
use Rattle.opened_store.specs.Causes.{FitsRun, IsUnfit}
use Rattle.opened_store.specs.Opened.{TakesStore}
use Rattle.opened_store.specs.declared.fault.StoreFault.{StoreFault}
use Rattle.opened_store.specs.declared.fault.StoreFault.TheVariants.{SchemaDiffers, EpochsSpent, DiskFault}
use Rattle.opened_store.specs.declared.reopening.OpenedStore.{OpenedStore}
use Rattle.outside_disk.specs.Views.{View}
use Rattle.run_words.specs.declared.command.StoreName.{StoreName}
use Rattle.sha2.specs.Sha256.{sha256}
use Rattle.shard_views.proofs.Alike.{where_none}
use Rattle.shard_views.proofs.Items.{range_append}
use Rattle.cubrick_top.specs.OpenedEnds.{BeginsWith}
use Rattle.cubrick_top.specs.ServedRuns.{CanBeReopened, StoreIsInOrder}
use Rattle.cubrick_top.specs.declared.surroundings.Outside.{Outside}

-- ---- shards that take what is kept

-- A shard that takes the rows of all cubes has not too many of the first.
pub never-too-full : (kept : Kept) (shards : ℕ) (full : FullShard) → TakeAllKept kept shards
    → IsTooFull kept shards full → ⊥
never-too-full kept shards full takes too_full =
    let of_cube = too_full.of_cube in
    at (length kept.cubes - (too_full.place + 1)) (omega (arith, of_cube))
  where
    at : (k : ℕ) → length kept.cubes ≡ too_full.place + 1 + k → ⊥
    at k is =
        let count = λ (place : ℕ). length (kept_in_shard kept shards full.shard place) in
        let split : kept_count kept shards full.shard (too_full.place + 1 + k)
        ≡ kept_count kept shards full.shard (too_full.place + 1)
        + sum_by count (range_with_len (0 + (too_full.place + 1)) k) =
        ap (sum_by count) (range_append 0 (too_full.place + 1) k)
        ∙ sum_by-append count (range_with_len 0 (too_full.place + 1)) (range_with_len (0 + (too_full.place + 1)) k)
        in
        let all : kept_count kept shards full.shard (too_full.place + 1 + k) ≤ 2 ^ 40 =
        subst (λ (n : ℕ). kept_count kept shards full.shard n ≤ 2 ^ 40) is (takes full.shard too_full.there)
        in
        let above = too_full.above in omega (arith, split, all, above)

no-sum : (f : ℕ → ℕ) → ((place : ℕ) → f place ≡ 0) → (places : List ℕ) → sum_by f places ≡ 0
no-sum f none [] = refl
no-sum f none (place ∷ places) =
    let split = sum_by-cons f place places in
    let here = none place in let rest = no-sum f none places in omega (arith, split, here, rest)

-- Cubes without rounds have no rows.
pub new-takes : (cubes : List Decl) (shards : ℕ) → TakeAllKept (kept_of_cubes cubes) shards
new-takes cubes shards shard there =
    let nothing : kept_count (kept_of_cubes cubes) shards shard (length cubes) ≡ 0 =
    no-sum (λ (place : ℕ). length (kept_in_shard (kept_of_cubes cubes) shards shard place))
    (λ place. ap (λ (rows : List CodedRow). length rows) (no-rows place (slice_get cubes place)))
    (range_with_len 0 (length cubes))
    in
    omega (arith, nothing)
  where
    no-rows : (place : ℕ) (cube : Option Decl)
        → option_map_or (λ (c : Decl). flat_map (λ brick. rows_where (brick % shards == shard)
        (kept_in_brick (kept_of_cubes cubes) place brick)) (range_with_len 0 (bricks_of (sizes_of c.dims)))) cube []
        ≡ []
    no-rows place None = refl
    no-rows place (Some c) =
        none-joined (λ (brick : ℕ). rows_where (brick % shards == shard)
        (kept_in_brick (kept_of_cubes cubes) place brick)) (λ brick. where_none (brick % shards == shard))
        (range_with_len 0 (bricks_of (sizes_of c.dims)))

-- ---- a store in order

never-unfit : (cubes : List Decl) (kept : Kept) → FitsRun cubes kept → (fault : StoreFault) → IsUnfit cubes kept fault
    → ⊥
never-unfit cubes kept fits (SchemaDiffers place) unfit =
    unfit.there (ap (λ (list : List Decl). slice_get list place) fits.same)
never-unfit cubes kept fits (EpochsSpent epoch) unfit =
    let small = fits.small in let spent = unfit.spent in omega (arith, small, spent)
never-unfit cubes kept fits fault unfit = absurd unfit

told-as : (told : Option (List ℕ)) (file other : List ℕ) → told ≡ Some other → IfSome told (λ f. file ≡ f)
    → file ≡ other
told-as told file other tells is = coe 0 1 (i. IfSome (tells i) (λ f. file ≡ f)) is

module _ (cubes : List Decl) (shards : ℕ) (first second : View) where
  abbrev IsReady : Bool → Type 0
  IsReady new = OnFalse new (CanBeReopened cubes shards first second)

  -- It is refused only by a disk.
  pub only-disk : (new : Bool) (fault : StoreFault) → IsReady new
      → TakesStore new cubes first second (Err (call.Fault fault)) → fault ≡ DiskFault
  only-disk true fault ready takes = takes
  only-disk false fault ready takes =
      at
      (takes.holds.only ready.kept
      (coe 1 0 (i. Stands sha256 ready.kept
      (told-as first.told takes.first_file ready.first_file ready.first_tells takes.first_told i)
      (told-as second.told takes.second_file ready.second_file ready.second_tells takes.second_told i)) ready.stands))
    where
      at : ((fault ≡ DiskFault) ⊎ IsUnfit cubes ready.kept fault) → fault ≡ DiskFault
      at (inl is) = is
      at (inr unfit) = absurd (never-unfit cubes ready.kept ready.fits fault unfit)

  -- Each shard takes what is kept in it.
  pub takes-all : (new : Bool) (opened : OpenedStore) → IsReady new → TakesStore new cubes first second (Ok opened)
      → TakeAllKept opened.kept shards
  takes-all true opened ready takes =
      subst (λ (kept : Kept). TakeAllKept kept shards) (sym takes) (new-takes cubes shards)
  takes-all false opened ready takes =
      let same : opened.kept ≡ ready.kept =
      takes.holds.only ready.kept
      (coe 1 0 (i. Stands sha256 ready.kept
      (told-as first.told takes.first_file ready.first_file ready.first_tells takes.first_told i)
      (told-as second.told takes.second_file ready.second_file ready.second_tells takes.second_told i)) ready.stands)
      in
      subst (λ (kept : Kept). TakeAllKept kept shards) (sym same) ready.takes

-- So each takes what a run begins with.
pub begins-taken : {H D : Type 0} (view : D → View) (asked : Option StoreName) (cubes : List Decl) (shards : ℕ)
    (kept : Kept) (before after : Outside H D)
    → StoreIsInOrder asked cubes shards (view before.disk) (view before.other)
    → BeginsWith view asked cubes kept before after → TakeAllKept kept shards
begins-taken view None cubes shards kept before after ready begins =
    subst (λ (k : Kept). TakeAllKept k shards) (sym begins.0) (new-takes cubes shards)
begins-taken view (Some store) cubes shards kept before after ready begins =
    subst (λ (k : Kept). TakeAllKept k shards) begins.keeps
    (takes-all cubes shards (view before.disk) (view before.other) store.is_new begins.opened ready begins.takes)
