-- How the run of scripts that were read ends, and what it makes of its store's disks.
-- Source: this project's own.
use Rattle.std.specs.Prelude.{◌≡◌, ◌⊎◌, ◌↔◌, ℕ, false, List, [], length, Option, Some, None, Err, Ok, is_some, IsSome}
use Rattle.cube_language.specs.declared.decl.Decl.{Decl}
use Rattle.cube_rounds.specs.Stands.{Kept, kept_of_cubes}
use Rattle.cube_journal.specs.declared.journal_entry.JournalEntry.{JournalEntry}
use Rattle.cube_run.specs.RunRecords.{RunRecord, Sentence}
use Rattle.cube_values.specs.declared.call_error.CallError.TheVariants as call
use Rattle.opened_store.specs.Meanwhile.{AreUntouched, KeepTo, MayBeTaken}
use Rattle.opened_store.specs.Opened.{TakesStore}
use Rattle.opened_store.specs.declared.fault.StoreFault.{StoreFault}
use Rattle.opened_store.specs.declared.fault.StoreFault.TheVariants.{DiskFault}
use Rattle.opened_store.specs.declared.reopening.OpenedStore.{OpenedStore}
use Rattle.outside.specs.Counts.{Rose}
use Rattle.outside.specs.Output.{Gained}
use Rattle.outside_disk.specs.Views.{View}
use Rattle.recorded_images.specs.AtEveryMoment.{TwoDisks}
use Rattle.round_store.specs.States.{WhereTold}
use Rattle.run_words.specs.declared.command.StoreName.{StoreName}
use Rattle.stored_rounds.specs.RoundsInStore.{GoesByRounds, StandsAt}
use Rattle.stored_rounds.specs.declared.stored.StoredRounds.{StoredRounds}
use Rattle.cubrick_top.specs.KeptRuns.{KeepRecord, KeepRun}
use Rattle.cubrick_top.specs.LostRounds.{LosesByFault}
use Rattle.cubrick_top.specs.PlayedEnds.{LeavesNothing, PlayedEnds, UsesNoShelf, is_lost}
use Rattle.cubrick_top.specs.declared.fault.Fault.TheVariants.{Store, NoMemory}
use Rattle.cubrick_top.specs.declared.fault.Finish.{Finish}
use Rattle.cubrick_top.specs.declared.surroundings.Outside.{Outside}

-- The two disks of a store.
abbrev pub disks_in : {H D : Type 0} → Outside H D → TwoDisks D
disks_in outside = record { first = outside.disk; second = outside.other }

module _ {H D : Type 0} (view : D → View) where
  -- A store that stood for what is kept went on by rounds, one after the other.
  pub record EndsInStore (kept : Kept) (before after : Outside H D) : Type 0 where
    pub begun : StoredRounds D
    pub first_begun : begun.first ≡ before.disk
    pub second_begun : begun.second ≡ before.other
    pub stands : StandsAt view begun kept
    pub ended : StoredRounds D
    pub rounds : GoesByRounds view begun ended
    pub first_ended : ended.first ≡ after.disk
    pub second_ended : ended.second ≡ after.other

  -- The store was created or opened, and keeps this. Meanwhile the disks read as they may, and then each tells its file
  -- where it did before. From there the store went on by rounds.
  pub record GoesOnInStore (store : StoreName) (cubes : List Decl) (kept : Kept) (before after : Outside H D)
      : Type 0 where
    pub opened : OpenedStore
    pub takes : TakesStore store.is_new cubes (view before.disk) (view before.other) (Ok opened)
    pub keeps : opened.kept ≡ kept
    pub between : Outside H D
    pub meanwhile : WhereTold (view before.disk) (view before.other) (λ f g.
        KeepTo (MayBeTaken store.is_new cubes f g) f (view before.disk) (view between.disk)
        (view before.other) (view between.other))
    pub first_tells : IsSome (view before.disk).told ↔ IsSome (view between.disk).told
    pub second_tells : IsSome (view before.other).told ↔ IsSome (view between.other).told
    pub ends : EndsInStore kept between after

  -- What a run begins with, and what it makes of the disks: without a store the cubes alone, and the disks stay.
  abbrev pub BeginsWith : Option StoreName → List Decl → Kept → Outside H D → Outside H D → Type 0
  BeginsWith None cubes kept before after =
      (kept ≡ kept_of_cubes cubes) × (after.disk ≡ before.disk) × (after.other ≡ before.other)
  BeginsWith (Some store) cubes kept before after = GoesOnInStore store cubes kept before after

  -- Where there is a store its disks keep the run that is on record, from when that began, if they told their files
  -- before.
  abbrev pub KeepsRecord : (asked : Option StoreName) (cubes : List Decl) (kept : Kept) (before after : Outside H D)
      → BeginsWith asked cubes kept before after → RunRecord → Type 0
  KeepsRecord None cubes kept before after begins = λ run. Unit {0}
  KeepsRecord (Some store) cubes kept before after begins =
      λ run. KeepRecord view (disks_in before) (disks_in begins.between) (disks_in after) run

  -- So they keep a run that left a journal without being on record.
  abbrev pub KeepsRun : (asked : Option StoreName) (cubes : List Decl) (kept : Kept) (before after : Outside H D)
      → BeginsWith asked cubes kept before after → (shards sessions : ℕ) → List JournalEntry → Type 0
  KeepsRun None cubes kept before after begins shards sessions = λ journal. Unit {0}
  KeepsRun (Some store) cubes kept before after begins shards sessions =
      λ journal. KeepRun view (disks_in before) (disks_in begins.between) (disks_in after) kept shards sessions journal

  -- A round is lost to a disk only where one of the store's two has failed in the run; without a store none is.
  abbrev pub LosesRoundsByFault : Option StoreName → (before after : Outside H D) → List JournalEntry → Type 0
  LosesRoundsByFault None before after = λ journal. is_lost journal ≡ false
  LosesRoundsByFault (Some store) before after =
      λ journal. LosesByFault view (disks_in before) (disks_in after) journal

  -- A store was asked for, and this is why there is none. Where a disk failed, its count rose. Meanwhile the disks
  -- read as they may: those of an old store stay as they are.
  pub record HasNoStore (asked : Option StoreName) (cubes : List Decl) (before after : Outside H D)
      (fault : StoreFault) : Type 0 where
    pub store : StoreName
    pub is_asked : asked ≡ Some store
    pub takes : TakesStore store.is_new cubes (view before.disk) (view before.other) (Err (call.Fault fault))
    pub failed : fault ≡ DiskFault → Rose (view before.disk).faults (view after.disk).faults
        ⊎ Rose (view before.other).faults (view after.other).faults
    pub meanwhile : WhereTold (view before.disk) (view before.other) (λ f g.
        KeepTo (MayBeTaken store.is_new cubes f g) f (view before.disk) (view after.disk)
        (view before.other) (view after.other))

  module _ (told : H → Option (List (List ℕ × List ℕ))) (fault_count absence_count : H → ℕ) where
    -- Such a run ended so, its sink having taken this before and now: without the store that was asked for; for want
    -- of memory before any session, with the disks as they were; or as its sessions did, over what is kept, and the
    -- disks kept their run at every moment. No round was lost to a disk but where one failed.
    pub data OpenedEnds (asked : Option StoreName) (cubes : List Decl) (shards every : ℕ)
        (scripts : List (List Sentence)) (before after : Outside H D) (taken now : Option (List ℕ)) (finish : Finish)
        : Type 0 where
      no_store : (fault : StoreFault) → finish.fault ≡ Some (Store fault)
          → HasNoStore asked cubes before after fault → LeavesNothing finish
          → UsesNoShelf fault_count absence_count before.shelves.items after.shelves.items → Gained taken [] now
          → OpenedEnds asked cubes shards every scripts before after taken now finish
      no_memory : finish.fault ≡ Some NoMemory
          → AreUntouched (view before.disk) (view after.disk) (view before.other) (view after.other)
          → LeavesNothing finish
          → UsesNoShelf fault_count absence_count before.shelves.items after.shelves.items → Gained taken [] now
          → OpenedEnds asked cubes shards every scripts before after taken now finish
      played : (kept : Kept) → (begins : BeginsWith asked cubes kept before after)
          → PlayedEnds told fault_count absence_count (KeepsRecord asked cubes kept before after begins)
          (KeepsRun asked cubes kept before after begins shards (length scripts)) (is_some asked) kept shards every
          scripts before.shelves.items after.shelves.items finish taken now finish.fault
          → LosesRoundsByFault asked before after finish.journal.items
          → OpenedEnds asked cubes shards every scripts before after taken now finish
