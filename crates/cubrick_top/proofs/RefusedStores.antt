-- How a run ended without the store that was asked for, and disks that nothing was asked of.
use Rattle.std.proofs.Common.{◌≡◌, ◌⊎◌, inl, ℕ, List, Option, Some, Err, refl, ap, arith}
use Rattle.cube_language.specs.declared.decl.Decl.{Decl}
use Rattle.cube_run.specs.RunRecords.{Sentence}
use Rattle.cube_values.specs.declared.call_error.CallError.{CallError}
use Rattle.cube_values.specs.declared.call_error.CallError.TheVariants as call
use Rattle.opened_store.specs.Meanwhile.{AreUntouched, KeepTo, MayBeTaken}
use Rattle.opened_store.specs.Opened.{TakesStore}
use Rattle.opened_store.specs.declared.fault.StoreFault.{StoreFault}
use Rattle.opened_store.specs.declared.fault.StoreFault.TheVariants.{DiskFault}
use Rattle.outside.specs.Counts.{Rose}
use Rattle.outside_disk.proofs.Moments.{LeavesOnly-started}
use Rattle.outside_disk.specs.Reads.{IsUntouched}
use Rattle.outside_disk.specs.Views.{View}
use Rattle.round_store.specs.States.{WhereTold}
use Rattle.run_words.specs.declared.command.StoreName.{StoreName}
use Rattle.cubrick_top.proofs.EndedRuns.{given-back, nothing-gained}
use Rattle.cubrick_top.specs.OpenedEnds.{OpenedEnds, no_memory, no_store}
use Rattle.cubrick_top.specs.PlayedEnds.{LeavesNothing, UsesNoShelf}
use Rattle.cubrick_top.specs.Unplayed.{fault_of_store}
use Rattle.cubrick_top.specs.declared.fault.Finish.{Finish}
use Rattle.cubrick_top.specs.declared.surroundings.Outside.{Outside}

-- A disk that is not asked is untouched, if since this moment there is no other.
pub stays-untouched : (disk : View) → ((c : List ℕ) → disk.since disk.moment c → disk.image c) → IsUntouched disk disk
stays-untouched disk only = record {
  told = refl;
  images = λ c left. left;
  any_moment = LeavesOnly-started disk disk.image only;
  count = omega arith;
}

module _ {H D : Type 0} (view : D → View) (told : H → Option (List (List ℕ × List ℕ)))
    (fault_count absence_count : H → ℕ) (store : StoreName) (cubes : List Decl) (shards every : ℕ)
    (scripts : List (List Sentence)) (before after : Outside H D) (taken : Option (List ℕ)) (finish : Finish)
    (nothing : LeavesNothing finish) (same : after.shelves.items ≡ before.shelves.items) where
  uses-no-shelf : UsesNoShelf fault_count absence_count before.shelves.items after.shelves.items
  uses-no-shelf = given-back fault_count absence_count before.shelves.items after.shelves.items same

  -- Why the store that was asked for is not there.
  pub record IsRefused (error : CallError StoreFault) : Type 0 where
    pub is : finish.fault ≡ Some (fault_of_store error)
    pub takes : TakesStore store.is_new cubes (view before.disk) (view before.other) (Err error)
    pub failed : error ≡ call.Fault DiskFault → Rose (view before.disk).faults (view after.disk).faults
        ⊎ Rose (view before.other).faults (view after.other).faults
    pub meanwhile : WhereTold (view before.disk) (view before.other) (λ f g.
        KeepTo (MayBeTaken store.is_new cubes f g) f (view before.disk) (view after.disk)
        (view before.other) (view after.other))
    pub still : error ≡ call.NoMemory
        → AreUntouched (view before.disk) (view after.disk) (view before.other) (view after.other)

  -- How a run ended that has no store.
  pub refused-ended : (error : CallError StoreFault) → IsRefused error
      → OpenedEnds view told fault_count absence_count (Some store) cubes shards every scripts before after taken taken
      finish
  refused-ended (call.Fault fault) refused =
      no_store fault refused.is (record {
        store = store;
        is_asked = refl;
        takes = refused.takes;
        failed = λ disk. refused.failed (ap call.Fault disk);
        meanwhile = refused.meanwhile;
      }) nothing uses-no-shelf (nothing-gained taken)
  refused-ended call.NoMemory refused =
      no_memory refused.is (refused.still refl) nothing uses-no-shelf (nothing-gained taken)
