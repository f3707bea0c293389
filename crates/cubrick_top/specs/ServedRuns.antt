-- When a run of scripts does what its words ask for: its files and its store are in order, and nothing outside fails.
-- Source: this project's own.
use Rattle.std.specs.Prelude.{◌≡◌, ◌⊎◌, ℕ, List, map, Option, Some, None}
use Rattle.std.specs.Bool.{OnFalse}
use Rattle.cube_language.specs.declared.decl.Decl.{Decl}
use Rattle.cube_rounds.specs.Stands.{Kept, Stands}
use Rattle.opened_core.specs.KeptShards.{TakeAllKept}
use Rattle.opened_store.specs.Causes.{FitsRun}
use Rattle.outside.specs.Counts.{Rose}
use Rattle.outside_disk.specs.Views.{View}
use Rattle.run_files.specs.RunFiles.{CubesFile}
use Rattle.run_inputs.specs.ReadInputs.{AreToldInOrder, GivesCubes, files_of_run, told_reading}
use Rattle.run_words.specs.declared.command.RunCommand.{RunCommand}
use Rattle.run_words.specs.declared.command.StoreName.{StoreName}
use Rattle.sha2.specs.Sha256.{sha256}
use Rattle.cubrick_top.specs.RunEnds.{first_or}
use Rattle.cubrick_top.specs.declared.fault.Fault.{Fault}
use Rattle.cubrick_top.specs.declared.fault.Fault.TheVariants.{NoMemory}
use Rattle.cubrick_top.specs.declared.surroundings.Outside.{Outside}

-- There is no fault but want of memory.
abbrev pub FailsOnlyForMemory : Option Fault → Type 0
FailsOnlyForMemory fault = (fault ≡ None) ⊎ (fault ≡ Some NoMemory)

-- Two disks tell their files, and these stand for what is kept. A run over these cubes goes on from that, and each
-- shard takes its part.
pub record CanBeReopened (cubes : List Decl) (shards : ℕ) (first second : View) : Type 0 where
  pub first_file : List ℕ
  pub second_file : List ℕ
  pub first_tells : first.told ≡ Some first_file
  pub second_tells : second.told ≡ Some second_file
  pub kept : Kept
  pub stands : Stands sha256 kept first_file second_file
  pub fits : FitsRun cubes kept
  pub takes : TakeAllKept kept shards

-- The store that is asked for, where one is, is in order. A new one may be created over whatever the disks hold.
abbrev pub StoreIsInOrder : Option StoreName → List Decl → ℕ → View → View → Type 0
StoreIsInOrder None cubes shards first second = Unit {0}
StoreIsInOrder (Some store) cubes shards first second = OnFalse store.is_new (CanBeReopened cubes shards first second)

-- The first shelf tells its files. By what it tells, the files of the run are there, within their limits and in their
-- grammars, and the cubes file declares these cubes.
pub record FilesAreInOrder {H D : Type 0} (told : H → Option (List (List ℕ × List ℕ))) (command : RunCommand)
    (before : Outside H D) (cubes : List Decl) : Type 0 where
  pub in_order : AreToldInOrder (first_or None (map told before.shelves.items))
      (files_of_run command.cubes command.scripts)
  pub declares : GivesCubes (told_reading in_order.contents (CubesFile command.cubes)) cubes

-- All that a run is given is in order: its files, and the store where one is asked for.
pub record InputsAreInOrder {H D : Type 0} (told : H → Option (List (List ℕ × List ℕ))) (view : D → View)
    (command : RunCommand) (before : Outside H D) : Type 0 where
  pub cubes : List Decl
  pub files : FilesAreInOrder told command before cubes
  pub store : StoreIsInOrder command.store cubes command.settings.shards (view before.disk) (view before.other)

-- No count of faults rose: not that of the first shelf, which gives the files, of the sink or of a disk.
pub record NoFaultCountRose {H D : Type 0} (fault_count : H → ℕ) (view : D → View) (before after : Outside H D)
    (faults faults_now : ℕ) : Type 0 where
  pub shelf : Rose (first_or 0 (map fault_count before.shelves.items))
      (first_or 0 (map fault_count after.shelves.items)) → ⊥
  pub sink : Rose faults faults_now → ⊥
  pub disk : Rose (view before.disk).faults (view after.disk).faults → ⊥
  pub other : Rose (view before.other).faults (view after.other).faults → ⊥
