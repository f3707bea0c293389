-- Why a store is not opened for a run over some cubes, and what it keeps where it is.
-- Source: this project's own.
use Rattle.std.specs.Prelude.{◌≡◌, ℕ, ◌<◌, ◌≤◌, ◌^◌, List, Result, Ok, Err}
use Rattle.cube_language.specs.declared.decl.Decl.{Decl}
use Rattle.cube_rounds.specs.Stands.{Kept}
use Rattle.round_store.specs.States.{header_cubes}
use Rattle.store_reading.specs.Pairs.{PairContent}
use Rattle.store_reading.specs.declared.fault.PairFault.{PairFault}
use Rattle.store_reading.specs.declared.fault.PairFault.TheVariants as pair
use Rattle.opened_store.specs.declared.fault.StoreFault.{StoreFault}
use Rattle.opened_store.specs.declared.fault.StoreFault.TheVariants.{NotAStore, Version, Damaged, DamagedRound, TwoGenerations, GenerationsSpent, SchemaDiffers, EpochsSpent, ShardFull, DiskFault}
use Rattle.opened_store.specs.Differences.{DifferFirstAt}

-- What is wrong with two files, as a fault of the store.
abbrev pub fault_of_pair : PairFault → StoreFault
fault_of_pair pair.NotAStore = NotAStore
fault_of_pair (pair.Version found) = Version found
fault_of_pair (pair.Damaged at) = Damaged at
fault_of_pair (pair.DamagedRound round kept found) =
    DamagedRound round (record { bytes = kept }) (record { bytes = found })
fault_of_pair (pair.TwoGenerations generation) = TwoGenerations generation
fault_of_pair (pair.GenerationsSpent generation) = GenerationsSpent generation

-- A run over these cubes goes on from what is kept: the cubes of the header are these, and there are epochs left.
pub record FitsRun (cubes : List Decl) (kept : Kept) : Type 0 where
  pub same : header_cubes kept ≡ cubes
  pub small : kept.epoch ≤ 2 ^ 61

-- The cubes of the header are these, but there are no epochs left above the kept one.
pub record HasSpentEpochs (cubes : List Decl) (kept : Kept) (epoch : ℕ) : Type 0 where
  pub same : header_cubes kept ≡ cubes
  pub own : epoch ≡ kept.epoch
  pub spent : 2 ^ 61 < kept.epoch

-- Why it does not go on from what is kept: the first place at which the cubes differ, or else the kept epoch.
abbrev pub IsUnfit : List Decl → Kept → StoreFault → Type 0
IsUnfit cubes kept (SchemaDiffers place) = DifferFirstAt place (header_cubes kept) cubes
IsUnfit cubes kept (EpochsSpent epoch) = HasSpentEpochs cubes kept epoch
IsUnfit cubes kept fault = ⊥

-- Why a store is not opened, by what reading its two files gives. A fault of the files comes before one of what they
-- keep; a disk may fail whatever they are, and no shard is asked yet.
abbrev pub HasCause : List Decl → Result PairContent PairFault → StoreFault → Type 0
HasCause cubes read NotAStore = read ≡ Err pair.NotAStore
HasCause cubes read (Version found) = read ≡ Err (pair.Version found)
HasCause cubes read (Damaged at) = read ≡ Err (pair.Damaged at)
HasCause cubes read (DamagedRound round kept found) = read ≡ Err (pair.DamagedRound round kept.bytes found.bytes)
HasCause cubes read (TwoGenerations generation) = read ≡ Err (pair.TwoGenerations generation)
HasCause cubes read (GenerationsSpent generation) = read ≡ Err (pair.GenerationsSpent generation)
HasCause cubes read (SchemaDiffers place) =
    (content : PairContent) × (read ≡ Ok content) × DifferFirstAt place (header_cubes content.kept) cubes
HasCause cubes read (EpochsSpent epoch) =
    (content : PairContent) × (read ≡ Ok content) × HasSpentEpochs cubes content.kept epoch
HasCause cubes read (ShardFull shard rows) = ⊥
HasCause cubes read DiskFault = Unit {0}
