-- What the steps of taking a store answer.
-- Source: this project's own.
use Rattle.std.specs.Prelude.{◌≡◌, List, Ok, Err}
use Rattle.cube_language.specs.declared.decl.Decl.{Decl}
use Rattle.cube_rounds.specs.Stands.{Kept}
use Rattle.cube_values.specs.declared.call_error.CallError.TheVariants.{Fault, NoMemory}
use Rattle.round_store.specs.States.{StoreState}
use Rattle.round_store.specs.declared.fault.OpenFault.{OpenFault}
use Rattle.round_store.specs.declared.fault.OpenFault.TheVariants.{Pair, Disk}
use Rattle.opened_store.specs.declared.fault.StoreFault.{StoreFault}
use Rattle.opened_store.specs.declared.fault.StoreFault.TheVariants.{DiskFault}
use Rattle.opened_store.specs.Causes.{fault_of_pair, FitsRun, IsUnfit}
use Rattle.opened_store.specs.Opened.{StoreAnswer}

-- Why a store is not opened, as a fault of the run.
abbrev pub fault_of_open : OpenFault → StoreFault
fault_of_open (Pair fault) = fault_of_pair fault
fault_of_open Disk = DiskFault

-- This store is given with what it keeps where a run goes on from that, and else why it does not.
abbrev pub IsGivenFor : List Decl → StoreState → Kept → StoreAnswer → Type 0
IsGivenFor cubes store kept (Ok opened) = (opened ≡ record { store = store; kept = kept }) × FitsRun cubes kept
IsGivenFor cubes store kept (Err (Fault fault)) = IsUnfit cubes kept fault
IsGivenFor cubes store kept (Err NoMemory) = ⊥
