-- The fault of a run that no session began.
-- Source: this project's own.
use Rattle.cube_values.specs.declared.call_error.CallError.{CallError}
use Rattle.cube_values.specs.declared.call_error.CallError.TheVariants as call
use Rattle.opened_core.specs.declared.full.FullShard.{FullShard}
use Rattle.opened_store.specs.declared.fault.StoreFault.TheVariants.{ShardFull}
use Rattle.run_files.specs.declared.bad_file.BadFile.{BadFile}
use Rattle.opened_store.specs.declared.fault.StoreFault.{StoreFault}
use Rattle.cubrick_top.specs.declared.fault.Fault.{Fault}
use Rattle.cubrick_top.specs.declared.fault.Fault.TheVariants.{File, Store, NoMemory}

-- A shard is too full for what is kept.
abbrev pub fault_of_full : CallError FullShard → Fault
fault_of_full (call.Fault full) = Store (ShardFull full.shard full.rows)
fault_of_full call.NoMemory = NoMemory

-- Something is wrong with a file.
abbrev pub fault_of_file : CallError BadFile → Fault
fault_of_file (call.Fault bad) = File bad
fault_of_file call.NoMemory = NoMemory

-- There is no store.
abbrev pub fault_of_store : CallError StoreFault → Fault
fault_of_store (call.Fault fault) = Store fault
fault_of_store call.NoMemory = NoMemory
