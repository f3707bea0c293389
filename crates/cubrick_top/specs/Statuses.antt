-- The status of a run by its fault.
-- Source: this project's own.
use Rattle.std.specs.Prelude.{ℕ, Option, Some, None}
use Rattle.opened_store.specs.declared.fault.StoreFault.{StoreFault}
use Rattle.opened_store.specs.declared.fault.StoreFault.TheVariants.{DiskFault}
use Rattle.run_files.specs.declared.bad_file.BadFile.{BadFile}
use Rattle.run_files.specs.declared.bad_file.BadFile.TheVariants as bad
use Rattle.cubrick_top.specs.declared.fault.Fault.{Fault}
use Rattle.cubrick_top.specs.declared.fault.Fault.TheVariants.{Words, File, Store, OutputFault, NoMemory}

-- A file that is not there or could not be read, and one that is not in order.
abbrev pub status_of_file : BadFile → ℕ
status_of_file (bad.Absent name) = 3
status_of_file (bad.ReadFailed name) = 3
status_of_file file = 4

-- A disk that failed, and what is wrong with a store.
abbrev pub status_of_store : StoreFault → ℕ
status_of_store DiskFault = 6
status_of_store fault = 5

abbrev pub status_of : Option Fault → ℕ
status_of None = 0
status_of (Some (Words fault)) = 2
status_of (Some (File file)) = status_of_file file
status_of (Some (Store fault)) = status_of_store fault
status_of (Some OutputFault) = 7
status_of (Some NoMemory) = 8
