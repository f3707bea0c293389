-- What a sink gained of a text.
-- Source: this project's own.
use Rattle.std.specs.Prelude.{ℕ, List, [], Option, Some, None}
use Rattle.outside.specs.Output.{Gained, GainedPrefix}
use Rattle.cubrick_top.specs.declared.fault.Fault.{Fault}
use Rattle.cubrick_top.specs.declared.fault.Fault.TheVariants.{OutputFault, NoMemory}

abbrev pub IsWritten : Option (List ℕ) → List ℕ → Option (List ℕ) → Option Fault → Type 0
IsWritten taken text now None = Gained taken text now
IsWritten taken text now (Some OutputFault) = GainedPrefix taken text now
IsWritten taken text now (Some NoMemory) = Gained taken [] now
IsWritten taken text now (Some fault) = ⊥
