-- What a call that may want memory says of its faults.
use Rattle.std.specs.Prelude.{Result, Ok, Err}
use Rattle.cube_values.specs.declared.call_error.CallError.{CallError}
use Rattle.cube_values.specs.declared.call_error.CallError.TheVariants.{Fault, NoMemory}

-- Where the answer is a fault, this holds of it. Want of memory says nothing.
abbrev pub IfFault : {T F : Type 0} → Result T (CallError F) → (F → Type 0) → Type 0
IfFault (Ok value) P = Unit {0}
IfFault (Err (Fault fault)) P = P fault
IfFault (Err NoMemory) P = Unit {0}
