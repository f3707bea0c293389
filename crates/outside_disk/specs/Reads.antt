-- What reading a disk leaves of it.
use Rattle.std.specs.Prelude.{◌≡◌, ◌≤◌, ℕ, List, Result, Ok, Err, Vec}
use Rattle.std.specs.declared.alloc.Global.{Global}
use Rattle.cube_values.specs.declared.call_error.CallError.{CallError}
use Rattle.cube_values.specs.declared.call_error.CallError.TheVariants.{Fault, NoMemory}
use Rattle.outside_disk.specs.declared.disk.Failed.{Failed}
use Rattle.outside_disk.specs.Views.{View, LeavesOnly}

-- it reads as before, and a crash leaves what it might have left before
pub record IsUntouched (old new : View) : Type 0 where
  pub told : new.told ≡ old.told
  pub images : (c : List ℕ) → new.image c → old.image c
  pub any_moment : LeavesOnly old new old.image
  pub count : old.faults ≤ new.faults

-- the disk failed
abbrev pub HasFailed : Result (Vec ℕ Global) (CallError Failed) → Type 0
HasFailed (Err (Fault fault)) = Unit {0}
HasFailed (Err NoMemory) = ⊥
HasFailed (Ok bytes) = ⊥
