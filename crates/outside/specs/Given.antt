-- What a file gives to a reader with a limit, and what the reader then answers.
use Rattle.std.specs.Prelude.{◌≡◌, ℕ, ◌<◌, ◌≤◌, List, length, Option, Some, None, Result, Ok, Err, Vec, nat_le, if◌then◌else◌, IsErrOf}
use Rattle.std.specs.declared.alloc.Global.{Global}
use Rattle.cube_values.specs.declared.call_error.CallError.{CallError}
use Rattle.cube_values.specs.declared.call_error.CallError.TheVariants.{Fault, NoMemory}
use Rattle.outside.specs.declared.reading.FileFault.{FileFault}
use Rattle.outside.specs.declared.reading.FileFault.TheVariants.{Absent, TooLong, Failed}
use Rattle.outside.specs.Files.{content_of}

-- what a file gives to a reader with a limit
pub data Given : Type 0 where
  missing : Given
  too_long : ℕ → Given
  whole : List ℕ → Given

-- what a file with these bytes, or none, gives where at most so many bytes may be read
abbrev pub given_by : ℕ → Option (List ℕ) → Given
given_by limit None = missing
given_by limit (Some bytes) = if nat_le (length bytes) limit then whole bytes else too_long (length bytes)

-- bytes are given up to the limit, and a size only above it
abbrev pub IsWithin : ℕ → Given → Type 0
IsWithin limit missing = Unit {0}
IsWithin limit (too_long size) = limit < size
IsWithin limit (whole bytes) = length bytes ≤ limit

-- the answer is this fault
abbrev pub IsFileFault : Result (Vec ℕ Global) (CallError FileFault) → FileFault → Type 0
IsFileFault answer fault = IsErrOf answer (Fault fault)

-- the answer is what the file gives, unless the shelf failed or memory ran out
abbrev pub ShowsGiven : Result (Vec ℕ Global) (CallError FileFault) → Given → Type 0
ShowsGiven (Ok bytes) given = given ≡ whole bytes.items
ShowsGiven (Err (Fault Absent)) given = given ≡ missing
ShowsGiven (Err (Fault (TooLong size))) given = given ≡ too_long size
ShowsGiven (Err (Fault Failed)) given = Unit {0}
ShowsGiven (Err NoMemory) given = Unit {0}

-- the answer shows something that the file of this name may give, and that is what it does give
-- where the shelf tells its files
pub record ReadsWhole
    (told : Option (List (List ℕ × List ℕ)))
    (name : List ℕ)
    (limit : ℕ)
    (answer : Result (Vec ℕ Global) (CallError FileFault))
    : Type 0 where
  pub given : Given
  pub shown : ShowsGiven answer given
  pub within : IsWithin limit given
  pub by_files : (files : List (List ℕ × List ℕ)) → told ≡ Some files → given ≡ given_by limit (content_of files name)
