-- The files of a ShelfMemory as (name, bytes) pairs.
use Rattle.std.specs.Prelude.{ℕ, List, Vec, String, string_bytes, map}
use Rattle.std.specs.declared.alloc.Global.{Global}

-- the name and the bytes of each file
abbrev pub files_of : List (String Global × Vec ℕ Global) → List (List ℕ × List ℕ)
files_of = map (λ file. (string_bytes file.0, file.1.items))
