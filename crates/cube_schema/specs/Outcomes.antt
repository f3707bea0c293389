-- What a text of lines gives: its cubes, or the first fault that applies.
use Rattle.std.specs.Prelude.{ℕ, List, [], ◌∷◌, map, slice_get, Option, Some, None, Result, Ok, Err, if◌then◌else◌}
use Rattle.std.specs.List.{list_any}
use Rattle.std.specs.Option.{option_map, option_or}
use Rattle.std.specs.Str.{bytes_eq}
use Rattle.cube_language.specs.declared.cubes_fault.CubesFault.{CubesFault}
use Rattle.cube_language.specs.declared.cubes_fault.CubesFault.TheVariants.{DuplicateCube, TooManyCubes, Schema}
use Rattle.cube_language.specs.declared.decl.Decl.{Decl}
use Rattle.cube_language.specs.Cubes.{schema_fault, first_some}
use Rattle.cube_language.specs.CubesText.{cubes_limit}
use Rattle.cube_schema.specs.declared.gather.Begun.{Begun}
use Rattle.cube_schema.specs.Gathering.{gathered}

-- The names of cubes.
abbrev pub begun_names : List Begun → List (List ℕ)
begun_names cubes = map (λ cube. cube.decl.name) cubes

-- The declarations of cubes.
abbrev pub begun_decls : List Begun → List Decl
begun_decls cubes = map (λ cube. cube.decl) cubes

-- The first cube of a name that stands among these or that a cube before it has.
abbrev pub repeated_in : List (List ℕ) → List Begun → Option CubesFault
repeated_in before [] = None
repeated_in before (cube ∷ cubes) =
    if list_any (bytes_eq cube.decl.name) before
    then Some (DuplicateCube cube.line)
    else repeated_in (cube.decl.name ∷ before) cubes

-- The cube that is one too many.
abbrev pub excess_in : List Begun → Option CubesFault
excess_in cubes = option_map (λ cube. TooManyCubes cube.line) (slice_get cubes cubes_limit)

-- Why a declaration cannot be stored, with its name.
abbrev pub unstorable : Decl → Option CubesFault
unstorable d = option_map (Schema d.name) (schema_fault d)

-- The first declaration that cannot be stored.
abbrev pub unstorable_in : List Decl → Option CubesFault
unstorable_in [] = None
unstorable_in (d ∷ decls) = option_or (unstorable d) (unstorable_in decls)

-- The first fault of cubes, or None where they can be stored.
abbrev pub begun_fault : List Begun → Option CubesFault
begun_fault cubes = first_some (repeated_in [] cubes ∷ excess_in cubes ∷ unstorable_in (begun_decls cubes) ∷ [])

-- Cubes, unless they have this fault.
abbrev pub cubes_unless : Option CubesFault → List Decl → Result (List Decl) CubesFault
cubes_unless None cubes = Ok cubes
cubes_unless (Some fault) cubes = Err fault

-- The declarations of cubes that were read, or the first fault.
abbrev pub outcome_of : Result (List Begun) CubesFault → Result (List Decl) CubesFault
outcome_of (Ok cubes) = cubes_unless (begun_fault cubes) (begun_decls cubes)
outcome_of (Err fault) = Err fault

-- What the text gives where it is UTF-8.
abbrev pub outcome : List ℕ → Result (List Decl) CubesFault
outcome text = outcome_of (gathered text)
