-- Calls that speak of the cubes of which the statements of a script speak.
-- Source: this project's own.
use Rattle.std.specs.Prelude.{◌≡◌, ℕ, ◌-◌, List, [], length, slice_get, unwrap_or, Option, Some, IsSomeAnd}
use Rattle.std.specs.List.{AllByRecursion}
use Rattle.std.specs.Option.{option_and_then}
use Rattle.cube_language.specs.declared.statement.Statement.{Statement}
use Rattle.cube_language.specs.declared.statement.Statement.TheVariants as asked
use Rattle.aosi_desk.specs.declared.cube.CubeFound.TheVariants.{Unknown}
use Rattle.cube_run.specs.RunRecords.{Sentence, name_spoken_of, statement_said}
use Rattle.core_events.specs.Clients.{calls_of}
use Rattle.core_events.specs.Events.{Opening, IsSession, OnDesk, CreateCube, FindCube, ClientCall, CoreEvent}
use Rattle.core_records.specs.CoreRecords.{RunScripts}

-- The script of a session, counted from 1, and a statement of a script by its number, counted from 1.
abbrev pub script_given : RunScripts → ℕ → List Sentence
script_given given session = unwrap_or (slice_get given.scripts (session - 1)) []

abbrev pub statement_in : List Sentence → ℕ → Option Statement
statement_in script statement = option_and_then statement_said (slice_get script (statement - 1))

-- A call that asks for a cube has its declaration from its statement, and one that finds no cube of a name has the name
-- from there.
abbrev pub SpeaksByScript : List Sentence → ClientCall → Type 0
SpeaksByScript script (OnDesk (CreateCube statement decl answer)) =
    statement_in script statement ≡ Some (asked.CreateCube decl)
SpeaksByScript script (OnDesk (FindCube statement name Unknown)) =
    IsSomeAnd (statement_in script statement) (λ s. name_spoken_of s ≡ name)
SpeaksByScript script call = Unit {0}

-- Each session has a script, and its calls speak by it.
pub record FollowScripts (o : Opening) (given : RunScripts) (es : List CoreEvent) : Type 0 where
  pub each : length given.scripts ≡ o.sessions
  pub cubes : (session : ℕ) → IsSession o session
      → AllByRecursion (SpeaksByScript (script_given given session)) (calls_of session es)
