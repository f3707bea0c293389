-- What a session is told of a cube that it made, or looked for by its name.
-- Source: this project's own.
use Rattle.std.specs.Prelude.{◌≡◌, ◌⊎◌, ℕ, List, Result, Ok, Err}
use Rattle.aosi_desk.specs.declared.cube.CubeFound.{CubeFound}
use Rattle.aosi_desk.specs.declared.cube.CubeFound.TheVariants.{Found, Unknown}
use Rattle.core_cubes.specs.declared.naming.NamedCube.{NamedCube}
use Rattle.core_program.specs.CoreFits.{CoreEntry}
use Rattle.cube_journal.specs.declared.refusal.Refusal.TheVariants.{NoMemory, UnknownCube}
use Rattle.cube_journal.specs.declared.reply.Reply.{Reply}
use Rattle.cube_journal.specs.declared.reply.Reply.TheVariants as reply
use Rattle.cube_language.specs.declared.decl.Decl.{Decl}
use Rattle.known_cubes.specs.KnownCubes.{IsToldOfCube}
use Rattle.session_desk.specs.declared.answered.Answered.{Answered}
use Rattle.session_desk.specs.declared.answered.Answered.TheVariants.{Replied}

-- Where a cube is made, its session's calls told of its name, its place and its declaration.
abbrev pub IsToldWhereMade : List CoreEntry → Decl → Reply → Type 0
IsToldWhereMade own decl (reply.Created epoch) = (place : ℕ) × IsToldOfCube own decl.name place decl
IsToldWhereMade own decl said = Unit {0}

-- The cube of a name is found, or its statement is refused because there is none.
abbrev pub cube_or_refusal : CubeFound → List ℕ → Result NamedCube Answered
cube_or_refusal (Found place decl) name = Ok (record { place = place; decl = decl })
cube_or_refusal Unknown name = Err (Replied (reply.Refused (UnknownCube name)))

-- A refusal because no cube has the name, or for want of memory.
abbrev pub IsRefusedByName : List ℕ → Reply → Type 0
IsRefusedByName name said = (said ≡ reply.Refused (UnknownCube name)) ⊎ (said ≡ reply.Refused NoMemory)
