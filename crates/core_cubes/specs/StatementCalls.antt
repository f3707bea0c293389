-- The calls of a statement that changes no rows.
-- Source: this project's own.
use Rattle.std.specs.Prelude.{◌≡◌, ℕ}
use Rattle.aosi_desk.specs.declared.cube.CubeFound.TheVariants.{Unknown}
use Rattle.core_events.specs.Events.{CreateCube, FindCube, ClientCall, OnDesk, Post}
use Rattle.core_events.specs.Jobs.{Append, DropBox}
use Rattle.core_states.specs.LeftBehind.{AsksForNone, LeavesReaders}
use Rattle.cube_language.specs.declared.statement.Statement.{Statement}
use Rattle.cube_language.specs.declared.statement.Statement.TheVariants as asked
use Rattle.cube_run.specs.RunRecords.{name_spoken_of}

-- A call by which a cube is made is of the statement of this number, which declares the cube. So is one by which no
-- cube is found, and the statement speaks of the name.
abbrev pub SpeaksFor : ℕ → Statement → ClientCall → Type 0
SpeaksFor number s (OnDesk (CreateCube statement decl answer)) = (statement ≡ number) × (s ≡ asked.CreateCube decl)
SpeaksFor number s (OnDesk (FindCube statement name Unknown)) = (statement ≡ number) × (name_spoken_of s ≡ name)
SpeaksFor number s call = Unit {0}

-- A call posts neither rows nor a deletion.
abbrev pub PostsNoChange : ClientCall → Type 0
PostsNoChange (Post mail (Append cube epoch rows)) = ⊥
PostsNoChange (Post mail (DropBox cube epoch box)) = ⊥
PostsNoChange call = Unit {0}

-- A call that the statement of this number makes without a change of rows, without a reader, and for no text's code.
pub record IsCallFor (number : ℕ) (s : Statement) (call : ClientCall) : Type 0 where
  pub speaks : SpeaksFor number s call
  pub posts : PostsNoChange call
  pub asks : AsksForNone call
  pub readers : LeavesReaders call
