-- The events of the core, in one list, the newest first: a client's call on the desk, the names or a mail, or a move of
-- the worker that serves a mail. Each carries its answer. Nobody but its worker calls a shard.
-- Source: this project's own; linearizability (Herlihy and Wing, 1990) makes one list of the calls of all threads.
use Rattle.std.specs.Prelude.{◌≡◌, ℕ, ◌+◌, ◌≤◌, ◌^◌, Bool, List, [], length, Option, All}
use Rattle.cube_values.specs.declared.row.CodedRow.{CodedRow}
use Rattle.cube_values.specs.declared.shape.CubeShape.{CubeShape}
use Rattle.cube_language.specs.CubesText.{cubes_limit}
use Rattle.cube_language.specs.declared.decl.Decl.{Decl}
use Rattle.cube_journal.specs.declared.counters.Counters.{Counters}
use Rattle.cube_journal.specs.declared.journal_entry.AbortCause.{AbortCause}
use Rattle.cube_journal.specs.declared.note.Note.{Note}
use Rattle.brick_address.specs.Addresses.{AreCoords}
use Rattle.aosi_desk.specs.declared.answer.RoundAnswer.{RoundAnswer}
use Rattle.aosi_desk.specs.declared.answer.RoundEnd.{RoundEnd}
use Rattle.aosi_desk.specs.declared.cube.CubeAnswer.{CubeAnswer}
use Rattle.aosi_desk.specs.declared.cube.CubeFound.{CubeFound}
use Rattle.names_dict.specs.declared.code.Code.{Code}
use Rattle.names_dict.specs.Dictionaries.{Dictionary}
use Rattle.core_events.specs.Jobs.{CoreJob, JobOutcome}

-- How a run opens: the numbers of shards and of sessions, the epoch up to which its store keeps all, the cubes, the
-- dictionary of each dimension, and the kept rows of each cube. Each cube has one shape, also one that is made later.
pub record Opening : Type 0 where
  pub shards : ℕ
  pub sessions : ℕ
  pub safe : ℕ
  pub cubes : List Decl
  pub shapes : ℕ → CubeShape
  pub names : ℕ → ℕ → Dictionary
  pub rows : ℕ → List CodedRow

-- The limits, and what is kept: rows with coordinates of their cube, and none where nothing is kept up to a later epoch
-- than 0.
pub record IsOpening (o : Opening) : Type 0 where
  pub some : 1 ≤ o.shards
  pub shards : o.shards ≤ 64
  pub sessions : o.sessions ≤ 16
  pub safe : o.safe ≤ 2 ^ 61
  pub cubes : length o.cubes ≤ cubes_limit
  pub rows : (cube : ℕ) → All (λ row. AreCoords (o.shapes cube).shape.sizes row.coords) (o.rows cube)
  pub none : o.safe ≡ 0 → (cube : ℕ) → o.rows cube ≡ []

-- A call on the desk. A session's calls carry its own number but where they say the number of a holder.
pub data DeskEvent : Type 0 where
  OpenWrite : (statement epoch : ℕ) (deps : List ℕ) → DeskEvent
  OpenRead : (holder statement epoch : ℕ) → DeskEvent
  Commit : (statement epoch : ℕ) → DeskEvent
  AbortEnd : (statement epoch : ℕ) (cause : AbortCause) → DeskEvent
  CloseRead : (holder statement : ℕ) → DeskEvent
  TakeNote : (note : Note) (counters : Counters) → DeskEvent
  CreateCube : (statement : ℕ) (decl : Decl) (answer : CubeAnswer) → DeskEvent
  FindCube : (statement : ℕ) (name : List ℕ) (answer : CubeFound) → DeskEvent
  CubesFrom : (place : ℕ) (cubes : List Decl) → DeskEvent
  CountersNow : (counters : Counters) → DeskEvent
  RoundOpen : (answer : RoundAnswer) → DeskEvent
  RoundClose : (epoch : ℕ) (end : RoundEnd) → DeskEvent
  StoreFailed : (failed : Bool) → DeskEvent

-- A call on the names.
pub data NamesEvent : Type 0 where
  Encode : (cube dim : ℕ) (name : List ℕ) (code : Code) → NamesEvent
  FindName : (cube dim : ℕ) (name : List ℕ) (number : Option ℕ) → NamesEvent
  CopyFrom : (cube dim from : ℕ) (names : List (List ℕ)) → NamesEvent

-- A client's call. One that was answered out of memory, or that there is no answer yet, changes nothing.
pub data ClientCall : Type 0 where
  OnDesk : (call : DeskEvent) → ClientCall
  OnNames : (call : NamesEvent) → ClientCall
  Post : (mail : ℕ) (job : CoreJob) → ClientCall
  Fetch : (mail : ℕ) (answer : JobOutcome) → ClientCall
  CloseMail : (mail : ℕ) → ClientCall
  NoChange : ClientCall

-- A worker's move: it takes a client's job from its mail, does it on its shard, and replies to the client. Or there is
-- no job to take, and the mail is closed or not.
pub data WorkerMove : Type 0 where
  Take : (client : ℕ) (job : CoreJob) → WorkerMove
  NoJob : (closed : Bool) → WorkerMove
  Work : (job : CoreJob) (answer : JobOutcome) → WorkerMove
  Reply : (client : ℕ) (answer : JobOutcome) → WorkerMove

-- The mails of the shards have the numbers of the shards, and the flusher's mail comes next.
pub data CoreEvent : Type 0 where
  By : (client : ℕ) (call : ClientCall) → CoreEvent
  At : (mail : ℕ) (move : WorkerMove) → CoreEvent

-- The clients: main is 0, the sessions follow, and then the flusher.
abbrev pub flusher : Opening → ℕ
flusher o = o.sessions + 1

pub record IsSession (o : Opening) (client : ℕ) : Type 0 where
  pub first : 1 ≤ client
  pub last : client ≤ o.sessions

abbrev pub flush_mail : Opening → ℕ
flush_mail o = o.shards
