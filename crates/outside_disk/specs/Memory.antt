-- A DiskMemory as contracts see it, and what each call does to it.
use Rattle.std.specs.Prelude.{ℕ, ◌+◌, ◌-◌, ◌<◌, ◌≤◌, ◌⊎◌, List, [], ◌∷◌, ◌++◌, length, Option, Some, None, Result, Ok, Err, nat_le, if◌then◌else◌}
use Rattle.outside.specs.Counts.{next, IsFailing}
use Rattle.outside_disk.specs.declared.disk.Failed.{Failed}
use Rattle.outside_disk.specs.declared.events.DiskEvent.{DiskEvent}
use Rattle.outside_disk.specs.declared.events.DiskEvent.TheVariants.{Nothing, Sync, Cut, FailedCut}
use Rattle.outside_disk.specs.Course.{Course, course_of, WasImage}
use Rattle.outside_disk.specs.DiskBytes.{read_bytes, IsImage}
use Rattle.outside_disk.specs.Views.{View}

-- its first bytes and the events since, and how many more have room
pub record TapeState : Type 0 where
  pub first : List ℕ
  pub events : List DiskEvent
  pub room : ℕ

-- the tape, the numbers of the calls that fail and of the first of those that all fail, how many calls it
-- has after_answer, and how many of them failed
pub record DiskState : Type 0 where
  pub tape : TapeState
  pub failing : List ℕ
  pub stop : Option ℕ
  pub calls : ℕ
  pub faults : ℕ

-- a disk that has answered no call
abbrev pub new_disk : List ℕ → ℕ → List ℕ → Option ℕ → DiskState
new_disk first room failing stop = record {
  tape = record { first = first; events = []; room = room };
  failing = failing;
  stop = stop;
  calls = 0;
  faults = 0;
}

-- what became of its bytes
abbrev pub tape_course : TapeState → Course
tape_course tape = course_of tape.first tape.events

-- a disk with this course and this count
abbrev pub course_view : Course → ℕ → View
course_view course faults = record {
  told = Some (read_bytes course.now);
  image = IsImage course.now;
  moment = length course.past;
  since = λ t c. IsImage course.now c ⊎ WasImage course.past t c;
  faults = faults;
}

-- the disk as the clauses on all disks see it
abbrev pub disk_view : DiskState → View
disk_view disk = course_view (tape_course disk.tape) disk.faults

-- the tape with more events
abbrev pub with_events : List DiskEvent → TapeState → TapeState
with_events events tape = record tape { events = tape.events ++ events; room = tape.room - length events }

-- the events of a call, none of them where they lack room
abbrev pub fitting_events : ℕ → List DiskEvent → List DiskEvent
fitting_events room events = if nat_le (length events) room then events else []

-- calls from this number on fail
abbrev pub IsStopped : Option ℕ → ℕ → Type 0
IsStopped None number = ⊥
IsStopped (Some stop) number = stop ≤ number

-- the next call fails by its number
abbrev pub IsFaulty : DiskState → Type 0
IsFaulty disk = IsFailing disk.failing disk.calls ⊎ IsStopped disk.stop disk.calls

-- the next call fails, which would use up so much room
abbrev pub Fails : DiskState → ℕ → Type 0
Fails disk cost = IsFaulty disk ⊎ (disk.tape.room < cost)

-- the disk after a call with this answer that made these events
abbrev pub after_call : {T : Type 0} → Result T Failed → List DiskEvent → DiskState → DiskState
after_call (Ok answer) events disk = record disk { tape = with_events events disk.tape; calls = next disk.calls }
after_call (Err fault) events disk =
    record disk { tape = with_events events disk.tape; calls = next disk.calls; faults = next disk.faults }

-- the events of a sync and of a cut with this answer
abbrev pub sync_events : Result Unit Failed → List DiskEvent
sync_events (Ok done) = Sync ∷ []
sync_events (Err fault) = Nothing ∷ []

abbrev pub cut_events : ℕ → Result Unit Failed → List DiskEvent
cut_events len (Ok done) = Cut len ∷ []
cut_events len (Err fault) = FailedCut len ∷ []
