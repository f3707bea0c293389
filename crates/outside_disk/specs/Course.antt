-- What became of a disk in memory by its events: its bytes now and at each moment before.
use Rattle.std.specs.Prelude.{ℕ, true, false, ◌+◌, ◌≤◌, ◌⊎◌, List, [], ◌∷◌, length, map, take}
use Rattle.std.specs.List.{fold}
use Rattle.outside_disk.specs.declared.events.DiskByte.{DiskByte}
use Rattle.outside_disk.specs.declared.events.DiskEvent.{DiskEvent}
use Rattle.outside_disk.specs.declared.events.DiskEvent.TheVariants.{Nothing, Sync, Cut, FailedCut, Write, Byte}
use Rattle.outside_disk.specs.DiskBytes.{settled_byte, with_byte, marked_from, IsImage}

-- the bytes now, and those of the moments before, the newest first
pub record Course : Type 0 where
  pub now : List DiskByte
  pub past : List (List DiskByte)

-- the bytes at one moment more
abbrev pub next_moment : List DiskByte → Course → Course
next_moment disk course = record { now = disk; past = course.now ∷ course.past }

-- the course after an event; the bytes of a write are put at the moment at which it began
abbrev pub course_after : Course → DiskEvent → Course
course_after course Nothing = next_moment course.now course
course_after course Sync = next_moment (marked_from 0 true course.now) course
course_after course (Cut len) = next_moment (take len course.now) course
course_after course (FailedCut len) = next_moment (marked_from len false course.now) course
course_after course Write = next_moment course.now course
course_after course (Byte at byte) = record course { now = with_byte at byte course.now }

-- the course of a disk that had these bytes first, all of them settled
abbrev pub course_of : List ℕ → List DiskEvent → Course
course_of first = fold course_after (record { now = map settled_byte first; past = [] })

-- the events of a write of these bytes from a place on, behind its beginning
abbrev pub byte_events : ℕ → List ℕ → List DiskEvent
byte_events at [] = []
byte_events at (byte ∷ bytes) = Byte at byte ∷ byte_events (at + 1) bytes

-- the events of a write
abbrev pub write_events : ℕ → List ℕ → List DiskEvent
write_events at bytes = Write ∷ byte_events at bytes

-- an image at a moment before, not earlier than t; the moments are numbered from 0
abbrev pub WasImage : List (List DiskByte) → ℕ → List ℕ → Type 0
WasImage [] t c = ⊥
WasImage (disk ∷ past) t c = (t ≤ length past) × (IsImage disk c ⊎ WasImage past t c)
