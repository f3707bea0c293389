use Rattle.std.proofs.Common.{◌≡◌, ◌≤◌, length}
use Rattle.outside_disk.specs.Course.{byte_events, write_events}
use Rattle.outside_disk.specs.Memory.{tape_course, with_events}
use Rattle.outside_disk.proofs.tape.Tape.write.Given as goal

abbrev pub invariant-bytes : goal.invariant-bytes
invariant-bytes l = record {
  so_far : with_events (byte_events l.place l.left) l.self ≡ with_events (write_events l.at l.bytes) l.fn.self;
  room : length l.left ≤ l.self.room;
  within : l.place ≤ length (tape_course l.self).now;
}

abbrev pub decreases-bytes : goal.decreases-bytes
decreases-bytes l = length l.left
