use Rattle.std.proofs.Common.{◌≡◌, ◌≤◌, ◌+◌, ◌++◌, length}
use Rattle.outside_disk.specs.Crash.{filled_from}
use Rattle.outside_disk.proofs.disk_bytes.push_filled.Given as goal

abbrev pub invariant-bytes : goal.invariant-bytes
invariant-bytes l = record {
  so_far : l.image.items ++ filled_from l.fill l.unsettled l.left ≡ l.fn.image.items ++ filled_from l.fill 0 l.bytes;
  few : l.unsettled + length l.left ≤ length l.bytes;
}

abbrev pub decreases-bytes : goal.decreases-bytes
decreases-bytes l = length l.left
