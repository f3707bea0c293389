use Rattle.std.proofs.Common.{◌≡◌, ◌≤◌, ◌-◌, ◌++◌, length, map, take, drop}
use Rattle.outside_disk.specs.DiskBytes.{with_mark}
use Rattle.outside_disk.proofs.disk_bytes.mark_all.Given as goal

abbrev pub invariant-places : goal.invariant-places
invariant-places l = record {
  so_far : l.bytes ≡ map (with_mark l.settled) (take l.place l.fn.bytes) ++ drop l.place l.fn.bytes;
  within : l.place ≤ length l.fn.bytes;
  long : length l.bytes ≡ length l.fn.bytes;
}

abbrev pub decreases-places : goal.decreases-places
decreases-places l = length l.bytes - l.place
