use Rattle.std.proofs.Common.{◌≡◌, ◌++◌, length, take, drop}
use Rattle.outside_disk.specs.DiskBytes.{read_bytes}
use Rattle.outside_disk.proofs.disk_bytes.copy_bytes.Given as goal

abbrev pub invariant-bytes : goal.invariant-bytes
invariant-bytes l = record {
  so_far : l.into ≡ read_bytes (take l.place l.bytes) ++ drop l.place l.fn.into;
  long : length l.into ≡ length l.fn.into;
}
