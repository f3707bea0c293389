use Rattle.std.proofs.Common.{◌≡◌, ◌++◌, take}
use Rattle.outside_disk.specs.DiskBytes.{read_bytes}
use Rattle.outside_disk.proofs.disk_bytes.push_read.Given as goal

abbrev pub invariant-bytes : goal.invariant-bytes
invariant-bytes l = l.image.items ≡ l.fn.image.items ++ read_bytes (take l.byte-index l.bytes)
