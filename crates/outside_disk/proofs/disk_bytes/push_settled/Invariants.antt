use Rattle.std.proofs.Common.{◌≡◌, map, take, vec_capacity}
use Rattle.outside_disk.specs.DiskBytes.{settled_byte}
use Rattle.outside_disk.proofs.disk_bytes.push_settled.Given as goal

abbrev pub invariant-first : goal.invariant-first
invariant-first l = record {
  so_far : l.bytes.items ≡ map settled_byte (take l.byte-index l.first);
  capacity : vec_capacity l.bytes ≡ vec_capacity l.fn.bytes;
}
