use Rattle.std.proofs.Common.{false, arith}
use Rattle.std.proofs.lemmas.Grind.{common_steps}
use Rattle.outside_disk.proofs.Bytes.{copy_more}
use Rattle.outside_disk.proofs.disk_bytes.copy_bytes.Goals as goal

pub bytes-preserved : goal.bytes-preserved
bytes-preserved c = record {
  so_far =
      copy_more c.args.bytes.now c.bytes.into c.args.into.now c.bytes.place (record { byte = 0; settled = false }) c.bytes-test.true c.requires
      c.bytes.invariant.so_far;
  long = grind (arith, common_steps);
}
