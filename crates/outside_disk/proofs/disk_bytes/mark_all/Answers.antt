use Rattle.std.proofs.Common.{false, get_or, arith}
use Rattle.std.proofs.lemmas.Grind.{common_steps}
use Rattle.std.proofs.lemmas.List.{get_or_default}
use Rattle.std.proofs.lemmas.List.Edits.{map_over_more}
use Rattle.outside_disk.specs.DiskBytes.{with_mark}
use Rattle.outside_disk.proofs.disk_bytes.mark_all.Goals as goal

pub places-preserved : goal.places-preserved
places-preserved c =
    let bytes = c.places.bytes in
    let place = c.places.place in
    let byte = get_or bytes place (record { byte = 0; settled = false }) in
    record {
      so_far =
          map_over_more (with_mark c.args.settled) c.args.bytes.now bytes place byte (omega arith) c.places.invariant.so_far
          (get_or_default bytes place _ byte c.places-test.true);
      within = omega arith;
      long = grind (arith, common_steps);
    }
