use Rattle.std.proofs.Common.{◌≡◌, ◌≤◌, ◌-◌, length, take}
use Rattle.std.specs.Prelude.{IfSome}
use Rattle.outside_disk.specs.Reads.{IsUntouched}
use Rattle.outside_disk.proofs.whole.fill.Given as goal

abbrev pub invariant-pieces : goal.invariant-pieces
invariant-pieces g l = record {
  within : l.filled ≤ length l.into;
  long : length l.into ≡ length l.fn.into;
  untouched : IsUntouched (g.D.Disk.view l.fn.disk) (g.D.Disk.view l.disk);
  quiet : (g.D.Disk.view l.disk).faults ≡ (g.D.Disk.view l.fn.disk).faults;
  prefix : IfSome (g.D.Disk.view l.fn.disk).told (λ f. take l.filled l.into ≡ take l.filled f);
}

abbrev pub decreases-pieces : goal.decreases-pieces
decreases-pieces g l = length l.into - l.filled
