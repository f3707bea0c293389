use Rattle.std.proofs.Common.{◌+◌, ◌≤◌, length}
use Rattle.sha2.specs.Sha256.{sha256}
use Rattle.store_reading.specs.Rounds.{IsReadable}
use Rattle.store_reading.proofs.RoundsRead.{ReadsOn}
use Rattle.store_reading.proofs.rounds.rounds_of.Given as goal

abbrev pub invariant-rounds : goal.invariant-rounds
invariant-rounds l = record {
  size : length l.kept.rounds + length l.left ≤ l.size;
  readable : IsReadable l.kept;
  so_far : ReadsOn sha256 l.size l.kept l.fn.begun l.left l.bytes;
}

abbrev pub decreases-rounds : goal.decreases-rounds
decreases-rounds l = length l.left
