use Rattle.std.proofs.Common.{take, All}
use Rattle.brick_map.specs.Waiting.{IsReadied}
use Rattle.brick_map.proofs.Readied.{IsRoomFor}
use Rattle.brick_map.proofs.birth.prepare_runs.Given as goal

abbrev pub invariant-runs : goal.invariant-runs
invariant-runs l = record {
  readied : IsReadied l.shape l.recent l.initial.list l.list;
  room : All (IsRoomFor l.list l.runs) (take l.i l.runs);
}
