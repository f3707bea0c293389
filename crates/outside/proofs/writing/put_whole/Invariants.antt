use Rattle.std.proofs.Common.{◌≡◌, ◌≤◌, ◌-◌, length, take}
use Rattle.outside.specs.Output.{Gained}
use Rattle.outside.proofs.writing.put_whole.Given as goal

abbrev pub invariant-pieces : goal.invariant-pieces
invariant-pieces g l = record {
  within : l.taken ≤ length l.bytes;
  quiet : g.K.Sink.fault_count l.sink ≡ g.K.Sink.fault_count l.fn.sink;
  gained : Gained (g.K.Sink.taken l.fn.sink) (take l.taken l.bytes) (g.K.Sink.taken l.sink);
}

abbrev pub decreases-pieces : goal.decreases-pieces
decreases-pieces g l = length l.bytes - l.taken
