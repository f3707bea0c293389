use Rattle.std.proofs.Common.{◌≡◌, ◌++◌, take}
use Rattle.std.specs.List.{flat_map}
use Rattle.cube_rounds.specs.Bytes.{signed_bytes}
use Rattle.round_text.proofs.put.put_metrics.Given as goal

abbrev pub invariant-metrics : goal.invariant-metrics
invariant-metrics l = l.out.items ≡ l.fn.out.items ++ flat_map signed_bytes (take l.metric-index l.metrics)
