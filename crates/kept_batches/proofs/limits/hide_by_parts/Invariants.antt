use Rattle.std.proofs.Common.{take}
use Rattle.kept_batches.specs.Unhidden.{HideMore}
use Rattle.kept_batches.proofs.limits.hide_by_parts.Given as goal

abbrev pub invariant-parts : goal.invariant-parts
invariant-parts l = HideMore l.snapshot l.bricks (take l.part-index l.parts) l.fn.limits l.limits
