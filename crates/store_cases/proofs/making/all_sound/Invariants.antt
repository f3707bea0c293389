use Rattle.std.proofs.Common.{All, take}
use Rattle.cube_values.specs.Queries.{IsSoundItem}
use Rattle.store_cases.proofs.making.all_sound.Given as goal

abbrev pub invariant-items : goal.invariant-items
invariant-items l = All (IsSoundItem l.group l.metrics) (take l.item-index l.items)
