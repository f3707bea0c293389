use Rattle.std.proofs.Common.{◌≡◌, take}
use Rattle.cube_values.proofs.epoch_list.EpochList.copy.Given as goal

abbrev pub invariant-loop-epoch : goal.invariant-loop-epoch
invariant-loop-epoch l = l.epochs.items ≡ take l.epoch-index l.epoch-items
