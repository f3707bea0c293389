use Rattle.std.proofs.Common.{◌≡◌, ◌++◌, [], ◌∷◌}
use Rattle.aosi_desk.proofs.Loops.{room_for_next, one_more_done}
use Rattle.aosi_desk.proofs.fields.Fields.pending_list.Goals as goal

pub push-requires : goal.push-requires
push-requires c = room_for_next _ _ _ _ _ c.loop-epoch.invariant.2 c.in-Some.ensures.steps c.loop-epoch.invariant.3
