use Rattle.cube_values.proofs.WhatIsLeft.{what_is_left}
use Rattle.cube_values.proofs.law.visible_is_what_running_leaves.Goals as goal

pub returns : goal.returns
returns c = what_is_left
