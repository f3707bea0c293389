-- How a run ends whose words ask for nothing.
-- Source: this project's own.
use Rattle.std.specs.Prelude.{◌≡◌, ◌⊎◌, ℕ, List, [], Option, Some}
use Rattle.outside.specs.Output.{Gained}
use Rattle.run_words.specs.declared.fault.WordsFault.{WordsFault}
use Rattle.cubrick_top.specs.PlayedEnds.{LeavesNothing}
use Rattle.cubrick_top.specs.declared.fault.Fault.TheVariants.{NoMemory, Words}
use Rattle.cubrick_top.specs.declared.fault.Finish.{Finish}
use Rattle.cubrick_top.specs.declared.surroundings.Outside.{Outside}

-- The words are refused for this cause, or memory ran out. Nothing was written, and the outside stays as it is.
pub record AreRefused {H D : Type 0} (before : Outside H D) (taken now : Option (List ℕ)) (fault : WordsFault)
    (after : Outside H D) (finish : Finish) : Type 0 where
  pub why : (finish.fault ≡ Some (Words fault)) ⊎ (finish.fault ≡ Some NoMemory)
  pub nothing : LeavesNothing finish
  pub silent : Gained taken [] now
  pub same : after ≡ before
