-- Why a round of a run was lost to a disk: one of the two has failed.
-- Source: this project's own.
use Rattle.std.specs.Prelude.{◌≡◌, ◌⊎◌, true, List}
use Rattle.cube_journal.specs.declared.journal_entry.JournalEntry.{JournalEntry}
use Rattle.outside.specs.Counts.{Rose}
use Rattle.outside_disk.specs.Views.{View}
use Rattle.recorded_images.specs.AtEveryMoment.{TwoDisks}
use Rattle.cubrick_top.specs.PlayedEnds.{is_lost}

-- The journal tells of a round that was lost to a disk only where the count of faults of one of the two rose meanwhile.
abbrev pub LosesByFault : {D : Type 0} → (D → View) → TwoDisks D → TwoDisks D → List JournalEntry → Type 0
LosesByFault view before now journal =
    is_lost journal ≡ true
    → Rose (view before.first).faults (view now.first).faults
    ⊎ Rose (view before.second).faults (view now.second).faults
