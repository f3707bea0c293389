use Rattle.std.proofs.Common.{◌≡◌, refl}
use Rattle.cube_run.specs.RunRecords.{LoadedFile}
use Rattle.core_changes.proofs.PerformedChanges.{performs-change}
use Rattle.scripted_pasts.specs.Performed.{WhateverFile}
use Rattle.core_changes.proofs.performing.changes_are_performed.Goals as goal

pub returns-clause-whatever : goal.returns-clause-whatever
returns-clause-whatever c = λ s file old new end cells caller own now said h.
    performs-change WhateverFile s file old new end cells caller own now said tt h

pub returns-clause-of_file : goal.returns-clause-of_file
returns-clause-of_file c = λ s file old new end cells caller own now said h.
    performs-change (λ (loaded : LoadedFile). loaded ≡ file) s file old new end cells caller own now said refl h
