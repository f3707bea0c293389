use Rattle.recorded_images.specs.RecordedImages.{StandForEvents}
use Rattle.recorded_images.proofs.KeptImages.{for-events, images-of-kept, images-of-lost}
use Rattle.recorded_images.proofs.law.images_of_a_store_stand_for_the_events.Goals as goal

pub returns-clause-kept : goal.returns-clause-kept
returns-clause-kept g c = λ o run kept calls begun m is_run keeps all there.
    images-of-kept o run is_run (StandForEvents o run) (for-events o run) g.D.Disk.view m kept calls keeps.in_run
    keeps.stands all there

pub returns-clause-lost : goal.returns-clause-lost
returns-clause-lost g c = λ o run kept calls begun m is_run keeps all gone.
    images-of-lost o run is_run (StandForEvents o run) (for-events o run) g.D.Disk.view m kept calls keeps.in_run
    keeps.stands all (λ lost. c.two_images_stand_for_either.ensures kept lost.round lost.before m lost.adds) gone
