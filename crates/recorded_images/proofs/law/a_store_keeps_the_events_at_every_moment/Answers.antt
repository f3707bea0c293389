use Rattle.recorded_images.specs.RecordedImages.{StandForEvents}
use Rattle.recorded_images.proofs.KeptImages.{for-events}
use Rattle.recorded_images.proofs.KeptThroughout.{kept-where-told}
use Rattle.recorded_images.proofs.law.a_store_keeps_the_events_at_every_moment.Goals as goal

pub returns : goal.returns
returns g c = λ o run kept calls begun m is_run keeps all.
    kept-where-told o run is_run (StandForEvents o run) (for-events o run) g.D.Disk.view g.met.D.Disk.only_now
    c.two_images_stand_for_either.ensures begun m kept calls keeps all
