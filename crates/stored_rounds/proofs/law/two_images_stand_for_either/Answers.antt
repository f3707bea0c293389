use Rattle.stored_rounds.proofs.Images.{images-of-either}
use Rattle.stored_rounds.proofs.law.two_images_stand_for_either.Goals as goal

pub returns : goal.returns
returns g c = images-of-either g.D.Disk.view g.met.D.Disk.counts_now
