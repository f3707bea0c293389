use Rattle.core_records.specs.CoreRecords.{record_of}
use Rattle.sha2.specs.Sha256.{sha256}
use Rattle.recorded_images.proofs.KeptByRecord.{LawsOfStores, for-record}
use Rattle.recorded_images.proofs.KeptThroughout.{kept-where-told}
use Rattle.recorded_images.specs.RecordedImages.{StandForRecord}
use Rattle.recorded_images.proofs.law.a_store_keeps_the_record_at_every_moment.Goals as goal

pub returns : goal.returns
returns g c = λ o given run kept calls begun m r keeps all.
    let lie = c.kept_rounds_lie_in_their_cubes.ensures in
    let laws : LawsOfStores = λ k one two stand.
    let by = c.kept_data_are_sound.ensures.either sha256 k one two stand in
    record {
      sound = c.kept_data_are_sound.ensures.sound k by;
      rounds = lie.rounds k by;
      bricks = λ place brick cube lists at. lie.bricks k place brick cube lists by at;
      rows = λ s place brick cube lists at. lie.rows s k place brick cube lists by at;
      none = λ place brick past. lie.none k place brick by past;
    }
    in
    kept-where-told o run r.run (StandForRecord (record_of o given run)) (for-record o given run r laws) g.D.Disk.view
    g.met.D.Disk.only_now c.two_images_stand_for_either.ensures begun m kept calls keeps all
