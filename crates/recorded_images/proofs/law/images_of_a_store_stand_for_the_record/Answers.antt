use Rattle.sha2.specs.Sha256.{sha256}
use Rattle.recorded_images.proofs.KeptByRecord.{LawsOfStores, kept-of-record, lost-of-record}
use Rattle.recorded_images.proofs.law.images_of_a_store_stand_for_the_record.Goals as goal

pub returns-clause-kept : goal.returns-clause-kept
returns-clause-kept g c = λ o given run kept calls begun m r keeps all there.
    let lie = c.kept_rounds_lie_in_their_cubes.ensures in
    let laws : LawsOfStores = λ k one two stand.
    let by = c.kept_data_are_sound.ensures.either sha256 k one two stand in
    record {
      sound = c.kept_data_are_sound.ensures.sound k by;
      rounds = lie.rounds k by;
      bricks = λ place brick cube lists at. lie.bricks k place brick cube lists by at;
      rows = λ s place brick cube lists at. lie.rows s k place brick cube lists by at;
      none = λ place brick past. lie.none k place brick by past;
    }
    in
    kept-of-record o given run r laws g.D.Disk.view m kept calls keeps.in_run keeps.stands all there

pub returns-clause-lost : goal.returns-clause-lost
returns-clause-lost g c = λ o given run kept calls begun m r keeps all gone.
    let lie = c.kept_rounds_lie_in_their_cubes.ensures in
    let laws : LawsOfStores = λ k one two stand.
    let by = c.kept_data_are_sound.ensures.either sha256 k one two stand in
    record {
      sound = c.kept_data_are_sound.ensures.sound k by;
      rounds = lie.rounds k by;
      bricks = λ place brick cube lists at. lie.bricks k place brick cube lists by at;
      rows = λ s place brick cube lists at. lie.rows s k place brick cube lists by at;
      none = λ place brick past. lie.none k place brick by past;
    }
    in
    lost-of-record o given run r laws g.D.Disk.view m kept calls keeps.in_run keeps.stands all
    (λ lost. c.two_images_stand_for_either.ensures kept lost.round lost.before m lost.adds) gone
