use Rattle.recorded_rounds.proofs.RowsOnRecord.{cube-for-record}
use Rattle.recorded_rounds.proofs.law.what_a_file_keeps_stands_for_the_record.Goals as goal

pub returns : goal.returns
returns c = λ o given es kept cube d by r has shapes is.
    let sound = c.kept_data_are_sound.ensures.sound kept by in
    let lie = c.kept_rounds_lie_in_their_cubes.ensures in
    cube-for-record o given es kept cube d (record {
      sound = sound;
      rounds = lie.rounds kept by;
      bricks = λ place brick cube lists at. lie.bricks kept place brick cube lists by at;
      rows = λ s place brick cube lists at. lie.rows s kept place brick cube lists by at;
      none = λ place brick past. lie.none kept place brick by past;
    }) r has shapes is
