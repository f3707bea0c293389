use Rattle.opened_core.proofs.OpenedCells.{open-over}
use Rattle.opened_core.proofs.law.kept_cells_open_runs.Goals as goal

pub returns : goal.returns
returns c = λ kept shards sessions cells limits by over.
    let lie = c.kept_rounds_lie_in_their_cubes.ensures in
    open-over kept shards sessions cells
    (record {
      sound = c.kept_data_are_sound.ensures.sound kept by;
      rounds = lie.rounds kept by;
      bricks = λ place brick cube lists at. lie.bricks kept place brick cube lists by at;
      rows = λ s place brick cube lists at. lie.rows s kept place brick cube lists by at;
      none = λ place brick past. lie.none kept place brick by past;
    }) limits over
