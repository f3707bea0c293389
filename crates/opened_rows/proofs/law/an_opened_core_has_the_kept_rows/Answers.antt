use Rattle.shard_cell.specs.Answers.{reader_at}
use Rattle.opened_rows.proofs.OpenedRows.{none-past, opened-rows}
use Rattle.opened_rows.proofs.ToldRows.{rows-told}
use Rattle.opened_rows.proofs.law.an_opened_core_has_the_kept_rows.Goals as goal

pub returns-clause-bricks : goal.returns-clause-bricks
returns-clause-bricks c = λ kept shards sessions cells over o log opens cube brick.
    rows-told kept shards sessions cells over o log opens cube brick

pub returns-clause-rows : goal.returns-clause-rows
returns-clause-rows c = λ kept shards sessions cells by over o log opens cube.
    let sound = c.kept_data_are_sound.ensures.sound kept by in
    let lie = c.kept_rounds_lie_in_their_cubes.ensures in
    let found = c.kept_names_are_found.ensures in
    opened-rows kept shards sessions cells over o log opens (record {
      lists = sound.lists;
      rows = λ place brick d lists at. lie.rows (reader_at kept.epoch) kept place brick d lists by at;
      none = λ place brick past. lie.none kept place brick by past;
      names = λ place dim. found.each kept.cubes kept.names place dim sound.names;
      made = λ place dim d is. found.made kept.cubes kept.names place dim d sound.names is;
    }) cube

pub returns-clause-none : goal.returns-clause-none
returns-clause-none c = λ kept shards sessions cells by over o log opens cube past.
    none-past kept shards sessions cells over o log opens
    (λ place brick behind. c.kept_rounds_lie_in_their_cubes.ensures.none kept place brick by behind) cube past
