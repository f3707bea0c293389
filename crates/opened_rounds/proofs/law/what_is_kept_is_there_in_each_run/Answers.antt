use Rattle.opened_rounds.proofs.KeptInRuns.{kept-in-run}
use Rattle.opened_rounds.proofs.law.what_is_kept_is_there_in_each_run.Goals as goal

pub returns : goal.returns
returns c = λ kept shards sessions cells by over o log run opens is_run.
    let sound = c.kept_data_are_sound.ensures.sound kept by in
    let found = c.kept_names_are_found.ensures in
    let lie = c.kept_rounds_lie_in_their_cubes.ensures in
    let rows = c.an_opened_core_has_the_kept_rows.ensures in
    kept-in-run kept shards sessions cells over o log opens (record {
      lists = sound.lists;
      names = λ cube dim. found.each kept.cubes kept.names cube dim sound.names;
      made = λ cube dim d is. found.made kept.cubes kept.names cube dim d sound.names is;
    }) (λ later es cubes names is. c.what_is_kept_stays_and_grows_by_rounds.ensures.later o later es cubes names is)
    (record {
      lists = sound.lists;
      bricks = λ cube brick d lists at. lie.bricks kept cube brick d lists by at;
      past = λ cube brick past. lie.none kept cube brick by past;
      same = λ cube brick. rows.bricks kept shards sessions cells over o log opens cube brick;
      none = λ cube past. rows.none kept shards sessions cells by over o log opens cube past;
    }) run is_run
