use Rattle.opened_callers.proofs.OpenedNames.{opened-names}
use Rattle.opened_callers.proofs.cubes.an_opened_core_has_its_dictionaries.Goals as goal

pub returns : goal.returns
returns c = λ kept shards sessions cells by over o log run opens events is_run.
    let found = c.kept_names_are_found.ensures in
    let desk = c.desk_cubes_are_those_of_the_history.ensures in
    let named = (c.kept_data_are_sound.ensures.sound kept by).names in
    opened-names kept shards sessions cells over named
    (λ cube dim d is. found.made kept.cubes kept.names cube dim d named is)
    o log run opens (desk.made o run is_run)
    (λ place d is. desk.shapes cells o log run place d opens events is_run is)
