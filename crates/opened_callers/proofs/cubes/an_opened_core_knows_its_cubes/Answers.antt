use Rattle.opened_callers.proofs.ToldCubes.{storable-told}
use Rattle.opened_callers.proofs.cubes.an_opened_core_knows_its_cubes.Goals as goal

pub returns : goal.returns
returns c = λ kept shards sessions cells by over.
    storable-told kept shards sessions cells over (c.kept_data_are_sound.ensures.sound kept by).storable
