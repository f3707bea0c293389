use Rattle.known_cubes.proofs.CubesMade.{are-cubes, cubes-made, few-cubes, storable-cubes}
use Rattle.known_cubes.proofs.DeskCubes.{cube-shapes, history-cubes}
use Rattle.known_cubes.proofs.law.desk_cubes_are_those_of_the_history.Goals as goal

pub returns-clause-cubes : goal.returns-clause-cubes
returns-clause-cubes g c = history-cubes g.S.LinkedShard.fits g.S.LinkedShard.stands g.S.LinkedShard.says

pub returns-clause-shapes : goal.returns-clause-shapes
returns-clause-shapes g c = λ cells o.
    cube-shapes g.S.LinkedShard.fits g.S.LinkedShard.stands g.S.LinkedShard.says o cells

pub returns-clause-few : goal.returns-clause-few
returns-clause-few g c = few-cubes

pub returns-clause-storable : goal.returns-clause-storable
returns-clause-storable g c = storable-cubes

pub returns-clause-made : goal.returns-clause-made
returns-clause-made g c = cubes-made

pub returns-clause-differ : goal.returns-clause-differ
returns-clause-differ g c = are-cubes
