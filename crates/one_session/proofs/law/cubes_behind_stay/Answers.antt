use Rattle.one_session.proofs.CubesBehind.{cube_stays, cubes_stay}
use Rattle.one_session.proofs.law.cubes_behind_stay.Goals as goal

pub returns-clause-all : goal.returns-clause-all
returns-clause-all c = cubes_stay

pub returns-clause-each : goal.returns-clause-each
returns-clause-each c = cube_stays
