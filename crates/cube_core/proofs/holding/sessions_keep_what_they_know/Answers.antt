use Rattle.cube_core.proofs.Staying.{cube-told, cubes-stay, name-told, names-stay, row-stays, query-stays, holders-stay}
use Rattle.cube_core.proofs.holding.sessions_keep_what_they_know.Goals as goal

pub returns-clause-cube : goal.returns-clause-cube
returns-clause-cube c = cube-told

pub returns-clause-cubes : goal.returns-clause-cubes
returns-clause-cubes c = cubes-stay

pub returns-clause-name : goal.returns-clause-name
returns-clause-name c = name-told

pub returns-clause-names : goal.returns-clause-names
returns-clause-names c = names-stay

pub returns-clause-row : goal.returns-clause-row
returns-clause-row c = row-stays

pub returns-clause-query : goal.returns-clause-query
returns-clause-query c = query-stays

pub returns-clause-holders : goal.returns-clause-holders
returns-clause-holders c = holders-stay
