use Rattle.session_desk.proofs.FindingCubes.{finds_its_cube, finds_its_names}
use Rattle.session_desk.proofs.law.statements_find_their_cubes.Goals as goal

pub returns-clause-cube : goal.returns-clause-cube
returns-clause-cube c = finds_its_cube

pub returns-clause-names : goal.returns-clause-names
returns-clause-names c = finds_its_names
