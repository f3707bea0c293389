use Rattle.session_replies.proofs.Answers.{created}
use Rattle.session_replies.proofs.Refusing.{cube_exists, faulty_cube, too_many_cubes}
use Rattle.session_replies.proofs.law.cubes_are_answered.Goals as goal

pub returns-clause-created : goal.returns-clause-created
returns-clause-created c = created

pub returns-clause-faulty : goal.returns-clause-faulty
returns-clause-faulty c = faulty_cube

pub returns-clause-exists : goal.returns-clause-exists
returns-clause-exists c = cube_exists

pub returns-clause-too_many : goal.returns-clause-too_many
returns-clause-too_many c = too_many_cubes
