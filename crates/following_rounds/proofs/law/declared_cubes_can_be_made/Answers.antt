use Rattle.following_rounds.proofs.ProperCubes.{declared-can-be-made}
use Rattle.following_rounds.proofs.law.declared_cubes_can_be_made.Goals as goal

pub returns : goal.returns
returns c = declared-can-be-made
