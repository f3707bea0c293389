use Rattle.following_rounds.proofs.MadeCubes.{may-be-made}
use Rattle.following_rounds.proofs.law.cubes_behind_others_may_be_made.Goals as goal

pub returns : goal.returns
returns c = may-be-made
