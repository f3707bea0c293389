use Rattle.session_desk.proofs.NamedApart.{named_apart}
use Rattle.session_desk.proofs.law.cubes_of_a_desk_are_named_apart.Goals as goal

pub returns : goal.returns
returns c = named_apart
