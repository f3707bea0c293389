use Rattle.played_scripts.proofs.Played.{nothing_played, one_more_played}
use Rattle.played_scripts.proofs.law.a_script_is_played_by_statements.Goals as goal

pub returns-clause-none : goal.returns-clause-none
returns-clause-none g c = nothing_played g.B.Behind.goes_on

pub returns-clause-next : goal.returns-clause-next
returns-clause-next g c = one_more_played g.B.Behind.goes_on
