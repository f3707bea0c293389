use Rattle.played_scripts.proofs.Played.{merge_of_played, text_of_played}
use Rattle.played_scripts.proofs.law.played_scripts_make_the_text.Goals as goal

pub returns-clause-merge : goal.returns-clause-merge
returns-clause-merge c = merge_of_played

pub returns-clause-text : goal.returns-clause-text
returns-clause-text c = text_of_played
