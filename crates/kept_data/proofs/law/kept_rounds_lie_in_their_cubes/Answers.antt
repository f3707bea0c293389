use Rattle.kept_data.proofs.SoundBricks.{brick_kept, seen_rows_kept, none_kept}
use Rattle.kept_data.proofs.SoundRounds.{file_rounds}
use Rattle.kept_data.proofs.law.kept_rounds_lie_in_their_cubes.Goals as goal

pub returns-clause-rounds : goal.returns-clause-rounds
returns-clause-rounds c = file_rounds

pub returns-clause-bricks : goal.returns-clause-bricks
returns-clause-bricks c = brick_kept

pub returns-clause-rows : goal.returns-clause-rows
returns-clause-rows c = seen_rows_kept

pub returns-clause-none : goal.returns-clause-none
returns-clause-none c = none_kept
