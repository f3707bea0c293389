use Rattle.copied_rows.proofs.CopiedBricks.{copied-bricks}
use Rattle.copied_rows.proofs.law.copies_have_rows_of_their_bricks.Goals as goal

pub returns : goal.returns
returns c = copied-bricks
