use Rattle.row_encoding.proofs.CubeEnds.{may_end_as_they_are}
use Rattle.row_encoding.proofs.law.dictionaries_may_end_as_they_are.Goals as goal

pub returns : goal.returns
returns c = may_end_as_they_are
