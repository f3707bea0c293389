use Rattle.std.proofs.Common.{◌≤◌, length}
use Rattle.std.specs.Prelude.{All}
use Rattle.cube_language.specs.Pieces.{statements_limit}
use Rattle.sql_words.specs.Texts.{IsTextAt}
use Rattle.sql_words.proofs.PieceTexts.{IsLeft}
use Rattle.sql_words.proofs.PiecesLeft.{AreSplit}
use Rattle.sql_words.proofs.piece.pieces_of.Given as goal

abbrev pub invariant-pieces : goal.invariant-pieces
invariant-pieces l = record { split : AreSplit l.script l.pieces l.rest; few : length l.pieces ≤ statements_limit; texts : All (IsTextAt l.script) l.pieces; left : IsLeft l.script l.rest }

abbrev pub decreases-pieces : goal.decreases-pieces
decreases-pieces l = length l.rest
