use Rattle.std.proofs.Common.{◌≡◌, ◌+◌, drop}
use Rattle.std.specs.List.{position_from}
use Rattle.cube_language.specs.Pieces.{is_long}
use Rattle.sql_words.proofs.piece.first_long.Given as goal

abbrev pub invariant-loop-i : goal.invariant-loop-i
invariant-loop-i l = position_from is_long (l.i + 1) (drop l.i l.pieces) ≡ position_from is_long 1 l.pieces
