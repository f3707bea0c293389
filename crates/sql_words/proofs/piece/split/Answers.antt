use Rattle.std.proofs.Common.{sym, ap, ◌∙◌}
use Rattle.std.specs.List.{position_from}
use Rattle.cube_language.specs.Pieces.{is_long}
use Rattle.sql_words.proofs.Bodies.{none_long}
use Rattle.sql_words.proofs.piece.split.Goals as goal

pub returns-in-None-clause-found : goal.returns-in-None-clause-found
returns-in-None-clause-found c =
    let found = rw c.in-Some.is at c.in_ok-pieces.ensures.some in
    record {
      text = c.in_default.ensures.cases.1;
      splits = found.0;
      few = found.1;
      short = none_long 1 c.in-Some.pieces (ap (position_from is_long 1) (sym c.as_slice.ensures) ∙ sym c.first_long.ensures ∙ c.in-None.is);
    }
