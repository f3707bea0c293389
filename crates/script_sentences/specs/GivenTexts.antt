-- Texts and scripts as a session may be given them.
-- Source: this project's own.
use Rattle.std.specs.Prelude.{◌≤◌, length}
use Rattle.std.specs.Global.{Vec}
use Rattle.std.specs.List.{AllByRecursion}
use Rattle.cube_language.specs.Grammar.{IsProper}
use Rattle.cube_language.specs.declared.piece.TheConstants.{MOST_STATEMENTS}
use Rattle.script_sentences.specs.declared.said.Said.{Said}
use Rattle.script_sentences.specs.declared.said.Said.TheVariants as saying

-- A text says what has the form of a statement, or no statement.
abbrev pub IsProperSaid : Said → Type 0
IsProperSaid (saying.Statement s) = IsProper s
IsProperSaid (saying.Nothing fault) = Unit {0}

-- A script of no more texts than may be, each of which says what has the form of a statement, or no statement.
pub record MayBeSaid (script : Vec Said) : Type 0 where
  pub few : length script.items ≤ MOST_STATEMENTS
  pub proper : AllByRecursion IsProperSaid script.items
