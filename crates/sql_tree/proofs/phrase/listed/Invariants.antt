use Rattle.std.proofs.Common.{◌≤◌, length}
use Rattle.cube_language.specs.Symbols.{symbols_of}
use Rattle.sql_tree.specs.Places.{AreIn}
use Rattle.sql_tree.proofs.Lists.{IsListing}
use Rattle.sql_tree.proofs.phrase.listed.Given as goal

abbrev pub invariant-parts : goal.invariant-parts
invariant-parts g l = IsListing l.between g.T.Phrase.reading (symbols_of l.text l.tokens) l.parts (symbols_of l.text l.left) × AreIn l.text l.left × (length l.left ≤ length l.tokens)

abbrev pub decreases-parts : goal.decreases-parts
decreases-parts g l = length l.left
