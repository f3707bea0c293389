use Rattle.std.proofs.Common.{◌≡◌, ◌++◌, length, string_bytes}
use denote.Text.{Utf8}
use denote.Shadow.{shadow}
use Rattle.cube_language.specs.Symbols.{halved}
use Rattle.sql_tree.proofs.quote.halved.Given as goal

-- what was halved and what is left, halved, are the whole
abbrev pub invariant-quotes : goal.invariant-quotes
invariant-quotes l = shadow (Utf8 l.left) × (string_bytes l.text ++ halved l.left ≡ halved l.inner)

abbrev pub decreases-quotes : goal.decreases-quotes
decreases-quotes l = length l.left
