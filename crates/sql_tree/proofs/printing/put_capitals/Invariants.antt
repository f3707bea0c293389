use Rattle.std.proofs.Common.{◌≡◌, ◌++◌, map, take}
use Rattle.std.specs.Char.{to_ascii_uppercase}
use Rattle.sql_tree.proofs.printing.put_capitals.Given as goal

abbrev pub invariant-letters : goal.invariant-letters
invariant-letters l = l.out.items ≡ l.fn.out.items ++ map to_ascii_uppercase (take l.letter-index l.letters)
