use Rattle.std.proofs.Common.{◌≡◌, ◌++◌, take}
use Rattle.cube_language.specs.Quotes.{opened}
use Rattle.cube_language.proofs.put.put_quoted.Given as goal

abbrev pub invariant-bytes : goal.invariant-bytes
invariant-bytes l = l.out.items ≡ l.fn.out.items ++ opened (take l.byte-index l.text)
