use Rattle.std.proofs.Common.{◌≡◌, take}
use Rattle.aosi_desk.proofs.search.copy_decls.Given as goal

abbrev pub invariant-decls : goal.invariant-decls
invariant-decls l = l.copied.items ≡ take l.decl-index l.decls
