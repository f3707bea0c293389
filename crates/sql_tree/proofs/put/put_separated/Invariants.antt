use Rattle.std.proofs.Common.{◌≡◌, ◌++◌, take}
use Rattle.std.specs.List.{flat_map}
use Rattle.cube_language.specs.Grammar.{form_behind}
use Rattle.sql_tree.specs.Reading.{sign_symbol}
use Rattle.sql_tree.proofs.put.put_separated.Given as goal

abbrev pub invariant-others : goal.invariant-others
invariant-others g l = l.out.items ≡ l.initial.out.items ++ flat_map (form_behind (sign_symbol l.between) g.T.Form.form) (take l.part-index l.others)
