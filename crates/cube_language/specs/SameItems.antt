-- When two items are one.
use Rattle.std.specs.Prelude.{◌≡◌, Bool, true, false}
use Rattle.std.specs.Bool.{Decides}
use Rattle.std.specs.Str.{bytes_eq}
use Rattle.std.proofs.Common.{rules}
use Rattle.std.proofs.lemmas.Slice.Eq.{bytes_eq-Decides}
use Rattle.cube_language.specs.declared.statement.Item.{Item}
use Rattle.cube_language.specs.declared.statement.Item.TheVariants.{Plain, Sum, Min, Max, Avg, CountAll}

-- Two items are one.
abbrev pub item_eq : Item → Item → Bool
item_eq (Plain a) (Plain b) = bytes_eq a b
item_eq (Sum a) (Sum b) = bytes_eq a b
item_eq (Min a) (Min b) = bytes_eq a b
item_eq (Max a) (Max b) = bytes_eq a b
item_eq (Avg a) (Avg b) = bytes_eq a b
item_eq CountAll CountAll = true
item_eq a b = false

-- The test decides it.
pub item_eq-Decides : (a b : Item) → Decides (item_eq a b) (a ≡ b)
item_eq-Decides (Plain a) (Plain b) = search (rules, bytes_eq-Decides a b)
item_eq-Decides (Sum a) (Sum b) = search (rules, bytes_eq-Decides a b)
item_eq-Decides (Min a) (Min b) = search (rules, bytes_eq-Decides a b)
item_eq-Decides (Max a) (Max b) = search (rules, bytes_eq-Decides a b)
item_eq-Decides (Avg a) (Avg b) = search (rules, bytes_eq-Decides a b)
item_eq-Decides CountAll CountAll = search rules
item_eq-Decides a b = search rules
