-- The cover of a brick from those of its dimensions.
use Rattle.std.specs.Prelude.{ℕ, ◌<◌, suc}
use Rattle.brick_address.specs.declared.cover.Cover.{Cover}
use Rattle.brick_address.specs.declared.cover.Cover.TheVariants.{Inside, Outside, Cut}
use Rattle.brick_address.specs.declared.share.Share.{Share}
use Rattle.brick_address.specs.declared.share.Share.TheVariants.{Whole, Empty, Partial}

-- A cut is in one of so many dimensions.
abbrev pub IsBelow : Cover → ℕ → Type 0
IsBelow (Cut dim) dims = dim < dims
IsBelow cover dims = Unit {0}

-- A first dimension of which nothing is there puts all outside; one of which some is there cuts first.
abbrev pub cover_with : Share → Cover → Cover
cover_with Empty others = Outside
cover_with first Outside = Outside
cover_with Whole Inside = Inside
cover_with Whole (Cut dim) = Cut (suc dim)
cover_with Partial others = Cut 0
