-- A vector of epochs as contracts see it.
-- Source: AOSI (ICDE 2018), the epochs vector.
use Rattle.std.specs.Prelude.{ℕ, ◌+◌, List, length}
use Rattle.cube_values.specs.declared.entry.Entry.{Entry}

-- A vector of epochs: its entries, and how many more there is memory for.
pub record Vector : Type 0 where
  pub entries : List Entry
  pub spare : ℕ

-- How many entries there is memory for in all.
abbrev pub room_of : Vector → ℕ
room_of v = length v.entries + v.spare
