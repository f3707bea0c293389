-- The numbers in a chain.
use Rattle.std.specs.Prelude.{ℕ, List, [], ◌∷◌}
use Rattle.turn_board.specs.declared.numbers.Link.{Link}
use Rattle.turn_board.specs.declared.numbers.Link.TheVariants.{End, More}

abbrev pub chain_numbers : Link → List ℕ
chain_numbers End = []
chain_numbers (More n rest) = n ∷ rest.value
