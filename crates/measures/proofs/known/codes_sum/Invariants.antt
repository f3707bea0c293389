use Rattle.std.proofs.Common.{◌≡◌, ◌+◌, ◌%◌, ◌^◌, length}
use Rattle.std.specs.List.{sum_by}
use Rattle.std.specs.Option.{option_map_or}
use Rattle.known_names.specs.KnownTexts.{code_of_known}
use Rattle.measures.specs.Checksums.{codes_sum}
use Rattle.measures.specs.Encoded.{texts_of_names}
use Rattle.measures.proofs.known.codes_sum.Given as goal

abbrev pub invariant-names : goal.invariant-names
invariant-names l =
    (l.sum + sum_by (λ name. option_map_or (λ n. n + 1) (code_of_known l.known name) 0) (texts_of_names l.left)) % 2 ^ 64 ≡ codes_sum l.known (texts_of_names l.names)

abbrev pub decreases-names : goal.decreases-names
decreases-names l = length l.left
