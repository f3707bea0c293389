use Rattle.std.proofs.Common.{◌≡◌, w64, to_z, of_z, arith}
use Rattle.std.proofs.lemmas.Int.{to_z-of_z}
use Rattle.sql_words.proofs.TokenFronts.{number_stands}
use Rattle.sql_words.proofs.number.number_first.Goals as goal

pub returns-in-Some-clause-some : goal.returns-in-Some-clause-some
returns-in-Some-clause-some c =
    let same : to_z w64 (of_z w64 c.in-Some.value) ≡ c.in-Some.value = grind (arith, to_z-of_z) in
    let value = c.in-Some.ensures.some in
    rw (same, c.number_len-len.ensures) (number_stands c.in-Some.value c.args.bytes.now c.requires (rw (c.split_at.ensures.front, c.number_len-len.ensures) at value.0) value.1)
