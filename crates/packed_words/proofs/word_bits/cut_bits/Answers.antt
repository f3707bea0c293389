use Rattle.std.proofs.Common.{◌≡◌, ◌+◌, ◌/◌, ◌%◌, ◌^◌, ◌<◌, take, length, get_or, ap, ◌∙◌, arith}
use Rattle.std.proofs.lemmas.List.{get_or_default}
use Rattle.packed_words.proofs.WordLists.{cut_whole, cut_word}
use Rattle.packed_words.proofs.word_bits.cut_bits.Goals as goal

pub returns-then-len-gt0-clause-bits : goal.returns-then-len-gt0-clause-bits
returns-then-len-gt0-clause-bits c =
    let words = c.args.words.now in
    let at = c.args.len / 64 in
    let n = c.div_ceil.result in
    let left = c.truncate.new.self in
    let taken = c.truncate.ensures.items in
    let count : n ≡ at + 1 = omega (arith, c.div_ceil.ensures) in
    let there : at < length left.items = omega (arith, left.ok.0, words.ok.0, c.truncate.ensures.len) in
    let word : c.low_part.result ≡ get_or (take n words.items) at 0 % 2 ^ (c.args.len % 64) =
    c.low_part.ensures ∙ ap (λ w. w % 2 ^ (c.args.len % 64)) (c.index.ensures ∙ get_or_default left.items at c.index.result.now 0 there ∙ ap (λ xs. get_or xs at 0) taken) in
    rw (word, taken) (cut_word words.items c.args.len n (omega (arith, words.ok.0)) (omega arith) count)

pub returns-else-len-gt0-clause-bits : goal.returns-else-len-gt0-clause-bits
returns-else-len-gt0-clause-bits c =
    let words = c.args.words.now in
    let count : c.div_ceil.result ≡ c.args.len / 64 = omega (arith, c.div_ceil.ensures) in
    rw (c.truncate.ensures.items, count) (cut_whole words.items c.args.len (omega (arith, words.ok.0)) (omega arith))
