use Rattle.std.proofs.Common.{◌≡◌, ◌<◌, ◌/◌, length, get_or, sym, ◌∙◌, arith}
use Rattle.std.proofs.lemmas.List.{get_or_default}
use Rattle.packed_words.proofs.WordLists.{appended_none, appended_whole, appended_last, appended_two}
use Rattle.packed_words.proofs.word_bits.push_bits.Goals as goal

pub returns-then-width-gt0-clause-bits : goal.returns-then-width-gt0-clause-bits
returns-then-width-gt0-clause-bits c =
    let words = c.args.words.now in
    rw c.push_reserved.ensures.items (appended_whole words.items c.args.len c.args.value (sym words.ok.0 ∙ c.requires.held) (omega arith) (omega arith))

pub returns-else-width-gt0-clause-bits : goal.returns-else-width-gt0-clause-bits
returns-else-width-gt0-clause-bits c =
    appended_none c.args.words.now.items c.args.len c.args.value c.args.width c.requires.unused c.requires.fits (omega arith)

pub returns-then-used-width-gt64-clause-bits : goal.returns-then-used-width-gt64-clause-bits
returns-then-used-width-gt64-clause-bits c =
    let words = c.args.words.now in
    let at = c.args.len / 64 in
    let there : at < length words.items = omega (arith, words.ok.0, c.requires.held) in
    let last : c.index_mut.result.now ≡ get_or words.items at 0 = c.index_mut.ensures.value ∙ get_or_default words.items at c.index_mut.result.now 0 there in
    rw (c.push_reserved-then-used-width-gt64.ensures.items, last) (appended_two words.items c.args.len c.args.value c.args.width (sym words.ok.0 ∙ c.requires.held) (omega arith) c.requires.unused c.requires.fits c.requires.width)

pub returns-else-used-width-gt64-clause-bits : goal.returns-else-used-width-gt64-clause-bits
returns-else-used-width-gt64-clause-bits c =
    let words = c.args.words.now in
    let at = c.args.len / 64 in
    let there : at < length words.items = omega (arith, words.ok.0, c.requires.held) in
    let last : c.index_mut.result.now ≡ get_or words.items at 0 = c.index_mut.ensures.value ∙ get_or_default words.items at c.index_mut.result.now 0 there in
    rw last (appended_last words.items c.args.len c.args.value c.args.width (sym words.ok.0 ∙ c.requires.held) (omega arith) c.requires.unused c.requires.fits (omega arith))
