use Rattle.std.proofs.Common.{◌≡◌, map, take}
use Rattle.run_words.proofs.command_line.texts_of.Given as goal

abbrev pub invariant-words : goal.invariant-words
invariant-words l = l.texts.items ≡ map (λ word. word.now) (take l.word-index l.words)
