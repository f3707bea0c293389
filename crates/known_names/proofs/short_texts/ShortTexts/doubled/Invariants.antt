use Rattle.std.proofs.Common.{ℕ, List}
use Rattle.known_names.specs.Slots.{AreRight}
use Rattle.known_names.proofs.short_texts.ShortTexts.doubled.Given as goal

abbrev pub invariant-slots : goal.invariant-slots
invariant-slots l = (known : List (List ℕ × ℕ)) → AreRight known l.self.slots.items → AreRight known l.more.slots.items
