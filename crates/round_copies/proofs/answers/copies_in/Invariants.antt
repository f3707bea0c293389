use Rattle.std.proofs.Common.{◌≡◌, ◌≤◌, ◌++◌, length, map}
use Rattle.std.specs.Prelude.{vec_capacity}
use Rattle.round_copies.specs.CopyAnswers.{copy_answer}
use Rattle.round_copies.proofs.answers.copies_in.Given as goal

abbrev pub invariant-answers : goal.invariant-answers
invariant-answers l =
    (map copy_answer l.copies.items ++ l.left.items ≡ l.fn.answers.items)
    × (length l.copies.items ≡ l.counter)
    × (length l.fn.answers.items ≤ vec_capacity l.copies)
