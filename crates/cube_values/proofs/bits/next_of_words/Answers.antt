use Rattle.std.proofs.Common.{◌≡◌, ℕ, ◌+◌, ◌-◌, ◌%◌, ◌<◌, ◌≤◌, arith, inl, inr, not}
use Rattle.std.proofs.lemmas.Bool.{cases_lt}
use Rattle.cube_values.specs.BitRows.{is_set}
use Rattle.cube_values.proofs.BitNext.{unlike_before, alike_there}
use Rattle.cube_values.proofs.bits.next_of_words.Goals as goal

pub returns-then-len-at-clause-between : goal.returns-then-len-at-clause-between
returns-then-len-at-clause-between c = λ i a b.
    let at = c.words.at in
    let n = c.next_in_word.result in
    elim (cases_lt i at) [
      | inl h ↦ c.words.invariant.between i a h
      | inr h ↦ unlike_before c.args.words.now at n i c.args.on (omega arith) (omega arith) c.next_in_word.ensures.between h (omega arith)
    ]

pub returns-then-low-step-lt64-clause-between : goal.returns-then-low-step-lt64-clause-between
returns-then-low-step-lt64-clause-between c = λ i a b.
    let at = c.words.at in
    let n = c.next_in_word.result in
    elim (cases_lt i at) [
      | inl h ↦ c.words.invariant.between i a h
      | inr h ↦ unlike_before c.args.words.now at n i c.args.on (omega arith) (omega arith) c.next_in_word.ensures.between h b
    ]

pub returns-then-low-step-lt64-clause-found : goal.returns-then-low-step-lt64-clause-found
returns-then-low-step-lt64-clause-found c = λ _.
    let n = c.next_in_word.result in
    alike_there c.args.words.now c.words.at n c.args.on (omega arith) (omega arith) (c.next_in_word.ensures.found (omega arith))

pub words-preserved : goal.words-preserved
words-preserved c = record {
  after = omega arith;
  within = omega arith;
  between = λ i a b.
      let at = c.words.at in
      let n = c.next_in_word.result in
      elim (cases_lt i at) [
        | inl h ↦ c.words.invariant.between i a h
        | inr h ↦ unlike_before c.args.words.now at n i c.args.on (omega arith) (omega arith) c.next_in_word.ensures.between h b
      ];
}
