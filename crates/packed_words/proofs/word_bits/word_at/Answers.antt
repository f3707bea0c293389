use Rattle.std.proofs.Common.{◌+◌, ◌%◌, ◌/◌, get_or, ◌∙◌, arith, inl, inr}
use Rattle.std.proofs.lemmas.Bool.{cases_lt}
use Rattle.packed_words.proofs.Shifts.{has_shr}
use Rattle.packed_words.proofs.WordLists.{word_here, word_next}
use Rattle.packed_words.proofs.word_bits.word_at.Goals as goal

pub returns-then-shift-width-le64 : goal.returns-then-shift-width-le64
returns-then-shift-width-le64 c =
    λ k h.
    has_shr (get_or c.args.words.now (c.args.place / 64) 0) (c.args.place % 64) k
    ∙ word_here c.args.words.now c.args.place k (omega arith)

pub returns-else-shift-width-le64 : goal.returns-else-shift-width-le64
returns-else-shift-width-le64 c =
    λ k h. elim (cases_lt (c.args.place % 64 + k) 64) [
      | inl a ↦ c.straddling_word.ensures.low k a ∙ word_here c.args.words.now c.args.place k a
      | inr a ↦
          c.straddling_word.ensures.high k (omega arith) a ∙ word_next c.args.words.now c.args.place k (omega arith) a
    ]
