use Rattle.std.proofs.Common.{◌≡◌, ◌*◌, length, sum, sym, subst, ap, ◌∙◌, arith}
use Rattle.cube_values.specs.BitRows.{word_count}
use Rattle.packed_words.specs.Rows.{NumberRows, AreWords, rows_of_bits}
use Rattle.packed_words.proofs.HeldRows.{long_rows, words_of}
use Rattle.packed_words.proofs.RowLists.{rows_long}
use Rattle.packed_words.proofs.packed_rows.PackedRows.words.Goals as goal

pub returns : goal.returns
returns c =
    let old = c.self.inside in
    let widths = old.widths.items in
    let rows = rows_of_bits widths old.rows old.bits.bits in
    let count = rows_long widths old.rows old.bits.bits in
    let bits : length old.bits.bits ≡ length rows * sum widths = long_rows widths old.width old.rows old.room old.bits c.self.invariant ∙ ap (λ n. n * sum widths) (sym count) in
    subst (λ (v : NumberRows). AreWords v.widths v.rows c.words.result.now) c.self.view_is (record {
      count = c.words.ensures.count ∙ ap word_count bits;
      bits = λ t i k ht hi hk. words_of widths old.width old.rows old.room old.bits c.self.invariant c.words.result.now c.words.ensures.bits t i k (omega (arith, count)) hi hk;
      unused = λ i h. c.words.ensures.unused i (omega (arith, bits));
    })
