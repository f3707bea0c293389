use Rattle.std.proofs.Common.{◌≡◌, ◌+◌, ◌-◌, refl, sym, ap, ◌∙◌, arith, inl, inr}
use Rattle.std.proofs.lemmas.Bool.{cases_lt}
use Rattle.cube_values.specs.BitRows.{is_set}
use Rattle.packed_words.proofs.packed_words.copy_bits.Goals as goal

pub pieces-init : goal.pieces-init
pieces-init c = record {
  within = omega arith;
  long = refl;
  inside = λ k h. absurd (omega arith);
  below = λ i h. refl;
  above = λ i h. refl;
}

pub pieces-preserved : goal.pieces-preserved
pieces-preserved c =
    let l = c.pieces in
    let r = c.put_bits.ensures in
    let new = c.put_bits.new.words in
    record {
      within = omega arith;
      long = r.long ∙ l.invariant.long;
      inside = λ k h. elim (cases_lt k l.copied) [
        | inl a ↦ r.below (c.args.to + k) (omega arith) ∙ l.invariant.inside k a
        | inr a ↦
            let place : c.args.to + l.copied + (k - l.copied) ≡ c.args.to + k = omega arith in
            let there : c.args.from + l.copied + (k - l.copied) ≡ c.args.from + k = omega arith in
            sym (ap (is_set new) place)
            ∙ r.inside (k - l.copied) (omega arith)
            ∙ c.read_bits-value.ensures.bits (k - l.copied) (omega arith)
            ∙ ap (is_set l.words) there
            ∙ l.invariant.above (c.args.from + k) (omega (arith, c.requires.down))
      ];
      below = λ i h. r.below i (omega arith) ∙ l.invariant.below i h;
      above = λ i h. r.above i (omega arith) ∙ l.invariant.above i (omega arith);
    }
