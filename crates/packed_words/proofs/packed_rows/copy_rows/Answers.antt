use Rattle.std.proofs.Common.{◌≡◌, ◌+◌, refl, sym, ap, ◌∙◌, arith, inl, inr}
use Rattle.std.specs.Int.{from_bool}
use Rattle.std.proofs.lemmas.Bool.{cases_Bool}
use Rattle.packed_words.specs.Words.{PackedBits}
use Rattle.packed_words.proofs.RowLists.{chosen_none, chosen_passed, chosen_copied, chosen_all}
use Rattle.packed_words.proofs.packed_rows.copy_rows.Goals as goal

pub loop-row-init : goal.loop-row-init
loop-row-init c = record {
  chosen = chosen_none c.args.width c.args.bits.now.bits c.args.words.now.bits c.args.rows;
  room = refl;
}

pub loop-row-preserved : goal.loop-row-preserved
loop-row-preserved c =
    let l = c.loop-row in
    let bits = c.args.bits.now.bits in
    let old = c.args.words.now.bits in
    elim (cases_Bool c.get.result) [
      | inl t ↦
          let e = c.copy_row-left.ensures.copied t in
          let one = c.copy_row-left.ensures.count ∙ ap from_bool t in
          record {
            chosen = rw (e, one) (chosen_copied c.args.width bits old l.words.bits c.args.rows l.row l.left (omega arith) c.requires.bits c.requires.long l.invariant.chosen (sym c.get.ensures ∙ t));
            room = ap (λ (w : PackedBits). w.room) e ∙ l.invariant.room;
          }
      | inr f ↦
          let e = c.copy_row-left.ensures.same f in
          let same : l.left + c.copy_row-left.result ≡ l.left = omega (arith, c.copy_row-left.ensures.count, ap from_bool f) in
          record {
            chosen = rw (e, same) (chosen_passed c.args.width bits old l.words.bits c.args.rows l.row l.left (omega arith) c.requires.bits c.requires.long l.invariant.chosen (sym c.get.ensures ∙ f));
            room = ap (λ (w : PackedBits). w.room) e ∙ l.invariant.room;
          }
    ]

pub returns-clause-rows : goal.returns-clause-rows
returns-clause-rows c =
    let l = c.loop-row in
    λ widths e. chosen_all widths c.args.width c.args.bits.now.bits c.args.words.now.bits l.words.bits c.args.rows l.row l.left (omega (arith, c.requires.bits)) e l.invariant.chosen
