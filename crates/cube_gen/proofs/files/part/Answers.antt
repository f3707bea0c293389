use Rattle.std.proofs.Common.{◌≡◌, ◌+◌, suc, ◌∙◌, ap, sym, arith}
use Rattle.cube_gen.specs.Generated.{next_number, number_at}
use Rattle.cube_gen.proofs.Lines.{lines_more}
use Rattle.cube_gen.proofs.files.part.Goals as goal

pub rows-preserved : goal.rows-preserved
rows-preserved c =
    let k = c.rows.k in
    let n = c.args.n in
    let at : suc k ≡ k + 1 = omega arith in
    let number : c.next_number-x.result ≡ number_at n (suc k) = c.next_number-x.ensures ∙ ap next_number c.rows.invariant.number in
    record {
      number = number ∙ ap (number_at n) at;
      lines =
          c.in_ok-put_row.ensures
          ∙ rw (c.high_bits.ensures, number, c.rows.invariant.lines) (sym (lines_more n c.args.session k));
    }
