use Rattle.std.proofs.Common.{sym, ap, arith}
use Rattle.packed_words.specs.Rows.{NumberRows}
use Rattle.packed_words.proofs.HeldRows.{seen_length}
use Rattle.packed_words.proofs.packed_rows.PackedRows.len.Goals as goal

pub returns-clause-rows : goal.returns-clause-rows
returns-clause-rows c = sym (seen_length c.self.inside c.args.self.now c.self.view_is)

pub returns-clause-within : goal.returns-clause-within
returns-clause-within c =
    let long = seen_length c.self.inside c.args.self.now c.self.view_is in
    let room = ap (λ (v : NumberRows). v.room) c.self.view_is in
    omega (arith, c.self.invariant.within)
