use Rattle.row_encoding.proofs.InsertRows.{IsCodedInsert}
use Rattle.row_encoding.proofs.rows.encode_rows.Given as goal

abbrev pub invariant-rows : goal.invariant-rows
invariant-rows g l =
    IsCodedInsert g.E.Encoder.may_end g.E.Encoder.suits g.E.Encoder.has_name g.E.Encoder.keeps g.E.Encoder.has_given l.place l.cube l.rows l.fn.encoder l.encoder l.initial.batch l.batch l.values-index
