use Rattle.row_encoding.proofs.CodedFronts.{IsCodedFront}
use Rattle.row_encoding.proofs.values.encode_values.Given as goal

abbrev pub invariant-values : goal.invariant-values
invariant-values g l =
    IsCodedFront g.E.Encoder.may_end g.E.Encoder.suits g.E.Encoder.has_name g.E.Encoder.keeps g.E.Encoder.has_given l.place l.cube l.values l.fn.encoder l.encoder l.coords.items l.i
