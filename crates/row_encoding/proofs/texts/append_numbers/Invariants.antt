use Rattle.std.proofs.Common.{◌≡◌, ◌++◌, take}
use Rattle.condition_spans.specs.Codes.{codes_among, texts_at}
use Rattle.row_encoding.specs.FinalCodes.{Grow, InTheEnd, dim_at}
use Rattle.row_encoding.specs.CodedTexts.{AreNames, HavePlacesAmong, ShortTextAmong}
use Rattle.row_encoding.proofs.texts.append_numbers.Given as goal

abbrev pub invariant-values : goal.invariant-values
invariant-values g l = record {
  numbers : InTheEnd (g.E.Encoder.may_end l.encoder) l.place (λ lists. AreNames lists
      → l.numbers.items ≡ l.fn.numbers.items ++ codes_among (texts_at lists l.dim) (take l.value-index l.values));
  places : InTheEnd (g.E.Encoder.may_end l.encoder) l.place (λ lists.
      HavePlacesAmong (dim_at l.cube.dims l.dim) (texts_at lists l.dim) (take l.value-index l.values));
  grow : Grow g.E.Encoder.may_end g.E.Encoder.suits g.E.Encoder.has_name g.E.Encoder.keeps l.place l.cube (ShortTextAmong l.dim l.values) l.fn.encoder l.encoder;
}
