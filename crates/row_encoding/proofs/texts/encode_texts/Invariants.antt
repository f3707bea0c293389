use Rattle.std.proofs.Common.{◌≡◌, take}
use Rattle.condition_spans.specs.Codes.{codes_in}
use Rattle.row_encoding.specs.FinalCodes.{Grow, InTheEnd}
use Rattle.row_encoding.specs.CodedTexts.{AreNames, ComparesWith, HavePlaces}
use Rattle.row_encoding.proofs.texts.encode_texts.Given as goal

abbrev pub invariant-conditions : goal.invariant-conditions
invariant-conditions g l = record {
  numbers : InTheEnd (g.E.Encoder.may_end l.encoder) l.place (λ lists. AreNames lists → l.numbers.items ≡ codes_in lists (take l.condition-index l.conditions));
  places : InTheEnd (g.E.Encoder.may_end l.encoder) l.place (λ lists. HavePlaces l.cube.dims lists (take l.condition-index l.conditions));
  grow : Grow g.E.Encoder.may_end g.E.Encoder.suits g.E.Encoder.has_name g.E.Encoder.keeps l.place l.cube (ComparesWith l.conditions) l.fn.encoder l.encoder;
}
