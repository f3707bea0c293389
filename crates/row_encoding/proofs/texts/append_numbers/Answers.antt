use Rattle.std.proofs.Common.{List, subst}
use Rattle.std.proofs.lemmas.List.{take_all}
use Rattle.cube_values.specs.declared.value.Value.{Value}
use Rattle.condition_spans.specs.Codes.{lists_at, texts_at}
use Rattle.row_encoding.proofs.Growing.{grow_more}
use Rattle.row_encoding.specs.FinalCodes.{dim_at}
use Rattle.row_encoding.proofs.TextNumbers.{among_values, one_more_value}
use Rattle.row_encoding.specs.CodedTexts.{HavePlacesAmong}
use Rattle.row_encoding.proofs.TextPlaces.{value_places}
use Rattle.row_encoding.proofs.texts.append_numbers.Goals as goal

pub values-preserved : goal.values-preserved
values-preserved g c = record {
  numbers = λ names end are.
      one_more_value (texts_at (lists_at names c.args.place) c.args.dim) c.args.values.now c.values.value-index c.value-item.result
      c.args.numbers.now.items c.values.numbers.items c.append_number.new.numbers.items c.values-test.true c.value-item.is
      (c.values.invariant.numbers names (c.append_number.ensures.grow.later names end) are) (c.in_ok-append_number.ensures.numbers names end are);
  places = λ names end.
      value_places (dim_at c.args.cube.now.dims c.args.dim) (texts_at (lists_at names c.args.place) c.args.dim) c.args.values.now c.values.value-index
      c.value-item.result c.values-test.true c.value-item.is (c.values.invariant.places names (c.append_number.ensures.grow.later names end))
      (c.in_ok-append_number.ensures.places names end);
  grow = grow_more g.met.E.Encoder.carries_on c.values.invariant.grow c.append_number.ensures.grow (among_values c.args.dim c.args.values.now c.values.value-index c.value-item.result c.values-test.true c.value-item.is);
}

pub returns-clause-places : goal.returns-clause-places
returns-clause-places g c = λ names end.
    subst (λ (values : List Value). HavePlacesAmong (dim_at c.args.cube.now.dims c.args.dim)
    (texts_at (lists_at names c.args.place) c.args.dim) values)
    (take_all c.values.value-index c.args.values.now c.values-test.false) (c.values.invariant.places names end)
