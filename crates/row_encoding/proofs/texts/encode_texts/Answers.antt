use Rattle.std.proofs.Common.{List, subst}
use Rattle.std.proofs.lemmas.List.{take_all}
use Rattle.cube_values.specs.declared.operation.Condition.{Condition}
use Rattle.condition_spans.specs.Codes.{lists_at}
use Rattle.row_encoding.proofs.Growing.{grow_more}
use Rattle.row_encoding.proofs.TextNumbers.{among_conditions, one_more_condition}
use Rattle.row_encoding.specs.CodedTexts.{HavePlaces}
use Rattle.row_encoding.proofs.TextPlaces.{condition_places}
use Rattle.row_encoding.proofs.texts.encode_texts.Goals as goal

pub returns-in_err-append_numbers-clause-grow : goal.returns-in_err-append_numbers-clause-grow
returns-in_err-append_numbers-clause-grow g c =
    grow_more g.met.E.Encoder.carries_on c.conditions.invariant.grow c.append_numbers.ensures.grow
    (among_conditions c.args.conditions.now c.conditions.condition-index c.condition-item.result c.values_of_test.result.now c.conditions-test.true c.condition-item.is c.values_of_test.ensures)

pub conditions-preserved : goal.conditions-preserved
conditions-preserved g c = record {
  numbers = λ names end are.
      one_more_condition (lists_at names c.args.place) c.args.conditions.now c.conditions.condition-index c.condition-item.result c.values_of_test.result.now
      c.conditions.numbers.items c.append_numbers.new.numbers.items c.conditions-test.true c.condition-item.is c.values_of_test.ensures
      (c.conditions.invariant.numbers names (c.append_numbers.ensures.grow.later names end) are) (c.in_ok-append_numbers.ensures.numbers names end are);
  places = λ names end.
      condition_places c.args.cube.now.dims (lists_at names c.args.place) c.args.conditions.now c.conditions.condition-index c.condition-item.result
      c.values_of_test.result.now c.conditions-test.true c.condition-item.is c.values_of_test.ensures
      (c.conditions.invariant.places names (c.append_numbers.ensures.grow.later names end)) (c.in_ok-append_numbers.ensures.places names end);
  grow = grow_more g.met.E.Encoder.carries_on c.conditions.invariant.grow c.append_numbers.ensures.grow
      (among_conditions c.args.conditions.now c.conditions.condition-index c.condition-item.result c.values_of_test.result.now c.conditions-test.true c.condition-item.is c.values_of_test.ensures);
}

pub returns-clause-places : goal.returns-clause-places
returns-clause-places g c = λ names end.
    subst (λ (conditions : List Condition). HavePlaces c.args.cube.now.dims (lists_at names c.args.place) conditions)
    (take_all c.conditions.condition-index c.args.conditions.now c.conditions-test.false)
    (c.conditions.invariant.places names end)
