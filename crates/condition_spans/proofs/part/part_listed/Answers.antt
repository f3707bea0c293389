use Rattle.std.proofs.Common.{◌==◌, ap, ◌∙◌}
use Rattle.std.specs.List.{list_any}
use Rattle.condition_spans.specs.CodedConditions.{coded_values}
use Rattle.condition_spans.proofs.Among.{among_has}
use Rattle.condition_spans.proofs.part.part_listed.Goals as goal

pub returns-clause-has : goal.returns-clause-has
returns-clause-has c = λ x below.
    ap (list_any (λ d. d == x)) c.from_vec.ensures ∙ c.in_ok-coords.ensures.same x
    ∙ among_has c.args.cardinality x (coded_values c.args.codes.now c.args.values.now) below
