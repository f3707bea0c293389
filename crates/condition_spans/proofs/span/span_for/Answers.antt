use Rattle.std.proofs.Common.{List, length, sym, subst}
use Rattle.cube_values.specs.declared.shape.Size.{Size}
use Rattle.cube_values.specs.declared.span.Part.{Part}
use Rattle.condition_spans.specs.CodedConditions.{coded_conditions}
use Rattle.condition_spans.specs.Spans.{ArePartsOf}
use Rattle.condition_spans.proofs.Parts.{span_from_parts, as_many_parts, coded_within}
use Rattle.condition_spans.proofs.span.span_for.Goals as goal

pub returns-clause-span : goal.returns-clause-span
returns-clause-span c =
    let sizes = c.args.shape.now.sizes in
    let conditions = coded_conditions c.args.codes.now c.args.conditions.now in
    let there = subst (λ (s : List Size). ArePartsOf conditions 0 s c.in_ok-parts.parts.items) c.as_slice.ensures
    c.in_ok-parts.ensures.parts in
    let are = subst (λ (parts : List Part). ArePartsOf conditions 0 sizes parts) (sym c.from_vec.ensures) there in
    span_from_parts sizes conditions (record { parts = c.from_vec.result }) are
    (coded_within (length sizes) c.args.codes.now c.args.conditions.now c.requires.places)

pub returns-clause-same : goal.returns-clause-same
returns-clause-same c =
    let sizes = c.args.shape.now.sizes in
    let conditions = coded_conditions c.args.codes.now c.args.conditions.now in
    let there = subst (λ (s : List Size). ArePartsOf conditions 0 s c.in_ok-parts.parts.items) c.as_slice.ensures
    c.in_ok-parts.ensures.parts in
    as_many_parts conditions 0 sizes c.from_vec.result
    (subst (λ (parts : List Part). ArePartsOf conditions 0 sizes parts) (sym c.from_vec.ensures) there)
