use Rattle.std.proofs.Common.{◌-◌, All, length, take, drop, sym, subst, arith}
use Rattle.std.proofs.lemmas.List.Elements.{All-take, All-drop, All-push}
use Rattle.cube_values.specs.Shapes.{IsSoundSize}
use Rattle.cube_values.specs.Spans.{IsSoundPart}
use Rattle.cube_values.specs.declared.shape.Size.{Size}
use Rattle.condition_spans.specs.CodedConditions.{coded_conditions}
use Rattle.condition_spans.proofs.Parts.{parts_more, parts_all, one_fewer}
use Rattle.condition_spans.proofs.span.parts_of.Goals as goal

pub sizes-preserved : goal.sizes-preserved
sizes-preserved c =
    let zeros : Size = record { cardinality = 0; range = 0 } in
    let left = c.sizes.left.now in
    let fewer = one_fewer left c.in-len1-up.len_at_least in
    record {
      parts = parts_more (coded_conditions c.args.codes.now c.args.conditions.now) c.sizes.place c.args.sizes.now left
          c.sizes.parts.items c.push.new.self.items c.in_ok-part_at.field-0 zeros c.in-len1-up.len_at_least
          c.in_ok-part_at.ensures.has c.in_ok-push.ensures.items c.sizes.invariant.parts;
      count = omega (arith, fewer, c.sizes.invariant.count);
      solid = All-take IsSoundSize (length left - 1) (drop 1 left) (All-drop IsSoundSize 1 left c.sizes.invariant.solid);
      sound = subst (All IsSoundPart) (sym c.in_ok-push.ensures.items)
          (All-push IsSoundPart c.sizes.parts.items c.in_ok-part_at.field-0 c.sizes.invariant.sound
          c.in_ok-part_at.ensures.sound);
    }

pub returns-clause-parts : goal.returns-clause-parts
returns-clause-parts c =
    parts_all (coded_conditions c.args.codes.now c.args.conditions.now) c.sizes.place c.args.sizes.now c.sizes.left.now
    c.sizes.parts.items c.in_default.len_below c.sizes.invariant.parts
