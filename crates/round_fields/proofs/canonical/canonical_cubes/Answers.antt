use Rattle.std.proofs.Common.{ap, sym, ◌∙◌}
use Rattle.cube_language.specs.Cubes.{cubes_text}
use Rattle.round_fields.proofs.Told.{told_is_some, told_of_other, told_of_fault, never}
use Rattle.round_fields.proofs.canonical.canonical_cubes.Goals as goal

pub returns-then-canonical : goal.returns-then-canonical
returns-then-canonical c = λ told tells.
    told_is_some c.a_text_declares_or_has_one_fault.ensures.one_list told tells c.args.text.now c.in-Ok.cubes.items c.in-Ok.ensures.declared
    (c.in_ok-canonical-in-Ok.ensures.0 c.if-canonical.true ∙ ap cubes_text c.as_slice.ensures.value)

pub returns-in-Ok : goal.returns-in-Ok
returns-in-Ok c = λ told tells.
    told_of_other c.a_text_declares_or_has_one_fault.ensures.one_list told tells c.args.text.now c.in-Ok.cubes.items c.in-Ok.ensures.declared
    (λ same. never c.in_ok-canonical-in-Ok.canonical c.if-canonical.false (c.in_ok-canonical-in-Ok.ensures.1 (same ∙ ap cubes_text (sym c.as_slice.ensures.value))))

pub returns-in-Err-Fault : goal.returns-in-Err-Fault
returns-in-Err-Fault c = λ told tells.
    told_of_fault c.a_text_declares_or_has_one_fault.ensures.no_fault told tells c.args.text.now c.in-Err-Fault.field-0-0
    (rw c.in-Err-Fault.field-0-is at c.in-Err-Fault.ensures.fault)
