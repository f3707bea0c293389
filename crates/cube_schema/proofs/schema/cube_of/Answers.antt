use Rattle.std.proofs.Common.{length, get_or, arith, ap, ◌∙◌}
use Rattle.cube_schema.proofs.Sound.{one_more, sound_cube}
use Rattle.cube_schema.proofs.schema.cube_of.Goals as goal

pub dims-preserved : goal.dims-preserved
dims-preserved c =
    let same = c.as_slice-dim-items.ensures in
    let is = c.dim-item.is ∙ ap (λ dims. get_or dims c.dims.dim-index c.dim-item.result) same in
    one_more c.args.decl.now.dims c.dims.dim-index c.dim-item.result c.size_of.result c.dims.sizes c.push.new.self c.dims.texts c.push-in-dims.new.self (omega (arith, ap length same)) is (rw c.size_of.ensures.value at c.size_of.ensures.small) c.size_of.ensures.value c.dims.invariant c.in_ok-push.ensures.ok c.in_ok-push-2.ensures.ok

pub returns-clause-sound : goal.returns-clause-sound
returns-clause-sound c =
    sound_cube c.args.decl.now c.dims.dim-index c.dims.sizes c.dims.texts c.len.result c.requires (omega (arith, ap length c.as_slice-dim-items.ensures)) c.dims.invariant c.len.ensures
