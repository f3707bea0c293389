use Rattle.std.proofs.Common.{◌++◌, ◌∷◌, [], sym, ◌∙◌, arith}
use Rattle.std.proofs.lemmas.List.{take_all, take_more}
use Rattle.brick_store.specs.Whole.{starts_of}
use Rattle.brick_store.proofs.Starts.{starts_long, start_at, length_there}
use Rattle.brick_store.proofs.parts.starts_of.Goals as goal

pub coord_of-requires-clause-offset : goal.coord_of-requires-clause-offset
coord_of-requires-clause-offset c =
    length_there c.args.shape.now.sizes c.args.number c.loop-dim.dim c.requires.shape.sizes c.requires.number (omega arith)

pub loop-dim-preserved : goal.loop-dim-preserved
loop-dim-preserved c =
    let l = c.loop-dim in
    let sizes = c.args.shape.now.sizes in
    let starts = starts_of sizes c.args.number in
    let value = c.coord_of.ensures.value ∙ sym (start_at sizes c.args.number l.dim c.requires.shape.sizes c.requires.number (omega arith)) in
    record {
      starts = c.push_reserved.ensures.items ∙ (λ t. l.invariant.starts t ++ value t ∷ []) ∙ sym (take_more starts l.dim 0 (omega (arith, starts_long sizes c.args.number)));
      count = omega (arith, c.push_reserved.ensures.len, l.invariant.count);
      room = c.push_reserved.ensures.capacity ∙ l.invariant.room;
    }

pub returns : goal.returns
returns c =
    let sizes = c.args.shape.now.sizes in
    c.loop-dim.invariant.starts ∙ take_all c.loop-dim.dim (starts_of sizes c.args.number) (omega (arith, starts_long sizes c.args.number))
