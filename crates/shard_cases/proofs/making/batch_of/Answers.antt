use Rattle.std.proofs.Common.{◌<◌, ◌∷◌, [], All, List, length, pos, refl, sym, ap, subst, ◌∙◌, arith}
use Rattle.std.proofs.lemmas.List.{length-append}
use Rattle.std.proofs.lemmas.List.Elements.{All-push}
use Rattle.cube_values.specs.Batches.{Batch}
use Rattle.cube_values.specs.declared.row.CodedRow.{CodedRow}
use Rattle.brick_map.specs.Batches.{IsRowOfCube}
use Rattle.shard_cases.specs.Cases.{case_shape}
use Rattle.shard_cases.proofs.making.batch_of.Goals as goal

pub rows-preserved : goal.rows-preserved
rows-preserved g c =
    let before = c.rows.invariant in
    let old : List CodedRow = c.rows.batch.rows in
    let row : CodedRow = record { coords = c.args.x ∷ []; metrics = pos 1 ∷ [] } in
    let low : c.args.x < 2 = omega arith in
    let one : IsRowOfCube case_shape row = record { coords = (low, tt); metrics = refl } in
    let e = c.push.ensures in
    let long = length-append old (row ∷ []) in
    let many = ap (λ (b : Batch). length b.rows) e in
    let room = ap (λ (b : Batch). b.room) e in
    record {
      own = subst (All (IsRowOfCube case_shape)) (sym (ap (λ (b : Batch). b.rows) e)) (All-push (IsRowOfCube case_shape) old row before.own one);
      dims = ap (λ (b : Batch). b.dims) e ∙ before.dims;
      width = ap (λ (b : Batch). b.width) e ∙ before.width;
      many = omega (arith, many, long, before.many);
      room = omega (arith, room, before.room);
    }
