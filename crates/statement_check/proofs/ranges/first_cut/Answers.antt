use Rattle.std.proofs.Common.{◌<◌, ◌-◌, length, drop, arith}
use Rattle.std.proofs.lemmas.List.Elements.{All-take, All-drop}
use Rattle.cube_language.specs.declared.decl.DimDecl.{DimDecl}
use Rattle.statement_check.proofs.Fronts.{one_more}
use Rattle.statement_check.proofs.ranges.first_cut.Goals as goal

pub dims-preserved : goal.dims-preserved
dims-preserved c =
    let aligned = c.are_aligned.ensures.0 c.if-are_aligned.true in
    let P = λ (dim : DimDecl). 0 < dim.range in
    record {
      front = one_more c.args.conds.now c.args.decl.now.dims c.dims.left.now c.dim-item.result c.dims.invariant.front
          (omega (arith, c.in-len1-up.len_at_least)) c.dim-item.is aligned;
      solid = All-take P (length c.dims.left.now - 1) (drop 1 c.dims.left.now)
          (All-drop P 1 c.dims.left.now c.dims.invariant.solid);
    }
