use Rattle.std.proofs.Common.{List, [], subst, sym, refl, arith}
use Rattle.std.proofs.lemmas.List.Sorted.{IsPermutation-refl}
use Rattle.agg_fold.specs.Standing.{StandsFor}
use Rattle.agg_fold.specs.declared.groups.Groups.{Groups}
use Rattle.cube_values.specs.declared.query.BoundQuery.{BoundQuery}
use Rattle.cube_values.specs.declared.row.CodedRow.{CodedRow}
use Rattle.query_cases.proofs.changes.followed.Goals as goal

pub apply-requires-2 : goal.apply-requires-2
apply-requires-2 c =
    let (rows, t) = c.requires in
    let followed = c.in_ok-apply.ensures.ok in
    let same : (rs : List CodedRow) (groups : Groups) → StandsFor c.args.watch.now.query rs groups → StandsFor c.apply.new.self.query rs groups =
    λ rs groups s. subst (λ (q : BoundQuery). StandsFor q rs groups) (sym followed.query_is) s in
    let shown = followed.change [] rows [] rows t.none t.come t.go (record { rest = []; had = IsPermutation-refl {X = CodedRow} []; has = refl }) in
    record {
      rows = rows;
      more = [];
      less = rows;
      rest = [];
      shown = shown;
      comes = rw (c.swap.ensures.x_after) (same [] _ t.go);
      goes = rw (c.swap.ensures.y_after) (same rows _ t.come);
      had = IsPermutation-refl rows;
      few = omega (arith, shown.few);
    }
