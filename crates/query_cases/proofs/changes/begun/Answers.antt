use Rattle.std.proofs.Common.{ℤ, w64, FitsSigned, List, [], subst, sym, arith, rules}
use Rattle.std.proofs.lemmas.Int.{to_z-of_z}
use Rattle.agg_fold.specs.Standing.{StandsFor}
use Rattle.agg_fold.specs.declared.groups.Groups.{Groups}
use Rattle.cube_values.specs.declared.query.BoundQuery.{BoundQuery}
use Rattle.cube_values.specs.declared.row.CodedRow.{CodedRow}
use Rattle.query_cases.specs.Trials.{one_row}
use Rattle.query_cases.proofs.changes.begun.Goals as goal

pub add_row-requires-clause-room : goal.add_row-requires-clause-room
add_row-requires-clause-room c = ([], c.new-came.ensures c.in_ok-query.query, omega arith)

pub new-requires-clause-rows : goal.new-requires-clause-rows
new-requires-clause-rows c = ([], c.new-none.ensures c.in_ok-query.query, omega arith)

pub returns : goal.returns
returns c =
    let begun = c.in_ok-new.ensures in
    let same : (rows : List CodedRow) (groups : Groups) → StandsFor c.in_ok-query.query rows groups → StandsFor c.in_ok-new.field-0.query rows groups =
    λ rows groups s. subst (λ (q : BoundQuery). StandsFor q rows groups) (sym begun.query_is) s in
    let fits : FitsSigned w64 c.args.metric = search rules in
    record {
      none = same [] c.in_ok-new.field-0.groups (begun.shows [] (c.new-none.ensures c.in_ok-query.query));
      come = same (one_row c.args.coord c.args.metric) c.add_row.new.self.groups
          (subst (λ (n : ℤ). StandsFor c.in_ok-query.query (one_row c.args.coord n) c.add_row.new.self.groups)
          (to_z-of_z w64 c.args.metric fits)
          (c.in_ok-add_row.ensures.ok [] (c.new-came.ensures c.in_ok-query.query)));
      go = same [] c.new-none.result.groups (c.new-none.ensures c.in_ok-query.query);
    }
