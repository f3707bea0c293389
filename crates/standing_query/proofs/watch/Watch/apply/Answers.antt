use Rattle.std.proofs.Common.{List, ◌++◌, refl, sym, subst, arith}
use Rattle.cube_values.specs.declared.row.CodedRow.{CodedRow}
use Rattle.agg_fold.specs.Standing.{StandsFor}
use Rattle.standing_query.proofs.Changes.{made_with}
use Rattle.standing_query.proofs.watch.Watch.apply.Goals as goal

pub remove-requires-clause-held : goal.remove-requires-clause-held
remove-requires-clause-held c =
    let can = rw (← c.self.view_is) at c.requires in
    record {
      rows = can.rows ++ can.more;
      more = can.less;
      rest = can.rest ++ can.more;
      made = made_with can.rows can.more can.less can.rest can.had;
      whole = c.in_ok-merge.ensures.ok can.more can.comes can.rows can.shown;
      part = can.goes;
    }

pub invariant_of-self-2 : goal.invariant_of-self-2
invariant_of-self-2 c =
    let can = rw (← c.self.view_is) at c.requires in
    let left = c.remove.ensures (can.rows ++ can.more) can.less (can.rest ++ can.more)
    (made_with can.rows can.more can.less can.rest can.had) can.goes
    (c.in_ok-merge.ensures.ok can.more can.comes can.rows can.shown) in
    (c.self.invariant.0, (can.rest ++ can.more, left, omega (arith, left.few)))

pub returns-clause-ok : goal.returns-clause-ok
returns-clause-ok c = rw (← c.self.view_is) (record {
  query_is = refl;
  change = λ rows more less now shown comes goes changed.
      subst (λ (rs : List CodedRow). StandsFor c.self.inside.query rs c.remove.new.self.groups) (sym changed.has)
      (c.remove.ensures (rows ++ more) less (changed.rest ++ more) (made_with rows more less changed.rest changed.had) goes
      (c.in_ok-merge.ensures.ok more comes rows shown));
})
