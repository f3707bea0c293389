use Rattle.std.proofs.Common.{[], All, sym, subst, arith}
use Rattle.std.proofs.lemmas.List.Sorted.{IsPermutation-refl}
use Rattle.cube_values.specs.declared.query.BoundQuery.{BoundQuery}
use Rattle.agg_fold.specs.Tallies.{IsAdditive}
use Rattle.query_cases.specs.TwoRows.{three_and_five}
use Rattle.query_cases.proofs.WorkedRows.{both_additive}
use Rattle.query_cases.proofs.folds.over_none_left.Goals as goal

pub remove-requires-clause-additive : goal.remove-requires-clause-additive
remove-requires-clause-additive c = subst (λ (q : BoundQuery). All IsAdditive q.items) (sym c.requires.query) both_additive

pub remove-requires-clause-held : goal.remove-requires-clause-held
remove-requires-clause-held c = record {
  rows = three_and_five;
  more = three_and_five;
  rest = [];
  made = IsPermutation-refl three_and_five;
  whole = c.in_ok-total.ensures c.args.query.now three_and_five c.requires.two;
  part = c.requires.two;
}

pub finish-requires : goal.finish-requires
finish-requires c =
    let s = c.remove.ensures three_and_five three_and_five [] (IsPermutation-refl three_and_five) c.requires.two (c.in_ok-total.ensures c.args.query.now three_and_five c.requires.two) in
    ([], s, omega (arith, s.few))
