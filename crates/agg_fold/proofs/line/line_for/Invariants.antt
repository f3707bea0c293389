use Rattle.std.proofs.Common.{◌≡◌, ◌++◌, map, drop}
use Rattle.std.specs.List.{zip}
use Rattle.agg_fold.specs.Lines.{field_for}
use Rattle.agg_fold.proofs.line.line_for.Given as goal

abbrev pub invariant-items : goal.invariant-items
invariant-items l =
    l.fields.items ++ map (λ p. field_for l.query.group l.values l.count p.0 p.1) (zip (drop l.i l.query.items) (drop l.i l.tallies)) ≡ map (λ p. field_for l.query.group l.values l.count p.0 p.1) (zip l.query.items l.tallies)
