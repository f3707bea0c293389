-- The rows that one sight shows and another does not, by their number.
use Rattle.std.proofs.Common.{◌≡◌, ℕ, ◌+◌, Bool, true, false, not, ◌&&◌, List, [], ◌∷◌, refl, arith}
use Rattle.std.specs.List.{count_by}
use Rattle.cube_values.specs.declared.row.CodedRow.{CodedRow}
use Rattle.core_events.specs.ShardView.{BrickEntry, RowRun, RowMark, rows_shown_to}
use Rattle.core_events.specs.Runs.{Sight, sight_before_mark, shows_run, rows_shown_besides}
use Rattle.core_events.proofs.Counts.{number_where, count-run}

exchange : (x y : Bool) (n : ℕ) → number_where x n + number_where (y && not x) n ≡ number_where y n + number_where (x && not y) n
exchange true true n = refl
exchange true false n = omega arith
exchange false true n = omega arith
exchange false false n = refl

pub delta-counts : (c : CodedRow → Bool) (one other : Sight) (xs : List BrickEntry)
    → count_by c (rows_shown_to other.epochs other.marks xs) + count_by c (rows_shown_besides one other xs)
    ≡ count_by c (rows_shown_to one.epochs one.marks xs) + count_by c (rows_shown_besides other one xs)
delta-counts c one other [] = refl
delta-counts c one other (RowRun epoch rows ∷ older) =
    let x = shows_run other epoch older in
    let y = shows_run one epoch older in
    let n = count_by c rows in
    let before = delta-counts c one other older in
    let a = count-run c (rows_shown_to other.epochs other.marks older) x rows in
    let b = count-run c (rows_shown_besides one other older) (y && not x) rows in
    let d = count-run c (rows_shown_to one.epochs one.marks older) y rows in
    let e = count-run c (rows_shown_besides other one older) (x && not y) rows in
    let change = exchange x y n in
    omega (arith, before, a, b, d, e, change)
delta-counts c one other (RowMark epoch ∷ older) = delta-counts c (sight_before_mark epoch one) (sight_before_mark epoch other) older
