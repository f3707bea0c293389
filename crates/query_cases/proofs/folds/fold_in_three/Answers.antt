use Rattle.std.proofs.Common.{◌++◌, length-append, arith}
use Rattle.query_cases.proofs.folds.fold_in_three.Goals as goal

pub merge-requires-clause-room : goal.merge-requires-clause-room
merge-requires-clause-room c =
    let (a, s, n) = c.in_ok-total.ensures in
    let (b, t, m) = c.in_ok-first.ensures in
    (a, s, omega (arith, t.count, n, m))

pub merge-requires-clause-other : goal.merge-requires-clause-other
merge-requires-clause-other c =
    let (b, t, m) = c.in_ok-first.ensures in
    (b, t, omega (arith, t.few))

pub merge-requires-2 : goal.merge-requires-2
merge-requires-2 c =
    let (a, s, n) = c.in_ok-total.ensures in
    let (b, t, m) = c.in_ok-first.ensures in
    let (d, u, k) = c.in_ok-second.ensures in
    record {
      room = (a ++ b, c.in_ok-merge.ensures.ok b t a s, omega (arith, length-append a b, u.count, n, m, k));
      other = (d, u, omega (arith, u.few));
    }

pub returns : goal.returns
returns c =
    let (a, s, n) = c.in_ok-total.ensures in
    let (b, t, m) = c.in_ok-first.ensures in
    let (d, u, k) = c.in_ok-second.ensures in
    ((a ++ b) ++ d, c.in_ok-merge-2.ensures.ok d u (a ++ b) (c.in_ok-merge.ensures.ok b t a s))
