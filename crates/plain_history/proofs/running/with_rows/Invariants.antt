use Rattle.std.proofs.Common.{◌≡◌, ◌++◌, take, map}
use Rattle.plain_history.proofs.running.with_rows.Given as goal

abbrev pub invariant-loop-row : goal.invariant-loop-row
invariant-loop-row l =
    map (λ r. r.now) l.after.items ≡ map (λ r. r.now) l.initial.after.items ++ take l.row-index l.new
