use Rattle.std.proofs.Common.{ℕ, ◌-◌, ◌^◌, false, List, [], subst, arith}
use Rattle.agg_fold.specs.Standing.{StandsFor}
use Rattle.brick_store.specs.Rows.{rows_shown}
use Rattle.measured_rows.proofs.scans.scanned.Goals as goal

pub scan-requires-clause-room : goal.scan-requires-clause-room
scan-requires-clause-room c = ([], c.new-partial.ensures c.args.query.now, omega (arith, c.requires.few))

pub returns : goal.returns
returns c =
    subst (λ (deps : List ℕ). StandsFor c.args.query.now (rows_shown c.args.query.now.span
    (record { epoch = 2 ^ 64 - 1; deps = deps; own = false }) c.args.brick.now.entries c.args.brick.now.rows)
    c.scan.new.into.groups)
    c.new.ensures (c.in_ok-scan.ensures [] (c.new-partial.ensures c.args.query.now))
