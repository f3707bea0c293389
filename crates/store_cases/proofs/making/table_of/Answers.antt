use Rattle.std.proofs.Common.{[], arith}
use Rattle.brick_store.specs.Rows.{rows_shown}
use Rattle.store_cases.proofs.making.table_of.Goals as goal

pub scan-requires-clause-room : goal.scan-requires-clause-room
scan-requires-clause-room g c = ([], c.new-partial.ensures c.args.query.now, omega arith)

pub finish-requires : goal.finish-requires
finish-requires g c =
    let query = c.args.query.now in
    let brick = c.args.brick.now in
    let stands = c.in_ok-scan.ensures [] (c.new-partial.ensures query) in
    (rows_shown query.span c.args.snapshot.now brick.entries brick.rows, stands, omega (arith, stands.few))
