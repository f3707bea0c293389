use Rattle.std.proofs.Common.{◌++◌, sym, ◌∙◌}
use Rattle.kept_batches.proofs.Runs.{run_from_first}
use Rattle.kept_batches.proofs.parts.put_run.Goals as goal

pub returns-in_ok-put_rows-clause-rows : goal.returns-in_ok-put_rows-clause-rows
returns-in_ok-put_rows-clause-rows c =
    let f = c.first_shown-first.ensures in
    let seen = sym c.sees.ensures.value ∙ c.if-sees.true in
    let e = run_from_first c.args.snapshot.now c.args.limit.now c.args.epoch c.args.from c.first_shown-first.result
    c.args.end c.args.rows.now.rows seen f.low f.high c.requires.within f.first in
    c.in_ok-put_rows.ensures.rows ∙ λ k. c.args.batch.now.rows ++ sym e k
