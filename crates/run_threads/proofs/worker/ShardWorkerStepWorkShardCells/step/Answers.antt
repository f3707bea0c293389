use Rattle.std.proofs.Common.{◌≡◌, ◌+◌, [], sym, subst}
use Rattle.std.specs.Prelude.{MatchBool}
use Rattle.turn_board.specs.Passes.{callers_of}
use Rattle.shard_work.specs.Serving.{HasServed, HasServedAll}
use Rattle.run_threads.specs.CoreWorks.{MayServeShard}
use Rattle.run_threads.proofs.ServedSteps.{served-so}
use Rattle.run_threads.proofs.worker.ShardWorkerStepWorkShardCells.step.Goals as goal

pub serve_waiting-requires-clause-callers : goal.serve_waiting-requires-clause-callers
serve_waiting-requires-clause-callers g c =
    let begun = c.requires.begun in
    (subst (λ w. MayServeShard w.size.shards w.size.sessions w.number (callers_of c.args.board.now)
    (g.P.CellCaller.opening c.args.caller.now) (g.P.CellCaller.number c.args.caller.now)) (sym begun.2.0) begun.1).all

pub serve_waiting-requires-clause-there : goal.serve_waiting-requires-clause-there
serve_waiting-requires-clause-there g c =
    let begun = c.requires.begun in
    (subst (λ w. MayServeShard w.size.shards w.size.sessions w.number (callers_of c.args.board.now)
    (g.P.CellCaller.opening c.args.caller.now) (g.P.CellCaller.number c.args.caller.now)) (sym begun.2.0) begun.1).there

pub serve_waiting-requires-clause-worker : goal.serve_waiting-requires-clause-worker
serve_waiting-requires-clause-worker g c =
    let begun = c.requires.begun in
    (subst (λ w. MayServeShard w.size.shards w.size.sessions w.number (callers_of c.args.board.now)
    (g.P.CellCaller.opening c.args.caller.now) (g.P.CellCaller.number c.args.caller.now)) (sym begun.2.0) begun.1).worker

pub serve_waiting-requires-clause-idle : goal.serve_waiting-requires-clause-idle
serve_waiting-requires-clause-idle g c = c.requires.begun.2.1.idle

pub returns-clause-goes_on : goal.returns-clause-goes_on
returns-clause-goes_on g c first may so_far =
    let number = g.P.CellCaller.number c.args.caller.now in
    let before = g.P.CellCaller.own c.args.caller.now in
    let now = g.P.CellCaller.own c.serve_waiting.new.caller in
    let e = c.serve_waiting.ensures in
    let w = c.args.self.now in
    subst (λ f. MatchBool c.serve_waiting.result (HasServedAll number f.number (2 + f.size.shards + f.number) [] now)
    ((w ≡ first) × HasServed number f.number (2 + f.size.shards + f.number) [] now)) so_far.0
    (served-so number w.number (2 + w.size.shards + w.number) c.serve_waiting.result (w.size.sessions + 2 + w.size.shards) []
    before now so_far.0
    (subst (λ f. HasServed number f.number (2 + f.size.shards + f.number) [] before) (sym so_far.0) so_far.1)
    e.served e.all)
