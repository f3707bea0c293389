use Rattle.std.proofs.Common.{◌+◌, List, drop, subst, sym, arith}
use Rattle.brick_store.specs.Bricks.{BrickState}
use Rattle.brick_map.specs.Batches.{run_at}
use Rattle.brick_map.proofs.Appending.{AreBetween, between_all, between_drop, between_none, taker_at}
use Rattle.brick_map.proofs.append.append_runs.Goals as goal

pub loop-run-init : goal.loop-run-init
loop-run-init c =
    (0, between_none c.args.shape.now c.args.epoch c.args.batch.now.rows c.args.list.now c.args.runs.now c.requires.runs c.requires.bricks c.requires.room)

pub append-requires : goal.append-requires
append-requires c =
    let h = c.loop-run.invariant in
    let run = taker_at c.args.shape.now c.args.epoch c.args.batch.now.rows c.args.list.now c.loop-run.list c.args.runs.now c.loop-run.run-index h.0 (omega arith) c.requires.rows h.1 in
    record { some = run.0.some; within = run.0.within; takes = run.1 }

pub loop-run-preserved : goal.loop-run-preserved
loop-run-preserved c =
    let l = c.loop-run in
    let runs = c.args.runs.now in
    let P : List BrickState → Type 0 = λ bricks. AreBetween c.args.shape.now c.args.epoch c.args.batch.now.rows c.args.list.now bricks (drop (l.run-index + 1) runs) (run_at runs l.run-index).to in
    ((run_at runs l.run-index).to, subst P (sym c.append.ensures) (between_drop c.args.shape.now c.args.epoch c.args.batch.now.rows c.args.list.now l.list runs l.run-index l.invariant.0 (omega arith) c.requires.rows l.invariant.1))

pub returns : goal.returns
returns c = between_all c.args.shape.now c.args.epoch c.args.batch.now.rows c.args.list.now c.loop-run.list c.args.runs.now c.loop-run.run-index c.loop-run.invariant.0 (omega arith) c.loop-run.invariant.1
