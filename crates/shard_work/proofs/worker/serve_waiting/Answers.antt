use Rattle.std.proofs.Common.{◌∙◌, ◌+◌, ℕ, [], ◌∷◌, ◌++◌, refl, ap, subst, arith}
use Rattle.mail_cell.specs.declared.answer.Taken.TheVariants.{Job, Empty}
use Rattle.shard_work.proofs.Served.{HasDone, done-none, done-one, done-then-none, done-most}
use Rattle.shard_work.specs.Serving.{HasDoneJob, take_entry}
use Rattle.shard_work.proofs.worker.serve_waiting.Goals as goal

pub jobs-preserved : goal.jobs-preserved
jobs-preserved g c =
    let held = c.jobs.invariant in
    let took = c.in-Job.ensures in
    let did = c.do_job.ensures in
    let own = g.P.CellCaller.own in
    let cell = 2 + c.args.size.now.shards + c.args.number in (
      did.board,
      did.opening ∙ took.opening ∙ held.1,
      did.number ∙ took.number ∙ held.2,
      did.others ∙ took.others ∙ held.3,
      done-one (g.P.CellCaller.number c.args.caller.now) c.args.number cell (own c.args.caller.now) (own c.jobs.caller)
          (own c.take_job.new.caller) (own c.do_job.new.caller) c.jobs.counter c.in-Job.client c.in-Job.job held.4
          (took.own ∙ ap (λ (n : ℕ). own c.jobs.caller ++ take_entry n cell (Job c.in-Job.client c.in-Job.job) ∷ []) held.2)
          (subst (λ (n : ℕ). HasDoneJob n c.args.number cell c.in-Job.client c.in-Job.job (own c.take_job.new.caller) (own c.do_job.new.caller))
          (took.number ∙ held.2) did.done),
    )

pub returns-in-Empty-clause-served : goal.returns-in-Empty-clause-served
returns-in-Empty-clause-served g c =
    let held = c.jobs.invariant in
    let took = c.in-Empty.ensures in
    let own = g.P.CellCaller.own in
    let cell = 2 + c.args.size.now.shards + c.args.number in
    done-then-none (g.P.CellCaller.number c.args.caller.now) c.args.number cell (own c.args.caller.now) (own c.jobs.caller)
    (own c.take_job.new.caller) c.jobs.counter (c.args.size.now.sessions + 2 + c.args.size.now.shards) held.4
    (took.own ∙ ap (λ (n : ℕ). own c.jobs.caller ++ take_entry n cell Empty ∷ []) held.2)

pub jobs-init : goal.jobs-init
jobs-init g c = (
  c.requires.board,
  refl,
  refl,
  refl,
  done-none (g.P.CellCaller.number c.args.caller.now) c.args.number (2 + c.args.size.now.shards + c.args.number)
      (g.P.CellCaller.own c.args.caller.now) c.requires.idle,
)

pub returns-clause-served : goal.returns-clause-served
returns-clause-served g c =
    let most = c.args.size.now.sessions + 2 + c.args.size.now.shards in
    let number = g.P.CellCaller.number c.args.caller.now in
    let cell = 2 + c.args.size.now.shards + c.args.number in
    let before = g.P.CellCaller.own c.args.caller.now in
    let now = g.P.CellCaller.own c.jobs.caller in
    done-most number c.args.number cell before now most
    (subst (λ (n : ℕ). HasDone number c.args.number cell before now n)
    (omega (arith, c.jobs-test.false, c.jobs.auto.counter-end, c.callers-end.ensures)) c.jobs.invariant.4)
