use Rattle.shard_work.proofs.Served.{has-done}
use Rattle.shard_work.proofs.jobs.do_job.Goals as goal

pub reply_to-requires-clause-done : goal.reply_to-requires-clause-done
reply_to-requires-clause-done g c = (
  c.args.job,
  has-done (g.P.CellCaller.own c.args.caller.now) (g.P.CellCaller.own c.make_call-answer.new.caller)
      (g.P.CellCaller.number c.args.caller.now) c.args.number c.args.client c.args.job c.shard_call_in-call.result c.make_call-answer.result
      c.make_call-answer.ensures.own c.requires.taken,
)
