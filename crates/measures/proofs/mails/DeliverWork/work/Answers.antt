use Rattle.std.proofs.Common.{◌+◌, arith}
use Rattle.std.proofs.lemmas.List.FromFn.{sum_by-map-range_with_len_more}
use Rattle.measures.proofs.mails.DeliverWork.work.Goals as goal

pub jobs-preserved : goal.jobs-preserved
jobs-preserved c =
    let next = sum_by-map-range_with_len_more (λ answer. answer) (λ job. job + c.args.self.now.more) 0 c.jobs.job c.jobs.job (omega arith) in
    (c.delivered-answer.ensures.empty, omega (arith, next, c.delivered-answer.ensures.answer, c.jobs.invariant.1))
