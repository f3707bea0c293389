use Rattle.std.proofs.Common.{◌≤◌, ◌<◌, ℕ, length, subst, ◌∙◌, arith}
use Rattle.std.proofs.lemmas.List.{length_push}
use Rattle.cube_journal.specs.declared.reply.Rejection.{Rejection}
use Rattle.cube_run.specs.RunText.{shown_rejections}
use Rattle.row_encoding.proofs.LoadSteps.{kept_more, kept_same}
use Rattle.row_encoding.proofs.load.BadRecords.add.Goals as goal

pub returns-in_ok-push-clause-told : goal.returns-in_ok-push-clause-told
returns-in_ok-push-clause-told c = λ all tell.
    let r : Rejection = record { number = c.args.number; why = c.args.why } in
    let few : length c.args.self.now.first < shown_rejections = subst (λ (n : ℕ). n < shown_rejections) c.len.ensures c.if-len-lt-SHOWN_REJECTIONS.true in
    record {
      count = let l = length_push all r in let t = tell.count in omega (arith, l, t);
      first = c.in_ok-push.ensures.ok ∙ kept_more shown_rejections all c.args.self.now.first r tell.first few;
    }

pub returns-else-len-lt-SHOWN_REJECTIONS-clause-told : goal.returns-else-len-lt-SHOWN_REJECTIONS-clause-told
returns-else-len-lt-SHOWN_REJECTIONS-clause-told c = λ all tell.
    let r : Rejection = record { number = c.args.number; why = c.args.why } in
    let many : shown_rejections ≤ length c.args.self.now.first = subst (λ (n : ℕ). shown_rejections ≤ n) c.len.ensures c.if-len-lt-SHOWN_REJECTIONS.false in
    record {
      count = let l = length_push all r in let t = tell.count in omega (arith, l, t);
      first = kept_same shown_rejections all c.args.self.now.first r tell.first many;
    }
