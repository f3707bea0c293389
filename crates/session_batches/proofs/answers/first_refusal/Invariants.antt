use Rattle.std.proofs.Common.{◌≡◌, length}
use Rattle.session_batches.specs.Refusals.{first_refusal, put_by_answer}
use Rattle.session_batches.proofs.answers.first_refusal.Given as goal

abbrev pub invariant-shards : goal.invariant-shards
invariant-shards l =
    first_refusal put_by_answer l.shards_left l.answers_left ≡ first_refusal put_by_answer l.shards l.answers

abbrev pub decreases-shards : goal.decreases-shards
decreases-shards l = length l.shards_left
