use Rattle.std.proofs.Common.{◌≡◌, ◌+◌, ◌<◌, ◌^◌, ◌++◌, length}
use Rattle.cube_journal.specs.WholeText.{replies_text}
use Rattle.report_text.proofs.whole.put_replies.Given as goal

abbrev pub invariant-replies : goal.invariant-replies
invariant-replies l =
    (l.out.items ++ replies_text l.session l.statement l.left
    ≡ l.fn.out.items ++ replies_text l.session l.first l.replies)
    × (l.statement + length l.left < 2 ^ 32)

abbrev pub decreases-replies : goal.decreases-replies
decreases-replies l = length l.left
