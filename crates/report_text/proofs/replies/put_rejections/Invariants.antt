use Rattle.std.proofs.Common.{◌≡◌, ◌++◌, take}
use Rattle.std.specs.List.{flat_map}
use Rattle.cube_journal.specs.Replies.{rejection_text}
use Rattle.report_text.proofs.replies.put_rejections.Given as goal

abbrev pub invariant-list : goal.invariant-list
invariant-list l = l.out.items ≡ l.fn.out.items ++ flat_map rejection_text (take l.rejection-index l.list)
