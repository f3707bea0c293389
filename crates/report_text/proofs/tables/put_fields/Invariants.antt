use Rattle.std.proofs.Common.{◌≡◌, ◌++◌, length}
use Rattle.cube_journal.specs.Replies.{fields_text}
use Rattle.report_text.proofs.tables.put_fields.Given as goal

abbrev pub invariant-fields : goal.invariant-fields
invariant-fields l = l.out.items ++ fields_text l.left ≡ l.fn.out.items ++ fields_text l.fields

abbrev pub decreases-fields : goal.decreases-fields
decreases-fields l = length l.left
