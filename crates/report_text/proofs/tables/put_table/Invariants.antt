use Rattle.std.proofs.Common.{◌≡◌, ◌++◌, take}
use Rattle.cube_journal.specs.Replies.{table_text}
use Rattle.report_text.proofs.tables.put_table.Given as goal

abbrev pub invariant-lines : goal.invariant-lines
invariant-lines l = l.out.items ≡ l.fn.out.items ++ table_text (take l.line-index l.lines)
