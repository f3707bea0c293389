use Rattle.std.proofs.Common.{◌≡◌, ◌++◌, take}
use Rattle.std.specs.List.{flat_map}
use Rattle.report_text.specs.Lines.{entry_line}
use Rattle.report_text.proofs.entries.put_lines.Given as goal

abbrev pub invariant-entries : goal.invariant-entries
invariant-entries l = l.out.items ≡ l.fn.out.items ++ flat_map entry_line (take l.entry-index l.entries)
