use Rattle.std.proofs.Common.{◌-◌, length, ◌∙◌, arith}
use Rattle.cube_values.specs.declared.entry.Entry.TheVariants.{Run}
use Rattle.round_reading.proofs.EntryLaws.{last_joins}
use Rattle.round_reading.proofs.entries.joins_last.Goals as goal

pub returns-in-len1-up : goal.returns-in-len1-up
returns-in-len1-up c =
    c.is_one_with.ensures ∙ last_joins c.args.entries.now (length c.args.entries.now - 1) (Run 0 0) c.args.next (omega (arith, c.in-len1-up.len_at_least))
