use Rattle.std.proofs.Common.{◌≡◌, take, map}
use Rattle.cube_values.specs.Answer.{key_of}
use Rattle.plain_history.specs.Tables.{line_of_key}
use Rattle.plain_history.proofs.tables.table_lines.Given as goal

abbrev pub invariant-loop-first : goal.invariant-loop-first
invariant-loop-first l =
    l.lines.items ≡ map (line_of_key l.group l.items (map (λ r. r.now) l.rows)) (map (λ r. key_of l.group r.now) (take l.first-index l.firsts))
