use Rattle.std.proofs.Common.{◌<◌, ◌++◌, [], ◌∷◌, length, map, Bor, ap, ◌∙◌, arith}
use Rattle.cube_values.specs.declared.row.Row.{Row}
use Rattle.cube_values.specs.Answer.{key_of}
use Rattle.plain_history.specs.Tables.{line_of_key}
use Rattle.plain_history.proofs.KeyPlaces.{one_more_key}
use Rattle.plain_history.proofs.tables.table_lines.Goals as goal

pub loop-first-preserved : goal.loop-first-preserved
loop-first-preserved c =
    let g = line_of_key c.args.group.now c.args.items.now (map (λ r. r.now) c.args.rows.now) in
    let f = λ (r : Bor Row). key_of c.args.group.now r.now in
    let in_range : c.loop-first.first-index < length c.args.firsts.now = omega arith in
    c.in_ok-push.ensures.items
    ∙ ap (λ line. c.loop-first.lines.items ++ line ∷ []) c.in_ok-group_line.ensures
    ∙ one_more_key g f c.args.firsts.now c.loop-first.first-index c.first-item.result c.loop-first.lines.items in_range c.first-item.is c.loop-first.invariant
