use Rattle.std.proofs.Common.{◌++◌, [], List, Option, Some, length, sym, ap, ◌∙◌, append-nil}
use Rattle.std.specs.Option.{option_map_or}
use Rattle.std.proofs.lemmas.Bool.{ltb-false}
use Rattle.std.proofs.lemmas.Option.{slice_get-get_or, slice_get_past}
use Rattle.cube_rounds.specs.Bricks.{BrickPart}
use Rattle.brick_store.specs.Bricks.{BrickState}
use Rattle.brick_store.specs.Copies.{round_part}
use Rattle.brick_map.specs.Copied.{part_with_entries}
use Rattle.brick_map.proofs.copies.add_part_at.Goals as goal

pub returns-in-None : goal.returns-in-None
returns-in-None c =
    let bricks = c.args.bricks.now in
    let old : List BrickPart = c.args.parts.now.items in
    let none = slice_get_past bricks c.args.place (ltb-false c.args.place (length bricks) (sym c.in-None.ensures.lookup.0)) in
    sym (append-nil old) ∙ ap (λ (o : Option BrickState). old ++ option_map_or (λ b. part_with_entries (round_part c.args.from c.args.to b)) o []) (sym none)

pub returns-in-Some : goal.returns-in-Some
returns-in-Some c =
    let bricks = c.args.bricks.now in
    let old : List BrickPart = c.args.parts.now.items in
    let b = c.in-Some.brick.now in
    let there = slice_get-get_or bricks c.args.place b c.in-Some.ensures.lookup.3.0 ∙ ap Some (sym c.in-Some.ensures.lookup.1) in
    rw there c.add_part.ensures
